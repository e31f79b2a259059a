-- The book's step at a Data-Out: the step on the task's record that the PDU brings.
use Prim.Native.Nat.{ℕ, zero, suc}
use mathlib.Core.Path.{◌≡◌, refl, ap, ◌∙◌}
use mathlib.Core.Bool.{Bool, true, false}
use mathlib.Core.List.{List, [], ◌∷◌}
use Rattle.refusal.specs.declared.Refusal.{Refusal}
use Rattle.refusal.specs.declared.Refusal.TheVariants as F
use Rattle.refusal.specs.Refusal.{number}
use Rattle.field.specs.Field.{pick, be_at}
use Rattle.request_header.specs.declared.DataOut.{DataOut}
use Rattle.request_header.specs.declared.Limits.{Limits}
use Rattle.request_header.specs.declared.Request.{Request}
use Rattle.request_header.specs.declared.Request.TheVariants as R
use Rattle.request_header.specs.Kind.{if_data_out}
use Rattle.request_header.specs.Request as Read
use Rattle.request_header.specs.Request.{read_pdu, got, pdu_of, request_of, data_out_of, data_length_of}
use Rattle.request_header.proofs.Header.{header-be, header-data-out, header-data-length}
use Rattle.request_refusal.proofs.OneKind.{not-data-out}
use Rattle.task_book.specs.Record.{OpenR2T, Record}
use Rattle.task_book.specs.Steps as T
use Rattle.task_book.specs.Steps.{data_out_step, data_out_at, data_out_ok}
use Rattle.book.specs.Book.{OpenConnection, Book, no_outputs, data_out, transfer, Choice, step}
use Rattle.book.specs.Book.{moved_by, data_out_by, on_connection, transfer_by, book_step}
use Rattle.session_state.specs.Transfer.{transferred}
use Rattle.session_data_out.specs.Reading.{data_out_read, data_out_judged}

pub number-not-0 : (f : Refusal) → number f ≡ 0 → ⊥
number-not-0 F.Buffer e = cc
number-not-0 F.Opcode e = cc
number-not-0 F.Field e = cc
number-not-0 F.Length e = cc
number-not-0 F.TooLong e = cc
number-not-0 (F.Login s) e = cc
number-not-0 F.NoConn e = cc
number-not-0 F.Closed e = cc
number-not-0 F.Open e = cc
number-not-0 F.Full e = cc
number-not-0 F.Stale e = cc
number-not-0 F.Snack e = cc

module _ (x : Record) (s : List ℕ) where
  pub data-out-other : (o : ℕ) → (o ≡ 0x05 → ⊥) → data_out_read x (got (pdu_of o s)) ≡ T.refuse 3 x
  unfolding pdu_of
  data-out-other o h = not-data-out s (T.refuse 3 x) (λ q. T.data_out_step x (be_at s 16 4) q (data_length_of s)) o h

  pub data-out-good : T.data_out_step x (be_at s 16 4) (data_out_of s) (data_length_of s) ≡ data_out_read x (got (pdu_of 0x05 s))
  unfolding pdu_of request_of
  data-out-good = refl

  -- a number that refuses
  pub data-out-refused : (n : ℕ) → (n ≡ 0 → ⊥) → data_out_judged x s n ≡ T.refuse n x
  data-out-refused zero h = absurd (h refl)
  data-out-refused (suc n) h = refl

-- what is read of the header is read of the PDU
pub ruleset header_reads = (header-be, header-data-out, header-data-length)

-- ---- the book's step

pub data-out-eq : (b : Book) (c : ℕ) (x : Record) (p : List ℕ) (z : Choice)
    → book_step b (transfer c x (data_out p)) z ≡ on_connection b c no_outputs (λ k. data_out_by b x k (read_pdu k.limits p))
unfolding book_step transfer_by
data-out-eq b c x p z = refl

module _ (b : Book) (k : OpenConnection) where
  if-data-out : (f : DataOut → T.Step) (d : T.Step) (r : Request)
      → if_data_out (λ q. moved_by b no_outputs k (f q)) (moved_by b no_outputs k d) r ≡ moved_by b no_outputs k (if_data_out f d r)
  if-data-out f d (R.NopOut q) = refl
  if-data-out f d (R.ScsiCommand q) = refl
  if-data-out f d (R.TaskManagement q) = refl
  if-data-out f d (R.Login q) = refl
  if-data-out f d (R.DataOut q) = refl
  if-data-out f d (R.Logout q) = refl
  if-data-out f d (R.Snack q) = refl

  data-out-moved : (x : Record) (r : Read.Answer) → data_out_by b x k r ≡ moved_by b no_outputs k (data_out_read x r)
  unfolding moved_by
  data-out-moved x (Read.refused n) = refl
  data-out-moved x (Read.got p) = if-data-out (λ q. T.data_out_step x p.initiator_task_tag q p.data_segment_length) (T.refuse 3 x) p.request

  -- it writes nothing
  pick-moved : (ok : Bool) (f n j : ℕ) (y x : Record)
      → moved_by b no_outputs k (pick ok (T.step (T.came f n j) y) (T.refuse 3 x)) ≡ step (transferred (pick ok (T.step (T.came f n j) y) (T.refuse 3 x))) no_outputs b
  unfolding moved_by
  pick-moved true f n j y x = refl
  pick-moved false f n j y x = refl

  at_moved : (x : Record) (l : List OpenR2T) (i : ℕ) (q : DataOut) (n : ℕ)
      → moved_by b no_outputs k (data_out_at x l i q n) ≡ step (transferred (data_out_at x l i q n)) no_outputs b
  unfolding moved_by
  at_moved x [] i q n = refl
  at_moved x (o ∷ l) i q n = pick-moved (data_out_ok x o i q n) _ _ _ _ x

  out-moved : (x : Record) (p : List ℕ) (n : ℕ)
      → moved_by b no_outputs k (data_out_judged x p n) ≡ step (transferred (data_out_judged x p n)) no_outputs b
  unfolding moved_by data_out_step
  out-moved x p zero = at_moved x x.open_r2ts (be_at p 16 4) (data_out_of p) (data_length_of p)
  out-moved x p (suc n) = refl

  module _ (m : Limits) (limits : k.limits ≡ m) (x : Record) (p : List ℕ) where
    pub data-out-live : (n : ℕ) → data_out_judged x p n ≡ data_out_read x (read_pdu m p)
        → data_out_by b x k (read_pdu k.limits p) ≡ step (transferred (data_out_judged x p n)) no_outputs b
    data-out-live n e = ap (λ (l : Limits). data_out_by b x k (read_pdu l p)) limits ∙ data-out-moved x (read_pdu m p) ∙ rw (← e) (out-moved x p n)
