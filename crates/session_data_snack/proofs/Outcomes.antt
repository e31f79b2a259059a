-- The book's step at a SNACK for data: the step on the task's record that the PDU brings.
use Prim.Native.Nat.{ℕ}
use mathlib.Core.Path.{◌≡◌, refl, sym, ap, ◌∙◌}
use mathlib.Core.Bool.{true}
use mathlib.Core.List.{List}
use Rattle.field.specs.Field.{be_at}
use Rattle.request_header.specs.declared.Snack.{Snack}
use Rattle.request_header.specs.declared.Limits.{Limits}
use Rattle.request_header.specs.declared.Request.{Request}
use Rattle.request_header.specs.declared.Request.TheVariants as R
use Rattle.request_header.specs.Kind.{if_snack}
use Rattle.request_header.specs.Request as Read
use Rattle.request_header.specs.Request.{read_pdu, got, pdu_of, request_of, snack_of}
use Rattle.task_book.specs.Record.{Record}
use Rattle.task_book.specs.Steps as T
use Rattle.task.specs.Agree.{data_snack_step_of}
use Rattle.task.specs.declared.Task.{Task}
use Rattle.task.specs.declared.DataSnackAnswer.{DataSnackAnswer}
use Rattle.task.specs.declared.DataSnackAnswer.TheVariants as S
use Rattle.book.specs.Book.{OpenConnection, Book, no_outputs, data_snack, transfer, Choice, step}
use Rattle.book.specs.Book.{moved_by, data_snack_by, on_connection, transfer_by, book_step}
use Rattle.session_state.specs.Transfer.{transferred}
use Rattle.session_data_snack.specs.Reading.{data_snack_read}

module _ (x : Record) (s : List ℕ) (v f : ℕ) where
  pub snack-good : T.data_snack_step x v (be_at s 16 4) f (snack_of s) ≡ data_snack_read x v f (got (pdu_of 0x10 s))
  unfolding pdu_of request_of
  snack-good = refl

-- ---- the book's step

pub data-snack-eq : (b : Book) (c : ℕ) (x : Record) (f : ℕ) (p : List ℕ) (z : Choice)
    → book_step b (transfer c x (data_snack f p)) z ≡ on_connection b c no_outputs (λ k. data_snack_by b x f k (read_pdu k.limits p))
unfolding book_step transfer_by
data-snack-eq b c x f p z = refl

module _ (b : Book) (k : OpenConnection) where
  if-snack : (f : Snack → T.Step) (d : T.Step) (r : Request)
      → if_snack (λ q. moved_by b no_outputs k (f q)) (moved_by b no_outputs k d) r ≡ moved_by b no_outputs k (if_snack f d r)
  if-snack f d (R.NopOut q) = refl
  if-snack f d (R.ScsiCommand q) = refl
  if-snack f d (R.TaskManagement q) = refl
  if-snack f d (R.Login q) = refl
  if-snack f d (R.DataOut q) = refl
  if-snack f d (R.Logout q) = refl
  if-snack f d (R.Snack q) = refl

  snack-moved : (x : Record) (f : ℕ) (r : Read.Answer) → data_snack_by b x f k r ≡ moved_by b no_outputs k (data_snack_read x b.given.level f r)
  unfolding moved_by
  snack-moved x f (Read.refused n) = refl
  snack-moved x f (Read.got p) = if-snack (λ q. T.data_snack_step x b.given.level p.initiator_task_tag f q) (T.refuse 3 x) p.request

  -- it writes nothing
  asked-moved : (t : Task) (ts es : List ℕ) (r : DataSnackAnswer)
      → moved_by b no_outputs k (data_snack_step_of t ts es r) ≡ step (transferred (data_snack_step_of t ts es r)) no_outputs b
  unfolding moved_by
  asked-moved t ts es (S.Refused f) = refl
  asked-moved t ts es (S.Run f n) = refl
  asked-moved t ts es (S.Acknowledged n m) = refl
  asked-moved t ts es (S.Restarted f n m s) = refl

  module _ (t : Task) (ts es : List ℕ) (m : Limits) (limits : k.limits ≡ m) (x : Record) (p : List ℕ) where
    pub data-snack-live : (f v : ℕ) (r : DataSnackAnswer) → v ≡ b.given.level → data_snack_step_of t ts es r ≡ data_snack_read x v f (read_pdu m p)
        → data_snack_by b x f k (read_pdu k.limits p) ≡ step (transferred (data_snack_step_of t ts es r)) no_outputs b
    data-snack-live f v r q e =
        ap (λ (l : Limits). data_snack_by b x f k (read_pdu l p)) limits ∙ snack-moved x f (read_pdu m p)
        ∙ ap (λ (u : ℕ). moved_by b no_outputs k (data_snack_read x u f (read_pdu m p))) (sym q) ∙ rw (← e) (asked-moved t ts es r)
