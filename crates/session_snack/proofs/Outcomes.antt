-- The book's step at a SNACK, by its outcome.
use Prim.Native.Nat.{ℕ, ◌<◌}
use mathlib.Core.Path.{◌≡◌, refl, sym, ap, ◌∙◌}
use mathlib.Core.List.{List}
use Rattle.request_header.specs.declared.Limits.{Limits}
use Rattle.request_header.specs.Request.{read_pdu}
use Rattle.ledger.specs.Book as L
use Rattle.ledger.specs.Answer as LA
use Rattle.book.specs.Book.{OpenConnection, live, Book, no_outputs, snack, Choice, Answer, refused, acknowledged, run, resent, step, conn_of}
use Rattle.book.specs.Book.{on_connection, step_of_run, Asked, asked, denied_run, from, snack_by, book_step}
use Rattle.window.specs.Agree.{Commands}
use Rattle.ledger.specs.Agree.{Statuses, Agrees}
use Rattle.ledger.specs.declared.Ledger.{Ledger}
use Rattle.session_state.specs.declared.Session.{Session}
use Rattle.session_state.specs.Limits.{limits_of}
use Rattle.session_state.specs.Reach.{IsOpen}
use Rattle.session_state.specs.Agree.{Did, state}
use Rattle.session_state.proofs.Steps.{met, as_lent, refusing, reach-open, open_at}

pub snack-eq : (b : Book) (c : ℕ) (p : List ℕ) (x : Choice)
    → book_step b (snack c p) x ≡ on_connection b c no_outputs (λ k. snack_by b k.ledger (asked b.given.level (read_pdu k.limits p)))
unfolding book_step
snack-eq b c p x = refl

pub snack-live : (b : Book) (c : ℕ) (p : List ℕ) (k : OpenConnection) (m : Limits) (y : Asked) (v : ℕ) (x : Choice)
    → c < 4 → conn_of b c ≡ live k → k.limits ≡ m → v ≡ b.given.level → y ≡ asked v (read_pdu m p) → book_step b (snack c p) x ≡ snack_by b k.ledger y
unfolding book_step
snack-live b c p k m y v x l e em ev h =
    reach-open b c no_outputs (λ q. snack_by b q.ledger (asked b.given.level (read_pdu q.limits p))) k l e ∙ rw (em, ← ev, ← h)

pub snack-refused : (b : Book) (q : L.LedgerBook) (n : ℕ) → snack_by b q (denied_run n) ≡ step (refused n) no_outputs b
unfolding snack_by
snack-refused b q n = refl

-- what the ledger answers to a run is the session's
abbrev ledger_answer : LA.Answer → Answer
ledger_answer (LA.refused n) = refused n
ledger_answer (LA.acknowledged n) = acknowledged n
ledger_answer (LA.run f n) = run f n
ledger_answer (LA.resent t) = resent t

run_step : (b : Book) (x : L.Run) → step_of_run b x ≡ step (ledger_answer (LA.running x)) no_outputs b
unfolding step_of_run
run_step b L.not_held = refl
run_step b (L.run f n) = refl

pub snack-run : (b : Book) (q : L.LedgerBook) (f n : ℕ) (a : LA.Answer) → a ≡ LA.running (L.run_of q f n)
    → snack_by b q (from f n) ≡ step (ledger_answer a) no_outputs b
unfolding snack_by
snack-run b q f n a e = run_step b (L.run_of q f n) ∙ ap (λ (x : LA.Answer). step (ledger_answer x) no_outputs b) (sym e)

-- what the PDU asks for, and of a run what the ledger says
module _ (s : Session) (cs : Commands) (ss : Statuses) (c : ℕ) (p : List ℕ) (l : Ledger) (i : IsOpen s c l) where
  pub asks_nothing : (n : ℕ) → denied_run n ≡ asked s.level (read_pdu (limits_of s c) p)
      → Did (snack c p) (state s cs ss) (refused n) no_outputs (state s cs ss)
  asks_nothing n e = refusing _ _ n no_outputs refl (λ b g.
      let v = open_at (state s cs ss) b c l g i in
      snack-live b c p v.book _ _ s.level _ v.near v.is v.agrees.limits g.level e ∙ snack-refused b v.book.ledger n)

  pub asks_none : (f n : ℕ) → from f n ≡ asked s.level (read_pdu (limits_of s c) p)
      → ((b : L.LedgerBook) → Agrees c l ss b → LA.refused 12 ≡ LA.running (L.run_of b f n))
      → Did (snack c p) (state s cs ss) (refused 12) no_outputs (state s cs ss)
  asks_none f n e h = refusing _ _ 12 no_outputs refl (λ b g.
      let v = open_at (state s cs ss) b c l g i in
      snack-live b c p v.book _ _ s.level _ v.near v.is v.agrees.limits g.level e
      ∙ snack-run b v.book.ledger f n _ (h v.book.ledger v.agrees.ledger))

  pub asks_run : (f n : ℕ) → from f n ≡ asked s.level (read_pdu (limits_of s c) p) → (x y : ℕ)
      → ((b : L.LedgerBook) → Agrees c l ss b → LA.run x y ≡ LA.running (L.run_of b f n))
      → Did (snack c p) (state s cs ss) (run x y) no_outputs (state s cs ss)
  asks_run f n e x y h = record {
    meets = λ b g.
        let v = open_at (state s cs ss) b c l g i in
        met _ _ _ _ _ b b
        (snack-live b c p v.book _ _ s.level _ v.near v.is v.agrees.limits g.level e
        ∙ snack-run b v.book.ledger f n _ (h v.book.ledger v.agrees.ledger)) g;
    stays = refl;
    keeps = as_lent refl;
  }
