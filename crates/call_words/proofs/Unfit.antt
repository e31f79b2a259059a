-- The book's step at a send whose words are no response, guard by guard.
use Prim.Native.Nat.{ℕ, ◌≤◌, ◌<◌}
use mathlib.Core.Path.{◌≡◌, ap, ◌∙◌}
use mathlib.Core.List.{List}
use lib.ListN.{length}
use Rattle.refusal.specs.declared.Refusal.{Refusal}
use Rattle.refusal.specs.Refusal.{number}
use Rattle.response_header.specs.Response.{max_data_length}
use Rattle.response_words.specs.ResponseWords.{unfit_refusal}
use Rattle.ledger.specs.declared.Ledger.{Ledger}
use Rattle.book.specs.Book.{Book, outputs, refuse}
use Rattle.session_state.specs.Reach.{IsOpen, Unreached}
use Rattle.session_state.specs.Agree.{State, Agrees}
use Rattle.session_state.proofs.Steps.{lend-short, lend-long, reach-refused, open_at, reach-open}
use Rattle.call_words.specs.Session.{unfit_step}

module _ (b : Book) (c d : ℕ) (o : List ℕ) where
  pub unfit-short : length o < 48 → unfit_step b c d (outputs o) ≡ refuse 1 (outputs o) b
  unfolding unfit_step
  unfit-short h = lend-short b (outputs o) _ h

  module _ (h : 48 ≤ length o) where
    module _ (s : State) (g : Agrees s b) where
      pub unfit-refused : (f : Refusal) → Unreached s.session c f → unfit_step b c d (outputs o) ≡ refuse (number f) (outputs o) b
      unfolding unfit_step
      unfit-refused f u = lend-long b (outputs o) _ h ∙ reach-refused s b c (outputs o) _ f g u

      pub unfit-open : (l : Ledger) → IsOpen s.session c l → unfit_step b c d (outputs o) ≡ refuse (unfit_refusal max_data_length d) (outputs o) b
      unfolding unfit_step
      unfit-open l i =
          let v = open_at s b c l g i in
          lend-long b (outputs o) _ h ∙ reach-open b c (outputs o) _ v.book v.near v.is
          ∙ ap (λ (x : ℕ). refuse (unfit_refusal x d) (outputs o) b) v.agrees.longest
