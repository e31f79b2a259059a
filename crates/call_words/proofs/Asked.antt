-- What one ask says, whichever function it is put to: its answer is the book's, in words, and a refusal leaves all that was lent.
use Prim.Native.Nat.{ℕ}
use mathlib.Core.List.{List}
use mathlib.Core.Path.{◌≡◌, sym, ap, subst, ◌∙◌}
use Rattle.book.specs.Book.{Book, Outputs, Answer, Step, choice_of}
use Rattle.book.specs.Events.{Event}
use Rattle.session_state.specs.Agree.{State, Agrees}
use Rattle.session_state.specs.History.{Ran}
use Rattle.answer_words.specs.Answer.{answer_words}
use Rattle.call_words.specs.Session.{SessionWords, state_of, Asked, calls, sends_unfit, SaidBy, LeavesWords, unfit_step}
use Rattle.call_words.specs.History.{asked_step, answer_by, lent_by, and_calls}

-- C sees its words
pub words-by : (q : Asked) (s : SessionWords) (w : List ℕ) (o : Outputs) (s' : SessionWords) (x : SaidBy q s w o s') → w ≡ answer_words (answer_by q s w o s' x)
words-by (calls c) s w o s' x = x.words
words-by (sends_unfit c n l) s w o s' x = x.words

-- the book's answer
pub record StepBy (q : Asked) (b : Book) (a : Answer) (o : Outputs) (s' : SessionWords) : Type 0 where
  pub answer : a ≡ (asked_step b q (choice_of a)).answer
  pub out : o ≡ (asked_step b q (choice_of a)).out
  pub agrees : Agrees (state_of s') (asked_step b q (choice_of a)).book

pub step_by : (q : Asked) (s : SessionWords) (w : List ℕ) (o : Outputs) (s' : SessionWords) (x : SaidBy q s w o s') (b : Book)
    → Agrees (state_of s) b → StepBy q b (answer_by q s w o s' x) o s'
unfolding asked_step
step_by (calls c) s w o s' x b g = let m = x.did.meets b g in record { answer = m.answer; out = m.out; agrees = m.agrees }
step_by (sends_unfit c n l) s w o s' x b g =
    let e = x.meets b g in
    record {
      answer = sym (ap (λ (y : Step). y.answer) e);
      out = x.stays.1 ∙ sym (ap (λ (y : Step). y.out) e);
      agrees = subst (λ (z : SessionWords). Agrees (state_of z) (unfit_step b c n l).book) (sym x.stays.0)
          (subst (Agrees (state_of s)) (sym (ap (λ (y : Step). y.book) e)) g);
    }

-- the calls among what is asked
pub next-by : (q : Asked) (s : SessionWords) (w : List ℕ) (o : Outputs) (s' : SessionWords) (x : SaidBy q s w o s') (es : List Event) (t : State)
    → Ran (state_of s') es t → Ran (state_of s) (and_calls q (answer_by q s w o s' x) o es) t
next-by (calls c) s w o s' x es t r = Ran.next x.did r
next-by (sends_unfit c n l) s w o s' x es t r = subst (λ (z : SessionWords). Ran (state_of z) es t) x.stays.0 r

-- what a refusal leaves
pub left_by : (q : Asked) (s : SessionWords) (w : List ℕ) (o : Outputs) (s' : SessionWords) (x : SaidBy q s w o s')
    → LeavesWords (answer_by q s w o s' x) s s' (lent_by q) o
left_by (calls c) s w o s' x = x.stays
left_by (sends_unfit c n l) s w o s' x = x.stays
