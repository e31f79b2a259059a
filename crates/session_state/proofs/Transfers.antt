-- A call that moves data, from the book's step known whole: it is what the step on the task's record says, and the state stays.
use mathlib.Core.Path.{◌≡◌, refl}
use Rattle.task_book.specs.Record.{Record}
use Rattle.task_book.specs.Steps as T
use Rattle.book.specs.Book.{Book, Outputs, lent, Call, Choice, from_task, moved, step, book_step}
use Rattle.session_state.specs.Agree.{State, Agrees, Stays, KeepsLent, Did}
use Rattle.session_state.specs.Transfer.{transferred}
use Rattle.session_state.proofs.Steps.{met, as_lent}

-- whatever moved, the state stays, and at a refusal also what was lent
stays-as-lent : (call : Call) (a : T.Answer) (x : Record) (s : State) (l o : Outputs) → o ≡ l → Stays call (from_task a x) s s l o
stays-as-lent call (T.refused n) x s l o q = (refl, q)
stays-as-lent call (T.data_in h) x s l o q = refl
stays-as-lent call (T.r2t h) x s l o q = refl
stays-as-lent call (T.came f n k) x s l o q = refl
stays-as-lent call (T.run f n) x s l o q = refl
stays-as-lent call (T.acknowledged n) x s l o q = refl

-- a step that writes nothing
pub as-transferred : (call : Call) (s : State) (y : T.Step) (o : Outputs) → o ≡ lent call
    → ((b : Book) → Agrees s b → book_step b call Choice.none ≡ step (transferred y) o b)
    → Did call s (transferred y) o s
as-transferred call s y o q f = record {
  meets = λ b g. met call s (transferred y) o s b b (f b g) g;
  stays = stays-as-lent call y.answer y.after s (lent call) o q;
  keeps = as_lent q;
}

-- a step that writes a header
pub as_written : (call : Call) (s : State) (a : T.Answer) (x : Record) (o : Outputs) → KeepsLent (lent call) o
    → ((b : Book) → Agrees s b → book_step b call Choice.none ≡ step (moved a x) o b) → Did call s (moved a x) o s
as_written call s a x o k f = record { meets = λ b g. met call s (moved a x) o s b b (f b g) g; stays = refl; keeps = k }
