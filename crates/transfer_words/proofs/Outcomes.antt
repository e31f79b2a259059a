-- A transfer on words from the session's: it was refused, and the record's words stay; or it moved the record, and they are those of the record after it.
use Prim.Native.Nat.{ℕ}
use mathlib.Core.Path.{◌≡◌, refl, ap, subst}
use mathlib.Core.List.{List}
use Rattle.task_book.specs.declared.TaskGiven.{TaskGiven}
use Rattle.task_book.specs.Record.{Record, Making, making}
use Rattle.task_book.specs.Steps as T
use Rattle.book.specs.Book.{Outputs, Transfer, transfer, refused, moved}
use Rattle.session_state.specs.Agree.{State, Did}
use Rattle.task.specs.declared.Task.{Task}
use Rattle.task.specs.Agree.{record_of}
use Rattle.task_words.specs.TaskWords.{TaskWords, record_in}
use Rattle.answer_words.specs.Answer.{answer_words}
use Rattle.transfer_words.specs.Moves.{Moves, making_words, MadeAfter, Makes}

module _ {c : ℕ} {d : Transfer} {s : State} {t : TaskWords} {w : List ℕ} {o : Outputs} where
  pub refused-moves : {n : ℕ} → Did (transfer c (record_in t) d) s (refused n) o s → w ≡ answer_words (refused n) → Moves c d s t w o t
  refused-moves {n} x e = record { answer = refused n; did = x; words = e; task = refl }

  pub moved-moves : {a : T.Answer} {x : Record} {t' : TaskWords} → Did (transfer c (record_in t) d) s (moved a x) o s → w ≡ answer_words (moved a x)
      → record_in t' ≡ x → Moves c d s t w o t'
  moved-moves {a} {x} y e q = record { answer = moved a x; did = y; words = e; task = q }

-- the record of a struct that was kept in words
pub kept_record : {t u : Task} (ts es : List ℕ) → t ≡ u → record_of t ts es ≡ record_of u ts es
kept_record ts es e = ap (λ (z : Task). record_of z ts es) e

-- a making that is known
pub makes : {g : TaskGiven} {n : ℕ} {t t' : TaskWords} {w : List ℕ} (m : Making) → m ≡ making g n → w ≡ making_words m → MadeAfter m t t' → Makes g n t w t'
makes {g} {n} {t} {t'} {w} m e x y =
    record { words = subst (λ (z : Making). w ≡ making_words z) e x; task = subst (λ (z : Making). MadeAfter z t t') e y }
