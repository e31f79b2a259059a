-- The contract of the calls that move data, and of a record's making, for C: the words of a record before and after a call, and the words of its answer.
use Rattle.std.specs.Prelude.{ℕ, ◌≡◌, List, [], ◌∷◌}
use Rattle.task_book.specs.declared.TaskGiven.{TaskGiven}
use Rattle.task_book.specs.Record.{Making, made, making}
use Rattle.task_book.specs.Record as Record
use Rattle.book.specs.Book.{Outputs, Transfer, transfer, Answer, refused, immediate, opened, window, sent, acknowledged, run, resent, moved, told}
use Rattle.session_state.specs.Agree.{State, Did}
use Rattle.task_words.specs.TaskWords.{TaskWords, record_in}
use Rattle.answer_words.specs.Answer.{answer_words}

-- ---- a transfer

-- "They return the record after them; a refusal returns it unchanged": then every word is the one that was lent.
abbrev pub TaskAfter : Answer → TaskWords → TaskWords → Type 0
TaskAfter (refused n) t t' = t' ≡ t
TaskAfter immediate t t' = ⊥
TaskAfter opened t t' = ⊥
TaskAfter (window a) t t' = ⊥
TaskAfter (sent n) t t' = ⊥
TaskAfter (acknowledged n) t t' = ⊥
TaskAfter (run f n) t t' = ⊥
TaskAfter (resent n) t t' = ⊥
TaskAfter (moved a x) t t' = record_in t' ≡ x
TaskAfter (told r) t t' = ⊥

-- It did as the session does on the record that the words t are, the words w are its answer's, and the record's words are then t'.
pub record Moves (c : ℕ) (d : Transfer) (s : State) (t : TaskWords) (w : List ℕ) (o : Outputs) (t' : TaskWords) : Type 0 where
  pub answer : Answer
  pub did : Did (transfer c (record_in t) d) s answer o s
  pub words : w ≡ answer_words answer
  pub task : TaskAfter answer t t'

-- ---- a making

-- What C gives.
abbrev pub task_given_of : (initiatorTaskTag lun transferTag maxBurstLength maxOutstandingR2T : ℕ) → TaskGiven
task_given_of i l t b n = record { initiator_task_tag = i; lun = l; transfer_tag = t; max_burst_length = b; max_outstanding_r2t = n }

abbrev pub making_words : Making → List ℕ
making_words (Record.refused n) = n ∷ 0 ∷ 0 ∷ 0 ∷ []
making_words (made x) = 32 ∷ 0 ∷ 0 ∷ 0 ∷ []

abbrev pub MadeAfter : Making → TaskWords → TaskWords → Type 0
MadeAfter (Record.refused n) t t' = t' ≡ t
MadeAfter (made x) t t' = record_in t' ≡ x

pub record Makes (g : TaskGiven) (immediate : ℕ) (t : TaskWords) (w : List ℕ) (t' : TaskWords) : Type 0 where
  pub words : w ≡ making_words (making g immediate)
  pub task : MadeAfter (making g immediate) t t'
