-- Follows the code: how its struct of a task, with the two arrays that are lent with it, is a record of the rules; and for each answer the step, the
-- answer and the record after it, that it stands for. Every struct and every pair of lists is a record.
use Rattle.std.specs.Prelude.{ℕ, zero, suc, ◌+◌, ◌%◌, ◌≡◌, List, [], ◌∷◌, get_or, Result, Ok, Err}
use Rattle.refusal.specs.declared.Refusal.{Refusal}
use Rattle.refusal.specs.Refusal.{number}
use Rattle.task_book.specs.declared.Numbering.{Numbering}
use Rattle.task_book.specs.declared.DataInSequence.{DataInSequence}
use Rattle.task_book.specs.declared.DataOutSequence.{DataOutSequence}
use Rattle.task_book.specs.Record.{OpenR2T, Record, open_places, Making, refused, made}
use Rattle.task_book.specs.Steps.{Step, step, refuse, data_in, r2t, came, run, acknowledged, r2t_step}
use Rattle.task.specs.declared.Task.{Task}
use Rattle.task.specs.declared.DataInSent.{DataInSent}
use Rattle.task.specs.declared.R2tSent.{R2tSent}
use Rattle.task.specs.declared.DataOutAnswer.{DataOutAnswer}
use Rattle.task.specs.declared.DataOutAnswer.TheVariants as O
use Rattle.task.specs.declared.DataSnackAnswer.{DataSnackAnswer}
use Rattle.task.specs.declared.DataSnackAnswer.TheVariants as S

-- What lies in the arrays at a place of the ring.
abbrev pub place_of : (tags ends : List ℕ) → (at : ℕ) → OpenR2T
place_of ts es i = record { tag = get_or ts (i % open_places) 0; end = get_or es (i % open_places) 0 }

-- The open R2Ts, the oldest first: it lies at the place `first`, each further one at the next.
unfoldable pub open_of : (tags ends : List ℕ) → (first count : ℕ) → List OpenR2T
open_of ts es i zero = []
open_of ts es i (suc n) = place_of ts es i ∷ open_of ts es (i + 1) n

abbrev pub record_of : Task → (tags ends : List ℕ) → Record
record_of t ts es = record {
  given = t.given;
  numbering = t.numbering;
  data_in = t.data_in;
  data_out = t.data_out;
  open_r2ts = open_of ts es t.first_open t.open_count;
}

-- The struct after an answer: what the answer has, and else what it was.
abbrev pub with_data_in : Task → Numbering → DataInSequence → Task
with_data_in t n s = record {
  given = t.given;
  numbering = n;
  data_in = s;
  data_out = t.data_out;
  first_open = t.first_open;
  open_count = t.open_count;
}

abbrev pub with_r2t : Task → Numbering → DataOutSequence → (opened : ℕ) → Task
with_r2t t n s k = record {
  given = t.given;
  numbering = n;
  data_in = t.data_in;
  data_out = s;
  first_open = t.first_open;
  open_count = k;
}

abbrev pub with_data_out : Task → DataOutSequence → (first opened : ℕ) → Task
with_data_out t s i k = record {
  given = t.given;
  numbering = t.numbering;
  data_in = t.data_in;
  data_out = s;
  first_open = i;
  open_count = k;
}

abbrev pub with_numbering : Task → Numbering → Task
with_numbering t n = with_data_in t n t.data_in

-- ---- the answers

abbrev pub making_of : (tags ends : List ℕ) → Result Task Refusal → Making
making_of ts es (Err f) = refused (number f)
making_of ts es (Ok t) = made (record_of t ts es)

abbrev pub data_in_step_of : Task → (tags ends : List ℕ) → Result DataInSent Refusal → Step
data_in_step_of t ts es (Err f) = refuse (number f) (record_of t ts es)
data_in_step_of t ts es (Ok a) = step (data_in a.header) (record_of (with_data_in t a.numbering a.sequence) ts es)

-- With the arrays after the call.
abbrev pub r2t_step_of : Task → (tags ends : List ℕ) → Result R2tSent Refusal → Step
r2t_step_of t ts es (Err f) = refuse (number f) (record_of t ts es)
r2t_step_of t ts es (Ok a) = step (r2t a.header) (record_of (with_r2t t a.numbering a.sequence a.open_count) ts es)

-- "a refusal returns it unchanged": also what no open R2T has of the arrays.
abbrev pub R2TStays : Result R2tSent Refusal → (tags ends tags' ends' : List ℕ) → Type 0
R2TStays (Err f) ts es ts' es' = (ts' ≡ ts) × (es' ≡ es)
R2TStays (Ok a) ts es ts' es' = Unit {0}

pub record R2TDone (t : Task) (tag len : ℕ) (tags ends : List ℕ) (r : Result R2tSent Refusal) (tags' ends' : List ℕ) : Type 0 where
  pub meets : r2t_step_of t tags' ends' r ≡ r2t_step (record_of t tags ends) tag len
  pub stays : R2TStays r tags ends tags' ends'

abbrev pub data_out_step_of : Task → (tags ends : List ℕ) → DataOutAnswer → Step
data_out_step_of t ts es (O.Refused n) = refuse n (record_of t ts es)
data_out_step_of t ts es (O.Came o n s i k) = step (came o n k) (record_of (with_data_out t s i k) ts es)

abbrev pub data_snack_step_of : Task → (tags ends : List ℕ) → DataSnackAnswer → Step
data_snack_step_of t ts es (S.Refused n) = refuse n (record_of t ts es)
data_snack_step_of t ts es (S.Run b k) = step (run b k) (record_of t ts es)
data_snack_step_of t ts es (S.Acknowledged k n) = step (acknowledged k) (record_of (with_numbering t n) ts es)
data_snack_step_of t ts es (S.Restarted b k n s) = step (run b k) (record_of (with_data_in t n s) ts es)
