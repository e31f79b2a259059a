-- Request L1: "For each task, keep what was asked for and what came, in a record that the caller holds and gives with each call on that task as
-- it was last answered."
use Rattle.std.specs.Prelude.{ℕ, ◌-◌, ◌^◌, Bool, false, ◌&&◌, List, [], ltb, leb}
use Rattle.field.specs.Field.{pick}
use Rattle.task_book.specs.declared.TaskGiven.{TaskGiven}
use Rattle.task_book.specs.declared.Numbering.{Numbering}
use Rattle.task_book.specs.declared.DataInSequence.{DataInSequence}
use Rattle.task_book.specs.declared.DataOutSequence.{DataOutSequence}

-- An open R2T: its Target Transfer Tag, and the offset where what it asks for ends.
pub record OpenR2T : Type 0 where
  pub tag : ℕ
  pub end : ℕ

-- open_r2ts: the R2Ts that are sent and not yet answered whole, the oldest first.
pub record Record : Type 0 where
  pub given : TaskGiven
  pub numbering : Numbering
  pub data_in : DataInSequence
  pub data_out : DataOutSequence
  pub open_r2ts : List OpenR2T

-- How many open R2Ts a record holds at most.
abbrev pub open_places : ℕ
open_places = 8

-- "fewer than 2^32 Data-In and R2T" are sent for a task, and a burst has fewer than 2^32 Data-Out: this number isn't given.
abbrev pub last_number : ℕ
last_number = 2 ^ 32 - 1

-- Buffer offsets are below this, and so no transfer reaches further.
abbrev pub offset_end : ℕ
offset_end = 2 ^ 32

-- A fresh record: nothing sent, and the immediate data, which came with the command, is all that was asked for and came.
unfoldable pub fresh_record : TaskGiven → (immediate : ℕ) → Record
fresh_record g n = record {
  given = g;
  numbering = record { sent = 0; acknowledged = 0; any_data_in = false; snack_tag = 0 };
  data_in = record { offset = 0; burst = 0 };
  data_out = record { asked = n; came = n; data_sn = 0 };
  open_r2ts = [];
}

-- "a MaxOutstandingR2T of 0 or above 8 is FIELD at the record's making"
unfoldable pub given_ok : TaskGiven → Bool
given_ok g = ltb 0 g.max_outstanding_r2t && leb g.max_outstanding_r2t open_places

-- What a making answers: a refusal's number, or the record.
pub data Making : Type 0 where
  refused : ℕ → Making
  made : Record → Making

unfoldable pub making : TaskGiven → (immediate : ℕ) → Making
making g n = pick (given_ok g) (made (fresh_record g n)) (refused 3)
