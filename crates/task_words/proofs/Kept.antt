-- What is kept of a record in words is the record.
use mathlib.Core.Path.{◌≡◌}
use Rattle.words.proofs.Flags.{flag-back}
use Rattle.task.specs.declared.Task.{Task}
use Rattle.task_words.specs.TaskWords.{task_of, task_numbers, task_wide}

pub kept : (t : Task) → task_of (task_numbers t) (task_wide t) ≡ t
unfolding task_of
kept t = rw (flag-back t.numbering.any_data_in)
