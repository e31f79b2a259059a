-- The contract of a transfer for C: it is that of a call, and speaks of the words of the record that it is given.
use Rattle.std.specs.Prelude.{ℕ, List}
use Rattle.book.specs.Book.{Outputs, Transfer, transfer}
use Rattle.task_words.specs.TaskWords.{TaskWords, record_in}
use Rattle.transfer_words.specs.Moves.{TaskAfter}
use Rattle.call_words.specs.Session.{SessionWords, Said}

-- A transfer leaves the session's words; the words t of the record that it is given are t' after it.
pub record SaidOn (c : ℕ) (d : Transfer) (s : SessionWords) (t : TaskWords) (w : List ℕ) (o : Outputs) (t' : TaskWords) : Type 0 where
  pub said : Said (transfer c (record_in t) d) s w o s
  pub task : TaskAfter said.answer t t'
