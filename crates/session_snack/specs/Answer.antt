-- Paper 01's number and values of the answer.
use Rattle.std.specs.Prelude.{ℕ, Result, Ok, Err}
use Rattle.refusal.specs.Refusal.{number}
use Rattle.refusal.specs.declared.Refusal.{Refusal}
use Rattle.ledger.specs.declared.Run.{Run}
use Rattle.book.specs.Book as Book
use Rattle.book.specs.Book.{Answer, refused, run, denied_run, from}

abbrev pub snack_answer : Result Run Refusal → Answer
snack_answer (Err f) = refused (number f)
snack_answer (Ok x) = run x.first x.count

-- of the inner functions: what a SNACK asks for, by its BegRun and RunLength
abbrev pub asked_of : Result (ℕ × ℕ) Refusal → Book.Asked
asked_of (Err f) = denied_run (number f)
asked_of (Ok x) = from x.0 x.1
