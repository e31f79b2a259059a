-- Paper 01's number and values of what a ledger answers to an acknowledgement, a SNACK and a resend: by the rules, and by what the code gives back.
use Rattle.std.specs.Prelude.{ℕ, Option, Some, None}
use Rattle.field.specs.Field.{pick}
use Rattle.ledger.specs.Book.{LedgerBook, place, is_good, not_held}
use Rattle.ledger.specs.Book as Book
use Rattle.ledger.specs.declared.Released.{Released}
use Rattle.ledger.specs.declared.Run.{Run}

-- "A refusal returns its number": 11 is STALE, 12 is SNACK.
pub data Answer : Type 0 where
  refused : ℕ → Answer
  acknowledged : (count : ℕ) → Answer
  run : (first count : ℕ) → Answer
  resent : (ticket : ℕ) → Answer

-- "ExpStatSN e is good if ..; it releases those before e", which are counted; STALE for "an ExpStatSN outside the ledger".
unfoldable pub acknowledging : LedgerBook → (expStatSN : ℕ) → Answer
acknowledging b e = pick (is_good b e) (acknowledged (place b e)) (refused 11)

-- "The answer is the run's first number and count"; SNACK for "a run .. not wholly held".
abbrev pub running : Book.Run → Answer
running not_held = refused 12
running (Book.run f n) = run f n

-- ---- the code's answers

abbrev pub acknowledged_answer : Option Released → Answer
acknowledged_answer None = refused 11
acknowledged_answer (Some x) = acknowledged x.count

abbrev pub run_answer : Option Run → Answer
run_answer None = refused 12
run_answer (Some x) = run x.first x.count

abbrev pub resent_answer : Option ℕ → Answer
resent_answer None = refused 12
resent_answer (Some t) = resent t
