-- The rules in the code's struct: what they leave of its numbers.
use Prim.Native.Nat.{ℕ, ◌+◌, ◌-◌, ◌≤◌}
use mathlib.Core.Path.{◌≡◌, sym, ◌∙◌}
use mathlib.Core.Bool.{Bool, true}
use mathlib.Core.List.{[]}
use native.Mathlib.Omega.{arith}
use borrow.Author.Tests.{tests}
use lib.Dec.{leb}
use Rattle.task_book.specs.Steps.{r2t_ok}
use Rattle.task_book.proofs.Tests.{r2t-fits}
use Rattle.task.specs.declared.Task.{Task}
use Rattle.task.specs.Agree.{record_of}
use Rattle.task.proofs.Ring.{open-length}
use Rattle.task_r2t.specs.R2T.{R2TFits}

-- Bytes from o on end by e exactly where o is at most e less their count.
pub room : (o n e : ℕ) → n ≤ e → leb o (e - n) ≡ leb (o + n) e
room o n e h = grind (arith, tests)

-- What the rules of an R2T leave of the code's numbers.
pub code-fits : (t : Task) (q n : ℕ) (r : Bool) → r ≡ r2t_ok (record_of t [] []) q n → r ≡ true → R2TFits t n
code-fits t q n r told ok =
    let g = r2t-fits (record_of t [] []) q n (sym told ∙ ok) in
    record { some = g.some; end = g.end; few = rw (open-length [] [] t.first_open t.open_count) at g.places; left = g.number }

-- What the test of the rules in the code's struct is: the count of open R2Ts is the length of their list.
pub ruleset told = (room, open-length)
