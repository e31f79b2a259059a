-- The invariant: the connections below the next number are closed.
use mathlib.Core.Path.{◌≡◌}
use Rattle.session_changes.proofs.Kept.{shut_below}
use Rattle.session_changes.proofs.close.Given as goal

abbrev pub invariant-loop-c : goal.invariant-loop-c
invariant-loop-c l = l.n ≡ shut_below l.c l.initial.n
