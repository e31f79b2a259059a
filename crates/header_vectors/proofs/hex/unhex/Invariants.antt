-- A byte is stored at each turn.
use Rattle.std.proofs.Common.{length, ◌≤◌}
use Rattle.header_vectors.proofs.hex.unhex.Given as goal

abbrev pub invariant-loop-high : goal.invariant-loop-high
invariant-loop-high l = l.n ≤ length l.out
