-- The number is cut at each turn.
use Prim.Native.Nat.{◌≤◌}
use Rattle.header_vectors.proofs.added.Given as goal

abbrev pub invariant-loop-d : goal.invariant-loop-d
invariant-loop-d l = l.n ≤ 65535
