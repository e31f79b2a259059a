-- The invariant: the digits of what is left, then those written, are the digits of n. The measure is what is left.
use mathlib.Core.Path.{◌≡◌}
use mathlib.Core.List.{◌++◌}
use Prim.Native.Nat.{◌≤◌, ◌<◌, ◌+◌, ◌^◌}
use lib.ListN.{length, drop}
use Rattle.text_number.specs.Number.{decimal}
use Rattle.text_number.proofs.number.put_decimal.Given as goal

abbrev pub invariant-loop-rest : goal.invariant-loop-rest
invariant-loop-rest l = (l.i ≤ 9) × (l.rest < 10 ^ (l.i + 1)) × (length l.digits ≡ 10) × (decimal (l.i + 1) l.rest ++ drop (l.i + 1) l.digits ≡ decimal 10 l.n)

abbrev pub decreases-loop-rest : goal.decreases-loop-rest
decreases-loop-rest l = l.rest
