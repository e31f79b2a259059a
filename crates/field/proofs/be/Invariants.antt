use mathlib.Core.Path.{◌≡◌}
use Prim.Native.Nat.{◌<◌, ◌^◌}
use Rattle.field.specs.Field.{be_at}
use Rattle.field.proofs.be.Given as goal

abbrev pub invariant-loop-b : goal.invariant-loop-b
invariant-loop-b l = (l.v ≡ be_at l.s l.at l.b-index) × (l.v < 256 ^ l.b-index)
