-- The invariant: after some good pairs, the form of what is left, with that many pairs fewer, is the form of the whole.
use mathlib.Core.Path.{◌≡◌}
use Prim.Native.Nat.{◌-◌, ◌≤◌}
use lib.ListN.{length}
use Rattle.text_block.specs.Block.{formed}
use Rattle.text_block.proofs.block.well_formed.Given as goal

abbrev pub invariant-loop : goal.invariant-loop
invariant-loop l = (length l.rest ≤ length l.s) × (formed (64 - l.counter) l.rest ≡ formed 64 l.s)
