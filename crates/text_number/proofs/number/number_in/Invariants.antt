-- The invariant: the bytes passed are digits, and v is what they are worth, so what is left decides.
use mathlib.Core.Path.{◌≡◌}
use Prim.Native.Nat.{◌<◌, ◌^◌}
use lib.ListN.{drop}
use Rattle.text.specs.Text.{all}
use Rattle.text_number.specs.Number.{worth, is_digit}
use Rattle.text_number.proofs.number.number_in.Given as goal

abbrev pub invariant-loop-b : goal.invariant-loop-b
invariant-loop-b l =
    (l.v < 2 ^ 64) × (all (is_digit l.base) (drop l.b-index l.s) ≡ all (is_digit l.base) l.s) × (worth l.base l.v (drop l.b-index l.s) ≡ worth l.base 0 l.s)
