-- What the layers above may know of a refusal's number.
use mathlib.Core.Path.{◌≡◌, refl}
use mathlib.Core.Bool.{false}
use lib.Dec.{eqb}
use Rattle.refusal.specs.Refusal.{number}
use Rattle.refusal.specs.declared.Refusal.{Refusal}
use Rattle.refusal.specs.declared.Refusal.TheVariants as F

-- no refusal has the number 0
pub number-positive : (f : Refusal) → eqb (number f) 0 ≡ false
number-positive F.Buffer = refl
number-positive F.Opcode = refl
number-positive F.Field = refl
number-positive F.Length = refl
number-positive F.TooLong = refl
number-positive (F.Login s) = refl
number-positive F.NoConn = refl
number-positive F.Closed = refl
number-positive F.Open = refl
number-positive F.Full = refl
number-positive F.Stale = refl
number-positive F.Snack = refl
