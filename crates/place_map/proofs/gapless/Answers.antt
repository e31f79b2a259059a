-- `place_map::gapless` meets its contract: the zeros that end the complement are as many as the bits set without a gap.
use Prim.Native.Nat.{ℕ, ◌+◌, ◌-◌, ◌^◌, ◌<◌}
use native.Mathlib.Omega.{arith}
use native.Mathlib.Decide.{dec_lt}
use mathlib.Core.Path.{◌≡◌}
use mir.Syntax.{w64}
use Rattle.std.specs.Int.Count.{count_trailing_zeros, trailing_of_zero}
use Rattle.std.proofs.lemmas.Nat.Bits.{bit_at_ones, bit_at-trailing_ones}
use Rattle.place_map.specs.Bit.{bit_at, Gapless}
use Rattle.place_map.proofs.gapless.Goals as goal

ones : (n : ℕ) → n < 2 ^ 64 → Dec (n + 1 < 2 ^ 64) → Gapless n (count_trailing_zeros 64 (2 ^ 64 - 1 - n))
unfolding bit_at
ones n l (yes k) =
    let t = bit_at-trailing_ones w64 n k in
    record { fits = omega (arith, t.0); set_below = t.2; clear_at = λ h. t.1 }
ones n l (no k) =
    let e : n ≡ 2 ^ 64 - 1 = omega arith in
    rw (e, trailing_of_zero 64) (record { fits = omega arith; set_below = bit_at_ones 64; clear_at = λ h. absurd (omega arith) })

pub returns : goal.returns
returns c = ones c.args.held (omega arith) (dec_lt _ _)
