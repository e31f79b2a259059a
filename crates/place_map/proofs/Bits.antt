-- Laws of a number's bits, as `bit_at` has them: std's, which say them of the code's `n >> d & 1`; and of the bits without others.
use Prim.Native.Nat.{ℕ, suc, ◌-◌, ◌/◌, ◌%◌, ◌^◌, ◌≤◌, ◌<◌, min, max}
use mathlib.Core.Path.{◌≡◌, refl}
use mathlib.Core.List.{List, [], ◌∷◌}
use native.Mathlib.Nat.{lt_of_le_of_lt}
use native.Mathlib.Omega.{arith}
use native.Mathlib.Decide.{dec_lt}
use lib.Bits.{bit_and, bit_or, and_le_l}
use lib.ListN.{length, get_or}
use mir.Syntax.{w64}
use Rattle.std.proofs.lemmas.Nat.Bits as Std
use Rattle.place_map.specs.Bit.{bit_at, without}

-- a list of four is its four elements
pub four : {A : Type 0} (d : A) (l : List A) → length l ≡ 4 → get_or l 0 d ∷ get_or l 1 d ∷ get_or l 2 d ∷ get_or l 3 d ∷ [] ≡ l
four d [] h = absurd (omega arith)
four d (a ∷ []) h = absurd (omega arith)
four d (a ∷ (b ∷ [])) h = absurd (omega arith)
four d (a ∷ (b ∷ (c ∷ []))) h = absurd (omega arith)
four d (a ∷ (b ∷ (c ∷ (e ∷ [])))) h = refl
four d (a ∷ (b ∷ (c ∷ (e ∷ (f ∷ l))))) h = absurd (omega arith)

pub bit-zero : (n : ℕ) → bit_at n 0 ≡ n % 2
unfolding bit_at
bit-zero n = Std.bit_at_lowest n

pub bit-suc : (n d : ℕ) → bit_at n (suc d) ≡ bit_at (n / 2) d
unfolding bit_at
bit-suc n d = Std.bit_at-suc n d

pub bit-lt : (n d : ℕ) → bit_at n d < 2
unfolding bit_at
bit-lt n d = omega arith

pub bit-none : (d : ℕ) → bit_at 0 d ≡ 0
unfolding bit_at
bit-none d = Std.bit_at-zero d

pub bit-or : (a b d : ℕ) → bit_at (bit_or a b) d ≡ max (bit_at a d) (bit_at b d)
unfolding bit_at
bit-or a b d = Std.bit_at_or a b d

pub bit-and : (a b d : ℕ) → bit_at (bit_and a b) d ≡ min (bit_at a d) (bit_at b d)
unfolding bit_at
bit-and a b d = Std.bit_at_and a b d

pub bit-same : (k : ℕ) → bit_at (2 ^ k) k ≡ 1
unfolding bit_at
bit-same k = Std.bit_at-pow_same k

pub bit-other : (k d : ℕ) → (d ≡ k → ⊥) → bit_at (2 ^ k) d ≡ 0
unfolding bit_at
bit-other k d h = Std.bit_at-pow_other k d h

-- a number of k bits has none from k on
pub bit_high : (k n d : ℕ) → n < 2 ^ k → k ≤ d → bit_at n d ≡ 0
unfolding bit_at
bit_high k n d h l = Std.bit_at_above n k d h l

-- the bits of 2 ^ g - 1
pub bit_below : (g d : ℕ) → d < g → bit_at (2 ^ g - 1) d ≡ 1
unfolding bit_at
bit_below g d l = Std.bit_at_ones g d l

pub bit-above : (g d : ℕ) → g ≤ d → bit_at (2 ^ g - 1) d ≡ 0
unfolding bit_at
bit-above g d l = Std.bit_at_ones_above g d l

-- the bits of a number without those of another, where it has none from 64 on
pub bit-without : (n m d : ℕ) → (64 ≤ d → bit_at n d ≡ 0) → m < 2 ^ 64 → bit_at (without n m) d ≡ min (bit_at n d) (1 - bit_at m d)
unfolding without
bit-without n m d high lm = go (dec_lt d 64)
  where
    not : d < 64 → bit_at (2 ^ 64 - 1 - m) d ≡ 1 - bit_at m d
    not l = unfold bit_at in Std.bit_at_not w64 m d lm l

    go : Dec (d < 64) → bit_at (bit_and n (2 ^ 64 - 1 - m)) d ≡ min (bit_at n d) (1 - bit_at m d)
    go (yes k) = omega (arith, bit-and n (2 ^ 64 - 1 - m) d, not k)
    go (no k) = omega (arith, bit-and n (2 ^ 64 - 1 - m) d, high (omega arith))

pub without-lt : (n m : ℕ) → n < 2 ^ 64 → without n m < 2 ^ 64
unfolding without
without-lt n m l = lt_of_le_of_lt (and_le_l n (2 ^ 64 - 1 - m)) l
