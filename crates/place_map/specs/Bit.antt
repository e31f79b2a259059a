-- Follows the code: bits of a number, as the code's maps of places have them.
use Rattle.std.specs.Prelude.{ℕ, ◌/◌, ◌%◌, ◌^◌, ◌-◌, ◌≤◌, ◌<◌, ◌≡◌, List, [], ◌∷◌, get_or}
use Rattle.std.specs.Int.Bits.{bit_and, bit_or}

-- The bits of a map, one for each of the 64 places.
abbrev pub bits : ℕ
bits = 64

-- The maps of origins: one for each connection.
abbrev pub conns : ℕ
conns = 4

-- Bit d of n: 0 or 1.
unfoldable pub bit_at : ℕ → ℕ → ℕ
bit_at n d = n / 2 ^ d % 2

-- n with bit d set.
unfoldable pub with_bit : ℕ → ℕ → ℕ
with_bit n d = bit_or n (2 ^ d)

-- n, of 64 bits, without the bits of m.
unfoldable pub without : ℕ → ℕ → ℕ
without n m = bit_and n (2 ^ bits - 1 - m)

-- The maps of the four connections, each without the bits of m.
unfoldable pub each_without : List ℕ → ℕ → List ℕ
each_without maps m =
    without (get_or maps 0 0) m ∷ without (get_or maps 1 0) m ∷ without (get_or maps 2 0) m ∷ without (get_or maps 3 0) m ∷ []

-- g is the count of the bits of n that are set without a gap from the lowest on.
pub record Gapless (n g : ℕ) : Type 0 where
  pub fits : g ≤ bits
  pub set_below : (d : ℕ) → d < g → bit_at n d ≡ 1
  pub clear_at : g < bits → bit_at n g ≡ 0
