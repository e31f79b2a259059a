-- Fields of a header: big-endian numbers of any width, and single bits.
use Rattle.std.specs.Prelude.{ℕ, zero, suc, ◌+◌, ◌*◌, ◌/◌, ◌%◌, Bool, true, false, List, [], ◌∷◌, ◌++◌, get_or, eqb}

-- the number that the n bytes from `at` on are, the first byte the highest
unfoldable pub be_at : List ℕ → ℕ → ℕ → ℕ
be_at s at zero = 0
be_at s at (suc n) = be_at s at n * 256 + get_or s (at + n) 0

-- the n bytes of v, the highest first; what is above n bytes is left out
unfoldable pub bytes_of : ℕ → ℕ → List ℕ
bytes_of zero v = []
bytes_of (suc n) v = bytes_of n (v / 256) ++ (v % 256 ∷ [])

-- byte i
abbrev pub byte : List ℕ → ℕ → ℕ
byte s i = get_or s i 0

-- the bit of b whose weight is k
abbrev pub bit : ℕ → ℕ → Bool
bit b k = eqb (b / k % 2) 1

-- a where the test holds, else b
abbrev pub pick {ℓ} : {A : Type ℓ} → Bool → A → A → A
pick true a b = a
pick false a b = b

-- the tag 0xffffffff, which stands for none
abbrev pub none : ℕ
none = 0xffffffff
