-- Bits and numbers as words.
use Rattle.std.specs.Prelude.{ℕ, ◌^◌, Bool, not, List, get_or, eqb, ltb}
use Rattle.field.specs.Field.{pick}

-- a bit is 1 where it is set
abbrev pub flag_word : Bool → ℕ
flag_word b = pick b 1 0

-- a bit is set where its word isn't 0
abbrev pub is_set : ℕ → Bool
is_set x = not (eqb x 0)

-- word i
abbrev pub word : List ℕ → ℕ → ℕ
word w i = get_or w i 0

-- word i has at most n bits; a flag has one
abbrev pub fits : List ℕ → (bits i : ℕ) → Bool
fits w n i = ltb (word w i) (2 ^ n)
