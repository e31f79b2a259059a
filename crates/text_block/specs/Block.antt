-- A text block: its form, and its pairs.
use Rattle.std.specs.Prelude.{ℕ, zero, suc, ◌+◌, Bool, ◌&&◌, ◌||◌, List, [], ◌∷◌, length, get_or, drop, eqb, leb}
use Rattle.text.specs.Text.{within, pick, before, after, has, all}

abbrev pub upper : ℕ → Bool
upper b = within 65 90 b

-- letters, digits or . - + @ _
unfoldable pub name_byte : ℕ → Bool
name_byte b =
    (((((((upper b || within 97 122 b) || within 48 57 b) || eqb b 46) || eqb b 45) || eqb b 43) || eqb b 64) || eqb b 95)

-- 1 to 63 bytes: an upper-case letter, then name bytes (also # directly after a leading X)
unfoldable pub good_name : List ℕ → Bool
good_name n =
    ((within 1 63 (length n) && upper (get_or n 0 0))
    && (((eqb (length n) 1 || name_byte (get_or n 1 0)) || (eqb (get_or n 0 0) 88 && eqb (get_or n 1 0) 35))))
    && all name_byte (drop 2 n)

pub record Pair : Type 0 where
  pub name : List ℕ
  pub value : List ℕ

-- the first pair of a text: its name ends at the first =, its value at the first zero byte after that
abbrev pub name_in : List ℕ → List ℕ
name_in s = before 61 s

abbrev pub value_in : List ℕ → List ℕ
value_in s = before 0 (after 61 s)

abbrev pub rest_of : List ℕ → List ℕ
rest_of s = after 0 (after 61 s)

-- where it ends: before the zero byte after its value; where there is no =, or no zero byte, with the text
unfoldable pub end_in : List ℕ → ℕ
end_in s = pick (has 61 s) (length (name_in s) + 1 + length (value_in s)) (length s)

unfoldable pub good_first : List ℕ → Bool
good_first s = ((good_name (name_in s) && has 61 s) && leb (length (value_in s)) 255) && has 0 (after 61 s)

-- the same, whatever the name is
abbrev pub whole_first : List ℕ → Bool
whole_first s = (has 61 s && leb (length (value_in s)) 255) && has 0 (after 61 s)

abbrev pub empty : List ℕ → Bool
empty s = eqb (length s) 0

-- at most n pairs, each good and followed by one zero byte
unfoldable pub formed : ℕ → List ℕ → Bool
formed zero s = empty s
formed (suc n) s = empty s || (good_first s && formed n (rest_of s))

-- the first n pairs of a text that is formed
unfoldable pub pairs : ℕ → List ℕ → List Pair
pairs zero s = []
pairs (suc n) s = pick (empty s) [] (record { name = name_in s; value = value_in s } ∷ pairs n (rest_of s))
