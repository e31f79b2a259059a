-- A header as a table of fields: offset, width, unnamed bits too. What a table writes it also reads (proofs/Table): a second view of
-- the headers, beside the definitions by offset in Request and Response.
use Rattle.std.specs.Prelude.{ℕ, suc, ◌+◌, ◌*◌, ◌/◌, ◌%◌, ◌^◌, ◌<◌, Bool, ◌&&◌, List, [], ◌∷◌, ◌++◌, eqb, drop}
use Rattle.field.specs.Field.{be_at, bytes_of}

-- some bits of a row: a field, or bits that have no name
pub data Bits : Type 0 where
  field : ℕ → Bits
  unnamed : ℕ → Bits

abbrev pub width : Bits → ℕ
width (field w) = w
width (unnamed w) = w

-- the `size` bytes from `at` on, and the bits in them, the lowest first
pub record Row : Type 0 where
  pub at : ℕ
  pub size : ℕ
  pub bits : List Bits

abbrev pub row : ℕ → ℕ → List Bits → Row
row a n bs = record { at = a; size = n; bits = bs }

-- a row that is one field, or has no name
abbrev pub whole : ℕ → ℕ → Row
whole a n = row a n (field (8 * n) ∷ [])

abbrev pub blank : ℕ → ℕ → Row
blank a n = row a n (unnamed (8 * n) ∷ [])

-- the parts of n, one for each group of bits, the lowest first
abbrev pub digits : List Bits → ℕ → List ℕ
digits [] n = []
digits (b ∷ []) n = n ∷ []
digits (b ∷ (d ∷ bs)) n = n % 2 ^ width b ∷ digits (d ∷ bs) (n / 2 ^ width b)

-- the number that has these parts
abbrev pub pack : List Bits → List ℕ → ℕ
pack [] vs = 0
pack (b ∷ bs) [] = 0
pack (b ∷ []) (v ∷ vs) = v
pack (b ∷ (d ∷ bs)) (v ∷ vs) = v + 2 ^ width b * pack (d ∷ bs) vs

abbrev pub total : List Bits → ℕ
total [] = 0
total (b ∷ bs) = width b + total bs

-- the rows follow one another from `at` to byte 48, and the bits of each make up its bytes
abbrev pub sound : ℕ → List Row → Bool
sound at [] = eqb at 48
sound at (r ∷ rs) = (eqb r.at at && eqb (total r.bits) (8 * r.size)) && sound (at + r.size) rs

-- each value fits its bits
abbrev pub Fit : List Bits → List ℕ → Type 0
Fit [] [] = Unit {0}
Fit [] (v ∷ vs) = ⊥
Fit (b ∷ bs) [] = ⊥
Fit (b ∷ bs) (v ∷ vs) = (v < 2 ^ width b) × Fit bs vs

abbrev pub Fits : List Row → List (List ℕ) → Type 0
Fits [] [] = Unit {0}
Fits [] (v ∷ vs) = ⊥
Fits (r ∷ rs) [] = ⊥
Fits (r ∷ rs) (vs ∷ vss) = Fit r.bits vs × Fits rs vss

-- the header that has these values, and the values that a header has, row by row
abbrev pub written : List Row → List (List ℕ) → List ℕ
written [] vss = []
written (r ∷ rs) [] = []
written (r ∷ rs) (vs ∷ vss) = bytes_of r.size (pack r.bits vs) ++ written rs vss

abbrev pub read_by : List Row → List ℕ → List (List ℕ)
read_by [] s = []
read_by (r ∷ rs) s = digits r.bits (be_at s r.at r.size) ∷ read_by rs s

-- ---- the fields alone

-- how many fields there are
abbrev pub count_in : List Bits → ℕ
count_in [] = 0
count_in (field w ∷ bs) = suc (count_in bs)
count_in (unnamed w ∷ bs) = count_in bs

abbrev pub count : List Row → ℕ
count [] = 0
count (r ∷ rs) = count_in r.bits + count rs

-- the values of the fields, in table order
abbrev pub named_in : List Bits → List ℕ → List ℕ
named_in [] vs = []
named_in (b ∷ bs) [] = []
named_in (field w ∷ bs) (v ∷ vs) = v ∷ named_in bs vs
named_in (unnamed w ∷ bs) (v ∷ vs) = named_in bs vs

abbrev pub named : List Row → List (List ℕ) → List ℕ
named [] vss = []
named (r ∷ rs) [] = []
named (r ∷ rs) (vs ∷ vss) = named_in r.bits vs ++ named rs vss

-- the values of the rows with these fields in order; "what isn't named is 0"
abbrev pub filled_in : List Bits → List ℕ → List ℕ
filled_in [] vs = []
filled_in (field w ∷ bs) [] = 0 ∷ filled_in bs []
filled_in (field w ∷ bs) (v ∷ vs) = v ∷ filled_in bs vs
filled_in (unnamed w ∷ bs) vs = 0 ∷ filled_in bs vs

abbrev pub filled : List Row → List ℕ → List (List ℕ)
filled [] vs = []
filled (r ∷ rs) vs = filled_in r.bits vs ∷ filled rs (drop (count_in r.bits) vs)
