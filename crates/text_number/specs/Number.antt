-- Numbers in a text: 0, or digits not starting with 0, or 0x or 0X and at least one hex digit, below 2^64; and in decimal.
use Rattle.std.specs.Prelude.{ℕ, zero, suc, ◌+◌, ◌-◌, ◌*◌, ◌/◌, ◌%◌, ◌^◌, Bool, ◌&&◌, ◌||◌}
use Rattle.std.specs.Prelude.{List, [], ◌∷◌, ◌++◌, length, get_or, drop, eqb, ltb, leb, Option, Some, None}
use Rattle.text.specs.Text.{pick, all, within}

-- the value of a digit or a hex letter; 16 for any other byte
abbrev pub digit_of : ℕ → ℕ
digit_of b =
    pick (within 48 57 b) (b - 48)
    (pick (within 65 70 b) (b - 55)
    (pick (within 97 102 b) (b - 87) 16))

abbrev pub is_digit : ℕ → ℕ → Bool
is_digit base b = ltb (digit_of b) base

-- the digits read left to right, after what was read is worth v
unfoldable pub worth : ℕ → ℕ → List ℕ → ℕ
worth base v [] = v
worth base v (b ∷ s) = worth base (v * base + digit_of b) s

-- at least one digit, nothing else, and below 2^64
unfoldable pub number_in : ℕ → List ℕ → Option ℕ
number_in base s =
    pick ((leb 1 (length s) && all (is_digit base) s) && ltb (worth base 0 s) (2 ^ 64)) (Some (worth base 0 s)) None

abbrev pub hex_mark : List ℕ → Bool
hex_mark s = (leb 2 (length s) && eqb (get_or s 0 0) 48) && (eqb (get_or s 1 0) 120 || eqb (get_or s 1 0) 88)

abbrev pub zero_led : List ℕ → Bool
zero_led s = leb 2 (length s) && eqb (get_or s 0 0) 48

unfoldable pub number_of : List ℕ → Option ℕ
number_of s = pick (hex_mark s) (number_in 16 (drop 2 s)) (pick (zero_led s) None (number_in 10 s))

-- n in decimal, in at most k digits
unfoldable pub decimal : ℕ → ℕ → List ℕ
decimal zero n = []
decimal (suc k) n = pick (ltb n 10) ((48 + n) ∷ []) (decimal k (n / 10) ++ ((48 + n % 10) ∷ []))
