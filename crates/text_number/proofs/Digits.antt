-- Numbers in a text: one turn of the loops that read and write their digits.
use mathlib.Core.Path.{◌≡◌, sym, ap, ◌∙◌, ap₂}
use mathlib.Core.Bool.{Bool, true, false}
use mathlib.Core.List.{List, [], ◌∷◌, ◌++◌, append_assoc}
use Prim.Native.Nat.{ℕ, zero, suc, ◌+◌, ◌*◌, ◌/◌, ◌%◌, ◌^◌, ◌-◌, ◌<◌, ◌≤◌}
use native.Mathlib.Numerals.{add-one}
use native.Mathlib.Omega.{arith}
use native.Mathlib.Nat.{mul-le-mul_left}
use borrow.Author.Tests.{lt-ltb, le-ltb, le-leb}
use lib.ListN.{length, get_or, take, drop, set, length-set, length-append, length-drop}
use lib.Seq.{drop-cons, get_or-set_same, drop-set-lt, take_all}
use lib.Dec.{ltb}
use Rattle.text.specs.Text.{pick, all}
use Rattle.text_number.specs.Number.{worth, digit_of, is_digit, number_in, decimal}
use Rattle.std.specs.Prelude.{Some, None}
use Rattle.std.proofs.lemmas.Bool.Decides.{nat_tests}
use Rattle.text.proofs.Laws.{all-miss, all-step, all_end, drop-step, drop-end}
use Rattle.std.proofs.Math.Bool.{and-false}

pub worth-step : (base v : ℕ) (s : List ℕ) (i : ℕ) → i < length s → worth base v (drop i s) ≡ worth base (v * base + digit_of (get_or s i 0)) (drop (i + 1) s)
unfolding worth
worth-step base v s i h = rw (drop-step s i h)

pub worth-end : (base v : ℕ) (s : List ℕ) (i : ℕ) → length s ≤ i → worth base v (drop i s) ≡ v
unfolding worth
worth-end base v s i h = rw (drop-end s i h)

-- digits only add to what was read
pub worth-grows : (base v : ℕ) (s : List ℕ) → 1 ≤ base → v ≤ worth base v s
unfolding worth
worth-grows base v [] h = omega arith
worth-grows base v (b ∷ s) h =
    let m : v * 1 ≤ v * base = mul-le-mul_left v h in
    omega (arith, worth-grows base (v * base + digit_of b) s h, m)

pub number-empty : (base : ℕ) (s : List ℕ) → length s ≡ 0 → number_in base s ≡ None
unfolding number_in
number-empty base s e = rw e

-- The bytes before i are digits, and they are worth v.
module _ (base : ℕ) (s : List ℕ) (v i : ℕ) (a : all (is_digit base) (drop i s) ≡ all (is_digit base) s) (w : worth base v (drop i s) ≡ worth base 0 s) where
  pub number-other : i < length s → is_digit base (get_or s i 0) ≡ false → number_in base s ≡ None
  unfolding number_in
  number-other h e = rw (sym a, all-miss (is_digit base) s i h e, and-false)

  -- what was read and one digit more is 2^64 or more, and so is the whole
  pub number-large : 1 ≤ base → i < length s → 2 ^ 64 ≤ v * base + digit_of (get_or s i 0) → number_in base s ≡ None
  unfolding number_in
  number-large p h o =
      let l : 2 ^ 64 ≤ worth base 0 s =
      omega (arith, o, w, worth-step base v s i h, worth-grows base (v * base + digit_of (get_or s i 0)) (drop (i + 1) s) p) in
      rw (le-ltb (worth base 0 s) (2 ^ 64) l, and-false)

  pub number-good : 1 ≤ length s → length s ≤ i → v < 2 ^ 64 → number_in base s ≡ Some v
  unfolding number_in
  number-good n h l =
      let e : worth base 0 s ≡ v = sym w ∙ worth-end base v s i h in
      let d : all (is_digit base) s ≡ true = sym a ∙ all_end (is_digit base) s i h in
      rw (e, d, le-leb 1 (length s) n, lt-ltb v (2 ^ 64) l)

-- Decimal digits from the last.
drop-set : (l : List ℕ) (i x : ℕ) → i < length l → drop i (set l i x) ≡ x ∷ drop (i + 1) l
drop-set l i x h =
    let k : i < length (set l i x) = rw length-set h in
    drop-cons (set l i x) i 0 k
    ∙ ap₂ (λ (a : ℕ) (r : List ℕ). a ∷ r) (get_or-set_same l i x 0 h) (drop-set-lt (suc i) l i x (omega arith) ∙ ap (λ (n : ℕ). drop n l) (sym (add-one i)))

module _ (l : List ℕ) (i r : ℕ) (h : i < length l) where
  pub decimal_step : 10 ≤ r → decimal (i + 1) r ++ drop (i + 1) l ≡ decimal i (r / 10) ++ drop i (set l i (48 + r % 10))
  unfolding decimal
  decimal_step b = rw (drop-set l i (48 + r % 10) h, add-one, le-ltb r 10 b, append_assoc)

  pub decimal-last : r < 10 → decimal (i + 1) r ++ drop (i + 1) l ≡ drop i (set l i (48 + r))
  unfolding decimal
  decimal-last b = rw (drop-set l i (48 + r) h, add-one, lt-ltb r 10 b)

length-go : (t : Bool) (k a b : ℕ) (d : List ℕ) → length d ≤ k → length (pick t (a ∷ []) (d ++ (b ∷ []))) ≤ suc k
length-go true k a b d h = omega arith
length-go false k a b d h = omega (arith, length-append d (b ∷ []))

pub decimal-length : (k n : ℕ) → length (decimal k n) ≤ k
unfolding decimal
decimal-length zero n = omega arith
decimal-length (suc k) n = length-go (ltb n 10) k (48 + n) (48 + n % 10) (decimal k (n / 10)) (decimal-length k (n / 10))

-- a number of two digits or more has a digit before the last
pub decimal-more : (r i : ℕ) → 10 ≤ r → r < 10 ^ (i + 1) → 1 ≤ i
decimal-more r zero a b = absurd (let z : 10 ≤ 9 = omega arith in omega arith)
decimal-more r (suc i) a b = omega arith

-- what the last digit makes whole
pub decimal_whole : (l : List ℕ) (i r n : ℕ) → i ≤ 9 → r < 10 → length l ≡ 10 → decimal (i + 1) r ++ drop (i + 1) l ≡ decimal 10 n
    → take (10 - i) (drop i (set l i (48 + r))) ≡ decimal 10 n
decimal_whole l i r n low last long same =
    let d = set l i (48 + r) in
    let k : length (drop i d) ≤ 10 - i = rw (length-drop, length-set) (omega arith) in
    take_all (10 - i) (drop i d) k ∙ sym (decimal-last l i r (omega arith) last) ∙ same

pub ruleset read = (nat_tests, number-empty, number-other, number-large, number-good, worth-step, all-step)

pub ruleset put = (decimal_step, decimal-more, decimal_whole)
