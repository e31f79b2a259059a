-- The first pair of a text, and one turn of a loop over the pairs.
use mathlib.Core.Path.{◌≡◌, refl, sym, ap, ◌∙◌}
use mathlib.Core.Bool.{Bool, true, false, ◌&&◌}
use mathlib.Core.List.{List, [], ◌∷◌, ◌++◌}
use Prim.Native.Nat.{ℕ, zero, suc, ◌+◌, ◌-◌, ◌<◌, ◌≤◌}
use native.Mathlib.Numerals.{add-one}
use native.Mathlib.Omega.{arith}
use native.Mathlib.Nat.{zero-add}
use borrow.Author.Tests.{eq-eqb, ne_eqb, le-leb, leb-true, ltb-true}
use lib.ListN.{length, get_or, take, drop, length-drop}
use lib.Seq.{drop-drop}
use lib.Dec.{leb, eqb}
use Rattle.std.proofs.Math.Bool.{or-false}
use Rattle.std.proofs.lemmas.Bool.Decides.{nat_tests}
use Rattle.text.specs.Text.{before, after, has, all}
use Rattle.text_block.specs.Block.{name_in, value_in, rest_of, end_in, whole_first, good_first, good_name, name_byte, formed, empty}
use Rattle.text.proofs.Laws.{&&-left, take-before, take_past, drop-before, &&-right, has-before, length-after, here, rest_part}

-- After a good first pair comes the rest of the text.
pub rest_at : (s : List ℕ) (k e : ℕ) → e ≡ length (name_in (drop k s)) + 1 + length (value_in (drop k s)) → drop (k + e + 1) s ≡ rest_of (drop k s)
rest_at s k e q =
    let t : drop (length (before 61 (drop k s)) + 1) (drop k s) ≡ after 61 (drop k s) = drop-before 61 (drop k s) in
    let u : drop (length (before 0 (after 61 (drop k s))) + 1) (after 61 (drop k s)) ≡ after 0 (after 61 (drop k s)) = drop-before 0 (after 61 (drop k s)) in
    let v : drop (length (before 0 (after 61 (drop k s))) + 1) (drop (length (before 61 (drop k s)) + 1) (drop k s)) ≡ after 0 (after 61 (drop k s)) = rw t u in
    let m : length (before 61 (drop k s)) + 1 + (length (before 0 (after 61 (drop k s))) + 1) ≡ e + 1 = omega (arith, q) in
    let w : drop (length (before 61 (drop k s)) + 1 + (length (before 0 (after 61 (drop k s))) + 1)) (drop k s) ≡ after 0 (after 61 (drop k s)) =
    sym (drop-drop (length (before 0 (after 61 (drop k s))) + 1) (length (before 61 (drop k s)) + 1) (drop k s)) ∙ v in
    let p : k + e + 1 ≡ k + (e + 1) = omega arith in
    ap (λ (n : ℕ). drop n s) p ∙ sym (drop-drop (e + 1) k s) ∙ ap (λ (n : ℕ). drop n (drop k s)) (sym m) ∙ w

-- One turn of a loop over the pairs of a text.
some : (s : List ℕ) → 0 < length s → empty s ≡ false
some s h = ne_eqb (length s) 0 (λ z. omega (arith, z))

pub formed_bad : (n : ℕ) (s : List ℕ) → 0 < length s → good_first s ≡ false → formed n s ≡ false
unfolding formed
formed_bad zero s h b = some s h
formed_bad (suc n) s h b = rw (some s h, b)

pub formed_end : (n : ℕ) (s : List ℕ) → length s ≡ 0 → formed n s ≡ true
unfolding formed
formed_end zero s h = eq-eqb (length s) 0 h
formed_end (suc n) s h = rw (eq-eqb (length s) 0 h)

pub formed_none : (n : ℕ) (s : List ℕ) → n ≡ 0 → formed n s ≡ empty s
unfolding formed
formed_none n s e = rw e

-- A first pair is good if its name is, and the rest of its form.
good-go : (a b c d : Bool) → (((a && b) && c) && d) ≡ (a && ((b && c) && d))
good-go true b c d = refl
good-go false b c d = refl

pub good-first : (s : List ℕ) → good_first s ≡ (good_name (name_in s) && whole_first s)
unfolding good_first
good-first s = good-go (good_name (name_in s)) (has 61 s) (leb (length (value_in s)) 255) (has 0 (after 61 s))

pub good-whole : (s : List ℕ) → good_first s ≡ true → whole_first s ≡ true
good-whole s e = &&-right (good_name (name_in s)) _ (sym (good-first s) ∙ e)

-- a pair that is whole ends before the zero byte after its value, and that lies within the text
module _ (s : List ℕ) (w : whole_first s ≡ true) where
  pub whole_has : has 61 s ≡ true
  whole_has = &&-left _ _ (&&-left (has 61 s && leb (length (value_in s)) 255) _ w)

  pub whole-ends : end_in s ≡ length (name_in s) + 1 + length (value_in s)
  unfolding end_in
  whole-ends = here (has 61 s) _ _ whole_has

  pub whole-inside : length (name_in s) + 1 + length (value_in s) < length s
  whole-inside =
      let z : has 0 (after 61 s) ≡ true = &&-right (has 61 s && leb (length (value_in s)) 255) _ w in
      let h : length (before 0 (after 61 s)) < length (after 61 s) = ltb-true _ _ (sym (has-before 0 (after 61 s)) ∙ z) in
      omega (arith, h, length-after 61 s)

-- where any first pair ends: with the text where there is no =
pub bare-ends : (s : List ℕ) → has 61 s ≡ false → end_in s ≡ length s
unfolding end_in
bare-ends s h = rw h

pub cut-ends : (s : List ℕ) → has 61 s ≡ true → end_in s ≡ length (name_in s) + 1 + length (value_in s)
unfolding end_in
cut-ends s h = rw h

-- After a good pair the loop goes on with what follows it.
pub formed_on : (n e : ℕ) (s : List ℕ) → 0 < length s → good_first s ≡ true → e ≡ end_in s
    → formed n (take (length s - (e + 1)) (drop (e + 1) s)) ≡ formed (n + 1) s
unfolding formed
formed_on n e s h g q =
    let r : drop (e + 1) s ≡ rest_of s = rw zero-add at (rest_at s 0 e (q ∙ whole-ends s (good-whole s g))) in
    rw (rest_part, r, add-one, some s h, g)

-- A name that begins with an upper-case letter, and not with X#, is good if the bytes after the first are name bytes.
upper-go : (n : List ℕ) → length n ≤ 63 → 1 ≤ length n → 65 ≤ get_or n 0 0 → get_or n 0 0 ≤ 90
    → (2 ≤ length n → get_or n 0 0 ≡ 88 → get_or n 1 0 ≡ 35 → ⊥) → good_name n ≡ all name_byte (drop 1 n)
unfolding good_name all
upper-go [] m l a b t = absurd (omega (arith, l))
upper-go (x ∷ []) m l a b t = rw (le-leb 65 x a, le-leb x 90 b)
upper-go (x ∷ y ∷ n) m l a b t =
    let h : (eqb x 88 && eqb y 35) ≡ false = grind (arith, nat_tests, t (omega arith)) in
    let o : eqb (suc (suc (length n))) 1 ≡ false = ne_eqb _ _ (λ e. omega (arith, e)) in
    rw (le-leb 65 x a, le-leb x 90 b, le-leb (suc (suc (length n))) 63 m, le-leb 1 (suc (suc (length n))) l, h, o, or-false)

pub good_upper : (n : List ℕ) → length n ≤ 63 → 1 ≤ length n → 65 ≤ get_or n 0 0 → get_or n 0 0 ≤ 90
    → (2 ≤ length n → get_or n 0 0 ≡ 88 → get_or n 1 0 ≡ 35 → ⊥) → good_name n ≡ all name_byte (take (length n - 1) (drop 1 n))
good_upper n m l a b t = rw rest_part (upper-go n m l a b t)

-- a good name is short
good-short : (n : List ℕ) → good_name n ≡ true → length n ≤ 63
unfolding good_name
good-short n e = leb-true _ 63 (&&-right (leb 1 (length n)) _ (&&-left _ _ (&&-left _ _ (&&-left _ _ e))))

pub name-short : (s : List ℕ) → good_first s ≡ true → length (name_in s) ≤ 63
name-short s e = good-short (name_in s) (&&-left (good_name (name_in s)) _ (sym (good-first s) ∙ e))

-- What follows the first =.
pub tail_is : (s : List ℕ) (eq : ℕ) → eq ≡ length (name_in s) → take (length s - (eq + 1)) (drop (eq + 1) s) ≡ after 61 s
tail_is s eq n = rest_part (eq + 1) s ∙ rw n (drop-before 61 s)

-- The name and the value, as parts of the text.
module _ (s : List ℕ) {eq : ℕ} (n : eq ≡ length (name_in s)) where
  pub cut-name : take eq s ≡ name_in s
  cut-name = rw n (take-before 61 s)

  pub cut-start : whole_first s ≡ true → take (eq + 1) s ≡ name_in s ++ (61 ∷ [])
  cut-start w = rw (n, add-one) (take_past 61 s (whole_has s w))

  pub cut-value : {end : ℕ} → end ≡ length (name_in s) + 1 + length (value_in s) → take (end - (eq + 1)) (drop (eq + 1) s) ≡ value_in s
  cut-value {end} v =
      let m : end - (eq + 1) ≡ length (before 0 (after 61 s)) = omega (arith, n, v) in
      rw (m, n, drop-before 61 s) (take-before 0 (after 61 s))

pub ruleset cut = (tail_is, has-before, whole-ends, whole-inside, bare-ends, cut-ends)

pub ruleset named_first = (good-first, cut-name)

pub ruleset turns = (formed_end, formed_bad, formed_none, formed_on, rest_part, length-drop)
