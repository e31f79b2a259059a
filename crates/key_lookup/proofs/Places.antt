-- The table: the first candidate of a known name stands in the place of its length and letter.
use mathlib.Core.Path.{◌≡◌, refl, sym, ap, ◌∙◌, subst}
use mathlib.Core.Bool.{Bool, true, ◌&&◌}
use mathlib.Core.List.{List, [], ◌∷◌}
use Prim.Native.Nat.{ℕ, ◌+◌, ◌*◌, ◌%◌, ◌<◌}
use native.Mathlib.Omega.{arith}
use lib.ListN.{length, get_or}
use lib.Dec.{eqb}
use borrow.Author.Tests.{eqb-true, eq-eqb}
use Rattle.std.specs.Prelude.{Option, Some, None}
use Rattle.text.specs.Text.{has}
use Rattle.text.proofs.Laws.{below, at, &&-left, &&-right, false-true}
use Rattle.key_table.specs.Table.{known, name_at, key_at, place_of_key, place_of_found}
use Rattle.key_table.specs.declared.table.Key.{Key}
use Rattle.key_table.proofs.Tables.{place-few}
use Rattle.key_names.specs.Candidates.{shares, candidates, candidates_of}
use Rattle.key_names.specs.Spelling.{spelt}
use Rattle.key_names.specs.declared.KnownName.{KnownName}
use Rattle.key_names.proofs.Laws.{lawful, below-known, shared}
use Rattle.key_names.proofs.Words.{name_least, name_most}
use Rattle.key_lookup.specs.Lookup.{AreFirstTwo}
use Rattle.key_lookup.specs.declared.TheConstants.{FIRST_CANDIDATES}

abbrev pub place : List ℕ → ℕ
place n = (length n * 21 + get_or n 0 0) % 54

abbrev pub first_in : List ℕ → Option Key
first_in n = get_or FIRST_CANDIDATES (place n) None

placed : ℕ → Bool
placed k = eqb (place_of_found (first_in (name_at k))) (get_or (candidates_of (name_at k)) 0 28)

seconded : ℕ → Bool
seconded k = eqb (place_of_found (spelt k).second) (get_or (candidates_of (name_at k)) 1 28)

both : ℕ → Bool
both k = placed k && seconded k

all_both : below both 28 ≡ true
unfolding both placed seconded spelt candidates_of candidates shares name_at key_at known
all_both = refl

-- Of a name with a candidate the first stands in its place, and each has the second with it.
module _ (n : List ℕ) (k : ℕ) (c : has k (candidates_of n) ≡ true) where
  few : k < 28
  few = below-known n k c

  first-placed : place_of_found (first_in n) ≡ get_or (candidates_of n) 0 28
  unfolding both placed candidates_of
  first-placed =
      let o = (lawful (length n) (get_or n 0 0)).only k c in
      let e = eqb-true _ _ (&&-left (placed k) _ (at both 28 all_both k few)) in
      rw (o.1, o.2) at e

  second-with : place_of_found (spelt k).second ≡ get_or (candidates_of n) 1 28
  unfolding both seconded
  second-with = eqb-true _ _ (&&-right (placed k) _ (at both 28 all_both k few)) ∙ ap (λ (l : List ℕ). get_or l 1 28) (shared n k c)

-- What is not there is not: no candidate but the one in its place, and none at all of another length or letter.
empty : (l : List ℕ) → ((k : ℕ) → has k l ≡ true → ⊥) → l ≡ []
unfolding has
empty [] h = refl
empty (x ∷ l) h = absurd (h x (rw (eq-eqb x x refl) refl))

-- A list with a member has a first.
has_first : (l : List ℕ) (k : ℕ) → has k l ≡ true → has (get_or l 0 28) l ≡ true
unfolding has
has_first [] k h = false-true h
has_first (x ∷ l) k h = rw (eq-eqb x x refl) refl

module _ (n : List ℕ) where
  pub too_short : length n < 8 → candidates_of n ≡ []
  too_short h = empty (candidates_of n) (λ k c. omega (arith, h, name_least n k c))

  pub too_long : 24 < length n → candidates_of n ≡ []
  too_long h = empty (candidates_of n) (λ k c. omega (arith, h, name_most n k c))

  -- the first, whichever candidate there is
  first-of : (k : ℕ) → has k (candidates_of n) ≡ true → has (place_of_found (first_in n)) (candidates_of n) ≡ true
  first-of k c = subst (λ (i : ℕ). has i (candidates_of n) ≡ true) (sym (first-placed n k c)) (has_first (candidates_of n) k c)

  pub nothing_there : first_in n ≡ None → candidates_of n ≡ []
  nothing_there e = empty (candidates_of n) (λ k c. omega (arith, below-known n _ (first-of k c), ap place_of_found e))

  module _ (k : Key) (name : KnownName) (e : first_in n ≡ Some k) (z : name ≡ spelt (place_of_key k)) where
    of-another : (has (place_of_key k) (candidates_of n) ≡ true → ⊥) → candidates_of n ≡ []
    of-another h = empty (candidates_of n) (λ j c. h (subst (λ (f : Option Key). has (place_of_found f) (candidates_of n) ≡ true) e (first-of j c)))

    pub other_length : (name.length ≡ length n → ⊥) → candidates_of n ≡ []
    unfolding candidates_of spelt
    other_length h = of-another (λ c. h (ap (λ (x : KnownName). x.length) z ∙ ((lawful (length n) (get_or n 0 0)).only _ c).1))

    pub other_letter : (name.letter ≡ get_or n 0 0 → ⊥) → candidates_of n ≡ []
    unfolding candidates_of spelt
    other_letter h = of-another (λ c. h (ap (λ (x : KnownName). x.letter) z ∙ ((lawful (length n) (get_or n 0 0)).only _ c).2))

    pub both_there : name.length ≡ length n → name.letter ≡ get_or n 0 0 → AreFirstTwo (candidates_of n) (k, name.second)
    unfolding candidates_of spelt
    both_there a b =
        let x = sym (ap (λ (x : KnownName). x.length) z) ∙ a in
        let y = sym (ap (λ (x : KnownName). x.letter) z) ∙ b in
        let c = (lawful (length n) (get_or n 0 0)).every _ (place-few k) x y in
        record {
          first = sym (ap place_of_found e) ∙ first-placed n _ c;
          second = ap (λ (x : KnownName). place_of_found x.second) z ∙ second-with n _ c;
        }
