-- The candidates of a length and a letter are exactly the known names that share both, and never more than two.
use mathlib.Core.Path.{◌≡◌, refl, sym, ap, ◌∙◌, subst}
use mathlib.Core.Bool.{Bool, true, false, ◌||◌}
use mathlib.Core.List.{List, [], ◌∷◌}
use Prim.Native.Nat.{ℕ, zero, suc, ◌+◌, ◌<◌, ◌≤◌}
use native.Mathlib.Omega.{arith}
use lib.ListN.{length, get_or}
use lib.Dec.{leb, eqb}
use borrow.Author.Tests.{leb-true, eqb-true, eqb-false, eq-eqb}
use Rattle.text.specs.Text.{pick, has, same}
use Rattle.text.proofs.Laws.{below, at, same-eq, &&-left, &&-right, false-true}
use Rattle.key_table.specs.Table.{known, key_of, name_at}
use Rattle.key_table.proofs.Tables.{known-name, known_same, key-alone}
use Rattle.key_names.specs.Candidates.{shares, good_from, candidates, candidates_of, Lawful}

-- What is among the good: a good number of those that are asked for, and each of them.
or_cases : (a b : Bool) → (a || b) ≡ true → {P : Type 0} → (a ≡ true → P) → (b ≡ true → P) → P
or_cases true b e p q = p refl
or_cases false b e p q = q e

or_left : (a b : Bool) → a ≡ true → (a || b) ≡ true
or_left true b e = refl
or_left false b e = false-true e

or_right : (a b : Bool) → b ≡ true → (a || b) ≡ true
or_right true b e = refl
or_right false b e = e

module _ (f : ℕ → Bool) (i : ℕ) where
  abbrev In : ℕ → ℕ → Type 0
  In m k = (k ≤ i) × (i < k + m) × (f i ≡ true)

  only-go : (t : Bool) (k m : ℕ) (l : List ℕ) → f k ≡ t → (has i l ≡ true → In m (suc k)) → has i (pick t (k ∷ l) l) ≡ true → In (suc m) k
  unfolding has
  only-go true k m l e r h =
      or_cases (eqb k i) (has i l) h
      (λ q. let z : k ≡ i = eqb-true k i q in (omega (arith, z), omega (arith, z), subst (λ (j : ℕ). f j ≡ true) z e))
      (λ q. (omega (arith, (r q).0), omega (arith, (r q).1), (r q).2))
  only-go false k m l e r h = (omega (arith, (r h).0), omega (arith, (r h).1), (r h).2)

  good-only : (m k : ℕ) → has i (good_from f m k) ≡ true → In m k
  unfolding has
  good-only zero k h = false-true h
  good-only (suc m) k h = only-go (f k) k m (good_from f m (suc k)) refl (good-only m (suc k)) h

  every-go : (t : Bool) (k m : ℕ) (l : List ℕ) → f k ≡ t → (suc k ≤ i → i < suc k + m → has i l ≡ true) → k ≤ i → i < k + suc m → f i ≡ true
      → (u : Bool) → eqb k i ≡ u → has i (pick t (k ∷ l) l) ≡ true
  unfolding has
  every-go true k m l e r a b g true u = or_left (eqb k i) (has i l) u
  every-go true k m l e r a b g false u =
      let z : k ≡ i → ⊥ = eqb-false k i u in or_right (eqb k i) (has i l) (r (omega (arith, z, a)) (omega (arith, b)))
  every-go false k m l e r a b g true u = false-true (sym e ∙ ap f (eqb-true k i u) ∙ g)
  every-go false k m l e r a b g false u = let z : k ≡ i → ⊥ = eqb-false k i u in r (omega (arith, z, a)) (omega (arith, b))

  good-every : (m k : ℕ) → k ≤ i → i < k + m → f i ≡ true → has i (good_from f m k) ≡ true
  good-every zero k a b g = absurd (omega (arith, a, b))
  good-every (suc m) k a b g = every-go (f k) k m (good_from f m (suc k)) refl (λ p q. good-every m (suc k) p q g) a b g (eqb k i) refl

-- A known name's candidates are the same few for every name that shares its length and letter.
few : ℕ → Bool
few k = leb (length (candidates (length (name_at k)) (get_or (name_at k) 0 0))) 2

all-few : below few 28 ≡ true
unfolding few candidates shares name_at known
all-few = refl

module _ (n c : ℕ) where
  only : (k : ℕ) → has k (candidates n c) ≡ true → (k < 28) × (length (name_at k) ≡ n) × (get_or (name_at k) 0 0 ≡ c)
  unfolding candidates shares
  only k h =
      let g = good-only (shares n c) k 28 0 h in
      (g.1, eqb-true _ n (&&-left _ _ g.2), eqb-true _ c (&&-right (eqb (length (name_at k)) n) _ g.2))

  every : (k : ℕ) → k < 28 → length (name_at k) ≡ n → get_or (name_at k) 0 0 ≡ c → has k (candidates n c) ≡ true
  unfolding candidates shares
  every k h a b = good-every (shares n c) k 28 0 (omega arith) h (rw (eq-eqb _ n a, eq-eqb _ c b) refl)

  two-go : (l : List ℕ) → candidates n c ≡ l → length (candidates n c) ≤ 2
  unfolding has few
  two-go [] e = rw e (omega arith)
  two-go (k ∷ l) e =
      let o = only k (ap (has k) e ∙ or_left (eqb k k) (has k l) (eq-eqb k k refl)) in
      rw (sym o.1, sym o.2) (leb-true _ 2 (at few 28 all-few k o.0))

  pub lawful : Lawful n c
  lawful = record { only = only; every = every; two = two-go (candidates n c) refl }

-- A known name is the name of one of its candidates.
pub known-candidate : (n : List ℕ) → key_of n < 28 → has (key_of n) (candidates_of n) ≡ true
unfolding candidates_of
known-candidate n p =
    let e = known-name n p in
    every (length n) (get_or n 0 0) (key_of n) p (sym (ap length e)) (sym (ap (λ (m : List ℕ). get_or m 0 0) e))

-- The candidates of a name are those of each of them.
pub shared : (n : List ℕ) (k : ℕ) → has k (candidates_of n) ≡ true → candidates_of (name_at k) ≡ candidates_of n
unfolding candidates_of
shared n k h = let o = only (length n) (get_or n 0 0) k h in rw (o.1, o.2) refl

pub below-known : (n : List ℕ) (k : ℕ) → has k (candidates_of n) ≡ true → k < 28
unfolding candidates_of
below-known n k h = (only (length n) (get_or n 0 0) k h).0

-- What stands in a place of a list is among it.
pub there : (l : List ℕ) (i : ℕ) → (get_or l i 28 ≡ 28 → ⊥) → has (get_or l i 28) l ≡ true
unfolding has
there [] i h = absurd (h refl)
there (x ∷ l) zero h = or_left (eqb x x) (has x l) (eq-eqb x x refl)
there (x ∷ l) (suc i) h = or_right (eqb x (get_or l i 28)) (has (get_or l i 28) l) (there l i h)

-- One of two at most is the first or the second.
one_of_two : {P : Type 0} (l : List ℕ) (k : ℕ) → length l ≤ 2 → ((i : ℕ) → has i l ≡ true → i < 28) → has k l ≡ true
    → (k ≡ get_or l 0 28 → P) → (get_or l 0 28 < 28 → k ≡ get_or l 1 28 → P) → P
unfolding has
one_of_two [] k t b h p q = false-true h
one_of_two (x ∷ []) k t b h p q = or_cases (eqb x k) false h (λ e. p (sym (eqb-true x k e))) (λ e. false-true e)
one_of_two (x ∷ (y ∷ [])) k t b h p q =
    or_cases (eqb x k) (eqb y k || false) h
    (λ e. p (sym (eqb-true x k e)))
    (λ e. or_cases (eqb y k) false e (λ d. q (b x (or_left (eqb x x) _ (eq-eqb x x refl))) (sym (eqb-true y k d))) (λ d. false-true d))
one_of_two (x ∷ (y ∷ (z ∷ l))) k t b h p q = absurd (omega (arith, t))

-- A known name's key is its first candidate, or there is a first and it is the second.
pub found : {P : Type 0} (n : List ℕ) → key_of n < 28 → (key_of n ≡ get_or (candidates_of n) 0 28 → P)
    → (get_or (candidates_of n) 0 28 < 28 → key_of n ≡ get_or (candidates_of n) 1 28 → P) → P
unfolding candidates_of
found n p = one_of_two (candidates_of n) (key_of n) (lawful (length n) (get_or n 0 0)).two (below-known n) (known-candidate n p)

-- A candidate with the same bytes is the name's key, and one with others is not.
module _ (n : List ℕ) where
  pub hit : (k : ℕ) → has k (candidates_of n) ≡ true → same n (name_at k) ≡ true → k ≡ key_of n
  hit k h e = sym (ap key_of (same-eq n (name_at k) e) ∙ key-alone k (below-known n k h))

  pub missed : (k : ℕ) → same n (name_at k) ≡ false → key_of n < 28 → key_of n ≡ k → ⊥
  missed k miss p e = false-true (sym miss ∙ ap (λ (i : ℕ). same n (name_at i)) (sym e) ∙ known_same n p)
