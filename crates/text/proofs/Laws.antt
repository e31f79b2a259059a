-- What one turn of a loop over a text does to the definitions that read it from the front.
use mathlib.Core.Path.{◌≡◌, refl, sym, ap, ◌∙◌, ap₂}
use mathlib.Core.Bool.{Bool, true, false, not, ◌&&◌, ◌||◌}
use mathlib.Core.List.{List, [], ◌∷◌, ◌++◌, append_assoc}
use Prim.Native.Nat.{ℕ, zero, suc, ◌+◌, ◌-◌, ◌<◌, ◌≤◌}
use native.Mathlib.Numerals.{add-one}
use native.Mathlib.Omega.{arith}
use native.Mathlib.Nat.{not-suc-le-zero, add_assoc}
use borrow.Author.Tests.{ne_eqb, eqb-true, eqb-false, lt-ltb, le-ltb}
use lib.ListN.{length, get_or, take, drop, drop_of_length-le, length-drop, length-append, take-append-drop}
use lib.Seq.{drop-cons, drop-drop, take_all}
use lib.Dec.{eqb, ltb, leb-suc-suc}
use Rattle.std.proofs.lemmas.Slice.Eq.{bytes_eq-Decides}
use Rattle.text.proofs.Words.{same_is_bytes_eq}
use Rattle.text.specs.Text.{pick, before, after, has, same, all, Appended}

pub drop-step : (s : List ℕ) (i : ℕ) → i < length s → drop i s ≡ get_or s i 0 ∷ drop (i + 1) s
drop-step s i h = rw (add-one, drop-cons s i 0)

pub drop-end : (s : List ℕ) (i : ℕ) → length s ≤ i → drop i s ≡ []
drop-end s i h = drop_of_length-le s h

module _ (f : ℕ → Bool) (s : List ℕ) (i : ℕ) where
  pub all-step : i < length s → f (get_or s i 0) ≡ true → all f (drop i s) ≡ all f (drop (i + 1) s)
  unfolding all
  all-step h e = rw (drop-step s i h, e)

  pub all-miss : i < length s → f (get_or s i 0) ≡ false → all f (drop i s) ≡ false
  unfolding all
  all-miss h e = rw (drop-step s i h, e)

  pub all_end : length s ≤ i → all f (drop i s) ≡ true
  unfolding all
  all_end h = rw (drop-end s i h)

pub &&-false : (a : Bool) → (a && false) ≡ false
&&-false true = refl
&&-false false = refl

pub &&-left : (a b : Bool) → (a && b) ≡ true → a ≡ true
&&-left true b e = refl
&&-left false b e = e

-- what &s[a..] is
pub rest_part : (a : ℕ) (s : List ℕ) → take (length s - a) (drop a s) ≡ drop a s
rest_part a s = take_all (length s - a) (drop a s) (rw length-drop (omega arith))

-- The parts of a text about its first x.
take-go : (t : Bool) (y : ℕ) (b s : List ℕ) → take (length b) s ≡ b → take (length (pick t [] (y ∷ b))) (y ∷ s) ≡ pick t [] (y ∷ b)
take-go true y b s e = refl
take-go false y b s e = ap (λ (r : List ℕ). y ∷ r) e

pub take-before : (x : ℕ) (s : List ℕ) → take (length (before x s)) s ≡ before x s
unfolding before
take-before x [] = refl
take-before x (y ∷ s) = take-go (eqb y x) y (before x s) s (take-before x s)

pub false-true {ℓ} : {A : Type ℓ} → false ≡ true → A
false-true e = absurd (let z : ◌≡◌ {A = ℕ} 0 1 = cc in omega arith)

past-go : (t : Bool) (x y : ℕ) (b s : List ℕ) (h : Bool) → eqb y x ≡ t → (h ≡ true → take (suc (length b)) s ≡ b ++ (x ∷ [])) → (t || h) ≡ true
    → take (suc (length (pick t [] (y ∷ b)))) (y ∷ s) ≡ pick t [] (y ∷ b) ++ (x ∷ [])
past-go true x y b s h e r k = ap (λ (z : ℕ). z ∷ []) (eqb-true y x e)
past-go false x y b s h e r k = ap (λ (z : List ℕ). y ∷ z) (r k)

pub take_past : (x : ℕ) (s : List ℕ) → has x s ≡ true → take (suc (length (before x s))) s ≡ before x s ++ (x ∷ [])
unfolding before has
take_past x [] h = false-true h
take_past x (y ∷ s) h = past-go (eqb y x) x y (before x s) s (has x s) refl (take_past x s) h

drop-go : (t : Bool) (y : ℕ) (b s a : List ℕ) → drop (suc (length b)) s ≡ a → drop (suc (length (pick t [] (y ∷ b)))) (y ∷ s) ≡ pick t s a
drop-go true y b s a e = refl
drop-go false y b s a e = e

drop-suc-before : (x : ℕ) (s : List ℕ) → drop (suc (length (before x s))) s ≡ after x s
unfolding before after
drop-suc-before x [] = refl
drop-suc-before x (y ∷ s) = drop-go (eqb y x) y (before x s) s (after x s) (drop-suc-before x s)

pub drop-before : (x : ℕ) (s : List ℕ) → drop (length (before x s) + 1) s ≡ after x s
drop-before x s = rw add-one (drop-suc-before x s)

has-go : (t h : Bool) (y : ℕ) (b s : List ℕ) → h ≡ ltb (length b) (length s) → (t || h) ≡ ltb (length (pick t [] (y ∷ b))) (length (y ∷ s))
has-go true h y b s e = sym (lt-ltb 0 (suc (length s)) (omega arith))
has-go false h y b s e = e ∙ sym (leb-suc-suc (suc (length b)) (length s))

pub has-before : (x : ℕ) (s : List ℕ) → has x s ≡ ltb (length (before x s)) (length s)
unfolding before has
has-before x [] = sym (le-ltb 0 0 (omega arith))
has-before x (y ∷ s) = has-go (eqb y x) (has x s) y (before x s) s (has-before x s)

pub length-after : (x : ℕ) (s : List ℕ) → length (after x s) ≡ length s - (length (before x s) + 1)
length-after x s = ap length (sym (drop-before x s)) ∙ length-drop (length (before x s) + 1) s

pub &&-right : (a b : Bool) → (a && b) ≡ true → b ≡ true
&&-right true b e = e
&&-right false b e = cc

-- A rule of tables, proved at every place below n by one test that antt computes.
abbrev pub below : (ℕ → Bool) → ℕ → Bool
below f zero = true
below f (suc n) = f n && below f n

at-go : (f : ℕ → Bool) (n k : ℕ) → f n ≡ true → (k < n → f k ≡ true) → k < suc n → (t : Bool) → eqb k n ≡ t → f k ≡ true
at-go f n k p q h true e = rw (eqb-true k n e) p
at-go f n k p q h false e = q (let z : k ≡ n → ⊥ = eqb-false k n e in omega arith)

pub at : (f : ℕ → Bool) (n : ℕ) → below f n ≡ true → (k : ℕ) → k < n → f k ≡ true
at f zero e k h = absurd (not-suc-le-zero h)
at f (suc n) e k h = at-go f n k (&&-left (f n) (below f n) e) (at f n (&&-right (f n) (below f n) e) k) h (eqb k n) refl

pub same-eq : (a b : List ℕ) → same a b ≡ true → a ≡ b
same-eq a b e = (bytes_eq-Decides a b).0 (sym (same_is_bytes_eq a b) ∙ e)

-- What is behind stays, also where something was put before.
pub appended-rest : (o : List ℕ) {p b q : List ℕ} {m n : ℕ} → Appended p m b q n → drop m p ≡ drop m o → drop n q ≡ drop n o
appended-rest o {p} {b} {q} {m} {n} y e = y.rest ∙ (rw y.count (sym (drop-drop (length b) m p) ∙ ap (drop (length b)) e ∙ drop-drop (length b) m o))

-- Two things put after each other.
pub appended_then : {o a p b q : List ℕ} {at m n : ℕ} → Appended o at a p m → Appended p m b q n → Appended o at (a ++ b) q n
appended_then {o} {a} {p} {b} {q} {at} {m} {n} x y = record {
  count = y.count ∙ (rw (x.count, length-append a b) (add_assoc at (length a) (length b)));
  text = y.text ∙ (rw x.text (append_assoc (take at o) a b));
  rest = appended-rest o y x.rest;
}

-- The whole output after an appending.
pub appended-whole : {o b p : List ℕ} {at r : ℕ} → Appended o at b p r → p ≡ (take at o ++ b) ++ drop (at + length b) o
appended-whole {o} {b} {p} {at} {r} x =
    sym (take-append-drop r p) ∙ ap₂ (λ (u v : List ℕ). u ++ v) x.text (x.rest ∙ ap (λ (n : ℕ). drop n o) x.count)

-- A choice in the definition's order: past one that does not hold, and at one that does.
pub past {ℓ} : {A : Type ℓ} (b : Bool) (x y z : A) → b ≡ false → y ≡ z → pick b x y ≡ z
past true x y z e p = false-true (sym e)
past false x y z e p = p

pub here {ℓ} : {A : Type ℓ} (b : Bool) (x y : A) → b ≡ true → pick b x y ≡ x
here true x y e = refl
here false x y e = false-true e

-- a status that is 0, and one that is not
pub quiet : (n m : ℕ) → n ≡ m → n ≡ 0 → not (eqb m 0) ≡ false
quiet n m e z = rw (← e, z)

pub loud : (n m : ℕ) → n ≡ m → (n ≡ 0 → ⊥) → not (eqb m 0) ≡ true
loud n m e z = rw (← e, ne_eqb n 0 z)
