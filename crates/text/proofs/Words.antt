-- The words of the definitions are the library's.
use mathlib.Core.Path.{◌≡◌, refl, ap}
use mathlib.Core.Bool.{Bool, true, false, not, cond, ◌&&◌}
use mathlib.Core.List.{List, [], ◌∷◌}
use Prim.Native.Nat.{ℕ, ◌+◌, ◌≤◌}
use lib.ListN.{length}
use lib.Dec.{eqb, ltb}
use native.Mathlib.Omega.{arith}
use borrow.Author.Tests.{ltb-false}
use Rattle.std.proofs.lemmas.List.Sums.{prefix_len-le-length}
use Rattle.std.specs.Prelude.{Option, Some, None, unwrap_or}
use Rattle.std.specs.List.{position_or_len, slice_split, onto_first, list_any, list_all}
use Rattle.std.specs.Str.{bytes_eq}
use Rattle.text.specs.Text.{pick, before, same, all, items, onto, among, listed}

pick-cond {ℓ} : {A : Type ℓ} (t : Bool) (a b : A) → pick t a b ≡ cond t a b
pick-cond true a b = refl
pick-cond false a b = refl

before-go : (t : Bool) (y n : ℕ) (b : List ℕ) → length b ≡ n → length (pick t [] (y ∷ b)) ≡ cond (not t) (1 + n) 0
before-go true y n b e = refl
before-go false y n b e = omega (arith, e)

pub before_is_position : (x : ℕ) (s : List ℕ) → length (before x s) ≡ position_or_len (λ b. eqb b x) s
unfolding before
before_is_position x [] = refl
before_is_position x (y ∷ s) = before-go (eqb y x) y _ (before x s) (before_is_position x s)

-- what `position` finds, or else the length, is the length of what is before the first x
place-go : (t : Bool) (o : Option ℕ) (n m : ℕ) → ltb n m ≡ t → n ≤ m → o ≡ cond t (Some n) None → unwrap_or o m ≡ n
place-go true o n m e h p = rw p refl
place-go false o n m e h p = rw p (let z : m ≤ n = ltb-false n m e in omega arith)

pub before_most : (x : ℕ) (s : List ℕ) → length (before x s) ≤ length s
before_most x s = rw before_is_position (prefix_len-le-length _ s)

pub place_before : (x : ℕ) (s : List ℕ) (o : Option ℕ)
    → o ≡ cond (ltb (position_or_len (λ b. eqb b x) s) (length s)) (Some (position_or_len (λ b. eqb b x) s)) None
    → unwrap_or o (length s) ≡ length (before x s)
place_before x s o p = rw before_is_position (place-go _ o _ (length s) refl (prefix_len-le-length _ s) p)

pub same_is_bytes_eq : (a b : List ℕ) → same a b ≡ bytes_eq a b
unfolding same
same_is_bytes_eq [] [] = refl
same_is_bytes_eq [] (y ∷ b) = refl
same_is_bytes_eq (x ∷ a) [] = refl
same_is_bytes_eq (x ∷ a) (y ∷ b) = ap (λ r. eqb x y && r) (same_is_bytes_eq a b)

pub all_is_list_all : (f : ℕ → Bool) (s : List ℕ) → all f s ≡ list_all f s
unfolding all
all_is_list_all f [] = refl
all_is_list_all f (x ∷ s) = ap (λ r. f x && r) (all_is_list_all f s)

pub onto-onto_first : (c : ℕ) (l : List (List ℕ)) → onto c l ≡ onto_first c l
onto-onto_first c [] = refl
onto-onto_first c (i ∷ is) = refl

items-slice_split : (s : List ℕ) → items s ≡ slice_split (λ b. eqb b 44) s
unfolding items
items-slice_split [] = refl
items-slice_split (c ∷ s) = rw (items-slice_split s, onto-onto_first) (pick-cond (eqb c 44) _ _)

among-list_any : (w : List ℕ) (l : List (List ℕ)) → among w l ≡ list_any (λ i. bytes_eq i w) l
among-list_any w [] = refl
among-list_any w (i ∷ is) = rw (same_is_bytes_eq i w, among-list_any w is)

pub listed_split : (w s : List ℕ) → listed w s ≡ list_any (λ i. bytes_eq i w) (slice_split (λ b. eqb b 44) s)
unfolding listed
listed_split w s = rw (items-slice_split s) (among-list_any w _)
