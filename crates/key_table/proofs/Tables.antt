-- The tables of the code are those of the definitions: each rule is one test, computed over the whole table.
use mathlib.Core.Path.{◌≡◌, refl, sym, ap, ◌∙◌, subst}
use mathlib.Core.Bool.{Bool, true, false, ◌&&◌, ◌||◌}
use mathlib.Core.List.{List, [], ◌∷◌, map}
use denote.Enum.Declared.{tag_of}
use Prim.Native.Nat.{ℕ, suc, ◌<◌, ◌≤◌}
use native.Mathlib.Omega.{arith}
use lib.ListN.{get_or, length}
use lib.Seq.{ext_get_or}
use Rattle.std.proofs.Common.{rules}
use Rattle.std.proofs.lemmas.List.{get_or-map}
use native.Mathlib.Nat.{not-suc-le-zero, le_of_suc-le-suc}
use lib.Dec.{ltb, eqb}
use borrow.Author.Tests.{ltb-true, le-ltb, eqb-true, eq-eqb, ne_eqb}
use Rattle.text.specs.Text.{same, pick, all}
use Rattle.text.proofs.Laws.{below, at, same-eq, &&-left, &&-right, false-true}
use Rattle.text_block.specs.Block.{good_name, name_byte}
use Rattle.key_table.specs.Table.{Known, known, key, place_of_key, key_of, name_at, kind_at, place_in, row, rows, row_at}
use Rattle.key_table.specs.contracts.table.Key.{the_type}
use Rattle.key_table.specs.declared.table.Key.{Key}
use Rattle.key_table.specs.declared.table.Kind.{Kind}
use Rattle.key_table.specs.declared.table.Kind.TheVariants as K
use Rattle.key_table.specs.declared.table.Rule.TheVariants as R
use Rattle.key_table.specs.declared.table.Row.{Row}

-- A key's number in the code is its place, one of 28.
pub number-place : (k : Key) → tag_of the_type k ≡ place_of_key k
number-place k = search rules

pub place-few : (k : Key) → place_of_key k < 28
place-few k = search rules

abbrev none : Known
none = key "" K.Refused

-- A name that is known is the name of its key.
place-go : (t : Bool) (n : List ℕ) (x : Known) (xs : List Known) → same n x.name ≡ t → (place_in n xs < length xs → n ≡ (get_or xs (place_in n xs) none).name)
    → pick t 0 (suc (place_in n xs)) < suc (length xs) → n ≡ (get_or (x ∷ xs) (pick t 0 (suc (place_in n xs))) none).name
place-go true n x xs e r h = same-eq n x.name e
place-go false n x xs e r h = r (le_of_suc-le-suc h)

place-name : (n : List ℕ) (xs : List Known) → place_in n xs < length xs → n ≡ (get_or xs (place_in n xs) none).name
place-name n [] h = absurd (not-suc-le-zero h)
place-name n (x ∷ xs) h = place-go (same n x.name) n x xs refl (place-name n xs) h

pub known-name : (n : List ℕ) → key_of n < 28 → n ≡ name_at (key_of n)
unfolding key_of name_at known
known-name n h = place-name n known h

most-go : (t : Bool) (a b : ℕ) → a ≤ b → pick t 0 (suc a) ≤ suc b
most-go true a b h = omega arith
most-go false a b h = omega arith

place-most : (n : List ℕ) (xs : List Known) → place_in n xs ≤ length xs
place-most n [] = omega arith
place-most n (x ∷ xs) = most-go (same n x.name) (place_in n xs) (length xs) (place-most n xs)

pub key-most : (n : List ℕ) → key_of n ≤ 28
unfolding key_of known
key-most n = place-most n known

-- Each name is its key's alone, and has a good form.
alone : ℕ → Bool
alone k = eqb (key_of (name_at k)) k

formed-name : ℕ → Bool
formed-name k = good_name (name_at k)

own_name : ℕ → Bool
own_name k = alone k && formed-name k

own-names : below own_name 28 ≡ true
unfolding own_name alone formed-name name_at key_of known same good_name all name_byte
own-names = refl

module _ (k : ℕ) (h : k < 28) where
  pub key-alone : key_of (name_at k) ≡ k
  unfolding own_name alone
  key-alone = eqb-true _ _ (&&-left (alone k) _ (at own_name 28 own-names k h))

  key-formed : good_name (name_at k) ≡ true
  unfolding own_name formed-name
  key-formed = &&-right (alone k) _ (at own_name 28 own-names k h)

pub same_refl : (n : List ℕ) → same n n ≡ true
unfolding same
same_refl [] = refl
same_refl (x ∷ n) = rw (eq-eqb x x refl) (same_refl n)

-- A name that is known has the bytes of its key's name.
pub known_same : (n : List ℕ) → key_of n < 28 → same n (name_at (key_of n)) ≡ true
known_same n p = ap (same n) (sym (known-name n p)) ∙ same_refl n

pub unknown : (n : List ℕ) → (key_of n < 28 → ⊥) → 28 ≡ key_of n
unknown n h = omega (arith, key-most n, h)

-- A known key's name has a good form.
pub known-formed : (n : List ℕ) → key_of n < 28 → good_name n ≡ true
known-formed n p = subst (λ (m : List ℕ). good_name m ≡ true) (sym (known-name n p)) (key-formed (key_of n) p)

-- A list of the rows' values at a field is that column.
pub column : (f : Row → ℕ) (l : List ℕ) → length l ≡ 12 → ((i : ℕ) → i < 12 → get_or l i 0 ≡ f (row_at i)) → l ≡ map f rows
unfolding rows row_at
column f l e h =
    ext_get_or 0 l (map f rows) e
    (λ i b. let k : i < 12 = omega (arith, e, b) in h i k ∙ sym (get_or-map f rows i (row R.Declared 0 0 0 0) 0 k))

-- What a key is: a test over a run of keys, past those that are skipped.
unfoldable pub code : Kind → ℕ
code K.Negotiated = 0
code K.Declared = 1
code K.Digest = 2
code K.TaskReporting = 3
code K.AuthMethod = 4
code K.InitiatorName = 5
code K.TargetName = 6
code K.SessionType = 7
code K.InitiatorAlias = 8
code K.Marker = 9
code K.Refused = 10

decode : ℕ → Kind
decode n = get_or (K.Negotiated ∷ K.Declared ∷ K.Digest ∷ K.TaskReporting ∷ K.AuthMethod ∷ K.InitiatorName ∷ K.TargetName ∷ K.SessionType ∷ K.InitiatorAlias ∷ K.Marker ∷ K.Refused ∷ []) n K.Refused

back : (x : Kind) → decode (code x) ≡ x
unfolding code decode
back K.Negotiated = refl
back K.Declared = refl
back K.Digest = refl
back K.TaskReporting = refl
back K.AuthMethod = refl
back K.InitiatorName = refl
back K.TargetName = refl
back K.SessionType = refl
back K.InitiatorAlias = refl
back K.Marker = refl
back K.Refused = refl

unfoldable all_are : Kind → (ℕ → Bool) → ℕ → Bool
all_are x skip n = skip n || eqb (code (kind_at n)) (code x)

or_right : (a b : Bool) → a ≡ false → (a || b) ≡ true → b ≡ true
or_right true b e h = false-true (sym e)
or_right false b e h = h

kind-in : (x : Kind) (skip : ℕ → Bool) (n : ℕ) → below (all_are x skip) n ≡ true → (k : ℕ) → k < n → skip k ≡ false → kind_at k ≡ x
unfolding all_are
kind-in x skip n t k h s =
    let e : eqb (code (kind_at k)) (code x) ≡ true = or_right (skip k) _ s (at (all_are x skip) n t k h) in
    sym (back (kind_at k)) ∙ ap decode (eqb-true (code (kind_at k)) (code x) e) ∙ back x

module _ (k : ℕ) where
  pub is-negotiated : k < 12 → (k ≡ 6 → ⊥) → kind_at k ≡ K.Negotiated
  unfolding all_are kind_at known code
  is-negotiated h n = kind-in K.Negotiated (λ (i : ℕ). eqb i 6) 12 refl k h (ne_eqb k 6 n)

-- A key of the table is one of the first twelve.
unfoldable tabled : ℕ → Bool
tabled k = ltb k 12 || ltb 1 (code (kind_at k))

twelve : below tabled 28 ≡ true
unfolding tabled kind_at known code
twelve = refl

or_left : (a b : Bool) → b ≡ false → (a || b) ≡ true → a ≡ true
or_left true b e h = refl
or_left false b e h = false-true (sym e ∙ h)

pub in_table : (k : ℕ) → k < 28 → code (kind_at k) ≤ 1 → k < 12
unfolding tabled
in_table k h c = ltb-true k 12 (or_left _ _ (le-ltb _ _ c) (at tabled 28 twelve k h))
