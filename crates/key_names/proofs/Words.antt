-- Names compared as numbers: the same three words of eight bytes make the same name.
use mathlib.Core.Path.{◌≡◌, refl, sym, ap, subst}
use mathlib.Core.Bool.{Bool, true, false, ◌&&◌}
use mathlib.Core.List.{List, [], ◌∷◌}
use Prim.Native.Nat.{ℕ, zero, suc, ◌+◌, ◌*◌, ◌-◌, ◌<◌, ◌≤◌}
use native.Mathlib.Omega.{arith}
use native.Mathlib.Nat.{not-suc-le-zero, add_assoc}
use lib.ListN.{length, get_or}
use lib.Seq.{ext_get_or}
use lib.Dec.{ltb, leb, eqb}
use borrow.Author.Tests.{leb-true, ltb-true, ltb-false, le-ltb, eqb-true, eqb-false, eq-eqb}
use Rattle.field.specs.Field.{be_at}
use Rattle.text.specs.Text.{same, has, all, pick}
use Rattle.text.proofs.Laws.{below, at, same-eq, &&-left, &&-right}
use Rattle.key_table.specs.Table.{known, name_at}
use Rattle.key_table.proofs.Tables.{same_refl}
use Rattle.key_names.specs.Candidates.{candidates_of}
use Rattle.key_names.specs.Spelling.{middle_at, spelt}
use Rattle.key_names.specs.declared.KnownName.{KnownName}
use Rattle.key_names.proofs.Laws.{lawful, below-known}

-- A number of eight bytes is that of its halves.
pub halves : (s : List ℕ) (start : ℕ) → be_at s start 4 * 0x100000000 + be_at s (start + 4) 4 ≡ be_at s start 8
unfolding be_at
halves s start =
    let same_byte : (i : ℕ) → get_or s (start + 4 + i) 0 ≡ get_or s (start + (4 + i)) 0 = λ i. ap (λ (j : ℕ). get_or s j 0) (add_assoc start 4 i) in
    omega (arith, same_byte 0, same_byte 1, same_byte 2, same_byte 3)

-- Numbers of bytes are the same only if each byte is.
module _ (s t : List ℕ) (p : (i : ℕ) → get_or s i 0 < 256) (q : (i : ℕ) → get_or t i 0 < 256) (start : ℕ) where
  last-go : (n i : ℕ) → get_or s (start + n) 0 ≡ get_or t (start + n) 0 → (i < n → get_or s (start + i) 0 ≡ get_or t (start + i) 0) → i < suc n
      → (b : Bool) → eqb i n ≡ b → get_or s (start + i) 0 ≡ get_or t (start + i) 0
  last-go n i y r h true z = rw (eqb-true i n z) y
  last-go n i y r h false z = r (let w : i ≡ n → ⊥ = eqb-false i n z in omega (arith, w, h))

  be-same : (n : ℕ) → be_at s start n ≡ be_at t start n → (i : ℕ) → i < n → get_or s (start + i) 0 ≡ get_or t (start + i) 0
  unfolding be_at
  be-same zero e i h = absurd (not-suc-le-zero h)
  be-same (suc n) e i h =
      let x : be_at s start n ≡ be_at t start n = omega (arith, e, p (start + n), q (start + n)) in
      let y : get_or s (start + n) 0 ≡ get_or t (start + n) 0 = omega (arith, e, x) in
      last-go n i y (be-same n x i) h (eqb i n) refl

  byte-same : be_at s start 8 ≡ be_at t start 8 → (i : ℕ) → start ≤ i → i < start + 8 → get_or s i 0 ≡ get_or t i 0
  byte-same e i a b =
      let z : start + (i - start) ≡ i = omega arith in
      subst (λ (j : ℕ). get_or s j 0 ≡ get_or t j 0) z (be-same 8 e (i - start) (omega arith))

-- The first eight bytes, the middle and the last eight are all bytes of a name of 8 to 24.
module _ (s t : List ℕ) (p : (i : ℕ) → get_or s i 0 < 256) (q : (i : ℕ) → get_or t i 0 < 256) (l : length s ≡ length t)
    (least : 8 ≤ length s) (most : length s ≤ 24) where
  where-go : be_at s 0 8 ≡ be_at t 0 8 → be_at s (middle_at (length s)) 8 ≡ be_at t (middle_at (length s)) 8
      → be_at s (length s - 8) 8 ≡ be_at t (length s - 8) 8 → (i : ℕ) → i < length s → (a b : Bool) → ltb i 8 ≡ a → ltb i (length s - 8) ≡ b → get_or s i 0 ≡ get_or t i 0
  unfolding middle_at
  where-go x y z i h true b e f = byte-same s t p q 0 x i (omega arith) (ltb-true i 8 e)
  where-go x y z i h false false e f = byte-same s t p q (length s - 8) z i (ltb-false i (length s - 8) f) (omega (arith, h, least))
  where-go x y z i h false true e f =
      let a : 8 ≤ i = ltb-false i 8 e in
      let b : i < length s - 8 = ltb-true i (length s - 8) f in
      let m : ltb (length s) 16 ≡ false = le-ltb (length s) 16 (omega (arith, a, b)) in
      byte-same s t p q 8 (rw m at y) i a (omega (arith, b, most))

  same-words : be_at s 0 8 ≡ be_at t 0 8 → be_at s (middle_at (length s)) 8 ≡ be_at t (middle_at (length s)) 8
      → be_at s (length s - 8) 8 ≡ be_at t (length s - 8) 8 → s ≡ t
  same-words x y z = ext_get_or 0 s t l (λ i h. where-go x y z i h (ltb i 8) (ltb i (length s - 8)) refl refl)

-- The known names have 8 to 24 bytes.
small : ℕ → Bool
small x = ltb x 256

sized : ℕ → Bool
sized k = leb 8 (length (name_at k)) && leb (length (name_at k)) 24

plain : ℕ → Bool
plain k = sized k && all small (name_at k)

all_plain : below plain 28 ≡ true
unfolding plain sized small all name_at known
all_plain = refl

all-at : (l : List ℕ) → all small l ≡ true → (i : ℕ) → get_or l i 0 < 256
unfolding all small
all-at [] e i = omega arith
all-at (x ∷ l) e zero = ltb-true x 256 (&&-left (small x) (all small l) e)
all-at (x ∷ l) e (suc i) = all-at l (&&-right (small x) (all small l) e) i

module _ (k : ℕ) (h : k < 28) where
  known_bytes : (i : ℕ) → get_or (name_at k) i 0 < 256
  unfolding plain
  known_bytes = all-at (name_at k) (&&-right (sized k) _ (at plain 28 all_plain k h))

  pub known-least : 8 ≤ length (name_at k)
  unfolding plain sized
  known-least = leb-true _ _ (&&-left _ _ (&&-left (sized k) _ (at plain 28 all_plain k h)))

  pub known-most : length (name_at k) ≤ 24
  unfolding plain sized
  known-most = leb-true _ _ (&&-right (leb 8 (length (name_at k))) _ (&&-left (sized k) _ (at plain 28 all_plain k h)))

-- A name with a candidate has 8 to 24 bytes, and is the candidate's exactly if the three words are.
both_ways : (a b : Bool) → (a ≡ true → b ≡ true) → (b ≡ true → a ≡ true) → a ≡ b
both_ways true b f g = sym (f refl)
both_ways false true f g = g refl
both_ways false false f g = refl

module _ (n : List ℕ) (k : ℕ) (c : has k (candidates_of n) ≡ true) where
  shares-length : length (name_at k) ≡ length n
  unfolding candidates_of
  shares-length = ((lawful (length n) (get_or n 0 0)).only k c).1

  pub name_least : 8 ≤ length n
  name_least = omega (arith, known-least k (below-known n k c), shares-length)

  pub name_most : length n ≤ 24
  name_most = omega (arith, known-most k (below-known n k c), shares-length)

  middle-go : (b : Bool) → ltb (length n) 16 ≡ b → pick b (length n - 8) 8 + 8 ≤ length n
  middle-go true e = omega (arith, name_least)
  middle-go false e = ltb-false (length n) 16 e

  pub middle_in : (m : ℕ) → m ≡ middle_at (length n) → m + 8 ≤ length n
  unfolding middle_at
  middle_in m e = rw e (middle-go (ltb (length n) 16) refl)

  words_of : (m : ℕ) → m ≡ middle_at (length n)
      → ((eqb (be_at n 0 8) (spelt k).head && eqb (be_at n m 8) (spelt k).middle) && eqb (be_at n (length n - 8) 8) (spelt k).tail) ≡ true
      → ((i : ℕ) → get_or n i 0 < 256) → same n (name_at k) ≡ true
  unfolding spelt
  words_of m e w p =
      let l = shares-length in
      let hm = &&-left _ _ w in
      let x : be_at n 0 8 ≡ be_at (name_at k) 0 8 = eqb-true _ _ (&&-left _ _ hm) in
      let y : be_at n m 8 ≡ be_at (name_at k) (middle_at (length (name_at k))) 8 = eqb-true _ _ (&&-right (eqb (be_at n 0 8) (be_at (name_at k) 0 8)) _ hm) in
      let z : be_at n (length n - 8) 8 ≡ be_at (name_at k) (length (name_at k) - 8) 8 =
      eqb-true _ _ (&&-right (eqb (be_at n 0 8) (spelt k).head && eqb (be_at n m 8) (spelt k).middle) _ w) in
      let u = same-words n (name_at k) p (known_bytes k (below-known n k c)) (sym l) name_least name_most x (rw (e, l) at y) (rw l at z) in
      subst (λ (t : List ℕ). same n t ≡ true) u (same_refl n)

  of_words : (m : ℕ) → m ≡ middle_at (length n) → same n (name_at k) ≡ true
      → ((eqb (be_at n 0 8) (spelt k).head && eqb (be_at n m 8) (spelt k).middle) && eqb (be_at n (length n - 8) 8) (spelt k).tail) ≡ true
  unfolding spelt
  of_words m e h =
      let equal : (x : ℕ) → eqb x x ≡ true = λ x. eq-eqb x x refl in
      rw (e, sym (same-eq n (name_at k) h), equal (be_at n 0 8), equal (be_at n (middle_at (length n)) 8), equal (be_at n (length n - 8) 8)) refl

  pub whole : ((i : ℕ) → get_or n i 0 < 256) → (name : KnownName) (m a b d : ℕ) → name ≡ spelt k → m ≡ middle_at (length n) → a ≡ be_at n 0 8 → b ≡ be_at n m 8
      → d ≡ be_at n (length n - 8) 8 → ((eqb a name.head && eqb b name.middle) && eqb d name.tail) ≡ same n (name_at k)
  whole p name m a b d e em ea eb ed = rw (e, ea, eb, ed) (both_ways _ _ (λ w. words_of m em w p) (of_words m em))
