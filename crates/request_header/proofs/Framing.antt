-- The whole length beside reading: a refusal of the length is reading's of the same bytes, bytes cut at the length are refused for no length, and
-- no byte after the 48 is looked at. So a stream that is cut by `length_asked` is cut as `read_pdu` wants it.
use Prim.Native.Nat.{ℕ, zero, suc, ◌+◌, ◌≤◌}
use mathlib.Core.Path.{◌≡◌, refl, sym, ap, ◌∙◌}
use mathlib.Core.List.{List}
use mathlib.Core.Bool.{Bool, true, false, not}
use native.Mathlib.Omega.{arith}
use borrow.Author.Tests.{eq-eqb, ne_eqb, le-ltb}
use lib.Dec.{ltb}
use lib.ListN.{length, take}
use lib.Seq.{get_or-take, length-take-le}
use Rattle.field.specs.Field.{pick, be_at}
use Rattle.request_header.specs.Request.{Answer, refused, read_pdu, judged, known, opcode_of, data_length_of, stated_length, pdu_of}
use Rattle.request_header.specs.Request.{whole, unframed, length_asked}
use Rattle.request_header.specs.Verdicts.{refusal_before_field}
use Rattle.request_header.specs.declared.Limits.{Limits}

same_number : {a b : ℕ} → unframed a ≡ unframed b → a ≡ b
same_number p = cc

same_length : {a b : ℕ} → whole a ≡ whole b → a ≡ b
same_length p = cc

-- what is made of the three tests that all make, f of a refusal's number and y past them, by what the length says
module _ {A : Type 0} (f : ℕ → A) (y : A) {n : ℕ} (l : ℕ) where
  unframed-by : (a b c : Bool) → pick a (unframed 4) (pick b (unframed 2) (pick c (unframed 5) (whole l))) ≡ unframed n
      → pick a (f 4) (pick b (f 2) (pick c (f 5) y)) ≡ f n
  unframed-by true b c e = ap f (same_number e)
  unframed-by false true c e = ap f (same_number e)
  unframed-by false false true e = ap f (same_number e)
  unframed-by false false false e = let z : ◌≡◌ {A = ℕ} 0 1 = cc in absurd (omega arith)

  whole_by : (a b c : Bool) → pick a (unframed 4) (pick b (unframed 2) (pick c (unframed 5) (whole l))) ≡ whole n
      → (pick a (f 4) (pick b (f 2) (pick c (f 5) y)) ≡ y) × (l ≡ n)
  whole_by true b c e = let z : ◌≡◌ {A = ℕ} 0 1 = cc in absurd (omega arith)
  whole_by false true c e = let z : ◌≡◌ {A = ℕ} 0 1 = cc in absurd (omega arith)
  whole_by false false true e = let z : ◌≡◌ {A = ℕ} 0 1 = cc in absurd (omega arith)
  whole_by false false false e = (refl, same_length e)

module _ (m : Limits) (s : List ℕ) (n : ℕ) where
  pub unframed-refused : length_asked m s ≡ unframed n → read_pdu m s ≡ refused n
  unfolding length_asked read_pdu
  unframed-refused e =
      unframed-by refused _ (stated_length s) (ltb (length s) 48) (not (known (opcode_of s))) (ltb m.data_segment (data_length_of s)) e

  -- FIELD is all that reading may still refuse
  pub framed-judged : length_asked m s ≡ whole n → length s ≡ n → read_pdu m s ≡ judged m (opcode_of s) s (pdu_of (opcode_of s) s)
  unfolding length_asked read_pdu
  framed-judged e q =
      let w = whole_by refused _ (stated_length s) (ltb (length s) 48) (not (known (opcode_of s))) (ltb m.data_segment (data_length_of s)) e in
      w.0 ∙ rw (eq-eqb (length s) (stated_length s) (q ∙ sym w.1))

  pub misframed-refused : length_asked m s ≡ whole n → (length s ≡ n → ⊥) → read_pdu m s ≡ refused 4
  unfolding length_asked read_pdu
  misframed-refused e q =
      let w = whole_by refused _ (stated_length s) (ltb (length s) 48) (not (known (opcode_of s))) (ltb m.data_segment (data_length_of s)) e in
      w.0 ∙ rw (ne_eqb (length s) (stated_length s) (λ x. q (x ∙ w.1)))

  -- the refusal before FIELD
  pub unframed-before : length_asked m s ≡ unframed n → refusal_before_field m s ≡ n
  unfolding length_asked refusal_before_field
  unframed-before e =
      unframed-by (λ k. k) _ (stated_length s) (ltb (length s) 48) (not (known (opcode_of s))) (ltb m.data_segment (data_length_of s)) e

  pub framed-before : length_asked m s ≡ whole n → length s ≡ n → refusal_before_field m s ≡ 0
  unfolding length_asked refusal_before_field
  framed-before e q =
      let w = whole_by (λ k. k) _ (stated_length s) (ltb (length s) 48) (not (known (opcode_of s))) (ltb m.data_segment (data_length_of s)) e in
      w.0 ∙ rw (eq-eqb (length s) (stated_length s) (q ∙ sym w.1))

  pub misframed-before : length_asked m s ≡ whole n → (length s ≡ n → ⊥) → refusal_before_field m s ≡ 4
  unfolding length_asked refusal_before_field
  misframed-before e q =
      let w = whole_by (λ k. k) _ (stated_length s) (ltb (length s) 48) (not (known (opcode_of s))) (ltb m.data_segment (data_length_of s)) e in
      w.0 ∙ rw (ne_eqb (length s) (stated_length s) (λ x. q (x ∙ w.1)))

-- ---- the first 48 bytes

first-be : (s : List ℕ) (at k : ℕ) → at + k ≤ 48 → be_at (take 48 s) at k ≡ be_at s at k
unfolding be_at
first-be s at zero l = refl
first-be s at (suc k) l = rw (first-be s at k (omega arith), get_or-take 48 s (at + k) 0 (omega arith))

pub first-bytes : (m : Limits) (s : List ℕ) → 48 ≤ length s → length_asked m (take 48 s) ≡ length_asked m s
unfolding length_asked stated_length
first-bytes m s l =
    rw (
      length-take-le 48 s l,
      le-ltb (length s) 48 l,
      get_or-take 48 s 0 0 (omega arith),
      get_or-take 48 s 4 0 (omega arith),
      first-be s 5 3 (omega arith),
    )

-- what the header says the input says
pub header-length : (m : Limits) (s : List ℕ) {h : List ℕ} → 48 ≤ length s → h ≡ take 48 s → length_asked m h ≡ length_asked m s
header-length m s l e = rw e (first-bytes m s l)
