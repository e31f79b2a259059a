-- What a read PDU says of the bytes it was read from: each refusal was passed over, and its fields are the bytes'.
-- The layers above cite these laws and never open `read_pdu`.
use mathlib.Core.Path.{◌≡◌, refl, sym, subst}
use mathlib.Core.List.{List}
use mathlib.Core.Bool.{Bool, true, false, ◌&&◌}
use Prim.Native.Nat.{ℕ, ◌+◌, ◌≤◌}
use native.Mathlib.Omega.{arith}
use borrow.Author.Tests.{ltb-false, eqb-true, not-false}
use lib.ListN.{length, drop, length-drop}
use lib.Seq.{length-take-le}
use Rattle.field.specs.Field.{pick}
use Rattle.request_header.specs.Request.{read_pdu, judged, Answer, got, refused, known, opcode_of}
use Rattle.request_header.specs.Request.{data_length_of, stated_length, shared_ok, rule_ok, pdu_of, data_of}
use Rattle.request_header.specs.declared.Pdu.{Pdu}
use Rattle.request_header.specs.declared.Limits.{Limits}

pub record Got (m : Limits) (s : List ℕ) (p : Pdu) : Type 0 where
  pub long : 48 ≤ length s
  pub opcode : known (opcode_of s) ≡ true
  pub within : data_length_of s ≤ m.data_segment
  pub exact : length s ≡ stated_length s
  pub shared : shared_ok (opcode_of s) s ≡ true
  pub rule : rule_ok m p p.request ≡ true
  pub fields : p ≡ pdu_of (opcode_of s) s

-- a PDU comes of no refusal
past : {p : Pdu} (b : Bool) (k : ℕ) (y : Answer) → pick b (refused k) y ≡ got p → (b ≡ false) × (y ≡ got p)
past true k y e = let z : ◌≡◌ {A = ℕ} 0 1 = cc in absurd (omega arith)
past false k y e = (refl, e)

good : {p : Pdu} (a b : Bool) (k : ℕ) (q : Pdu) → pick (a && b) (got q) (refused k) ≡ got p → (a ≡ true) × (b ≡ true) × (p ≡ q)
good true true k q e = (refl, refl, cc)
good true false k q e = let z : ◌≡◌ {A = ℕ} 0 1 = cc in absurd (omega arith)
good false b k q e = let z : ◌≡◌ {A = ℕ} 0 1 = cc in absurd (omega arith)

pub got-all : (m : Limits) (s : List ℕ) (p : Pdu) → read_pdu m s ≡ got p → Got m s p
unfolding read_pdu judged
got-all m s p e =
    let a = past _ 4 _ e in
    let b = past _ 2 _ a.1 in
    let c = past _ 5 _ b.1 in
    let d = past _ 4 _ c.1 in
    let g = good _ _ 3 _ d.1 in
    record {
      long = ltb-false _ _ a.0;
      opcode = not-false _ b.0;
      within = ltb-false _ _ c.0;
      exact = eqb-true _ _ (not-false _ d.0);
      shared = g.0;
      rule = subst (λ (q : Pdu). rule_ok m q q.request ≡ true) (sym g.2) g.1;
      fields = g.2;
    }

-- a read PDU has a whole header
pub got-long : (m : Limits) (s : List ℕ) (p : Pdu) → read_pdu m s ≡ got p → 48 ≤ length s
got-long m s p e = (got-all m s p e).long

-- its data lies within the input
pub got-data : (m : Limits) (s : List ℕ) (p : Pdu) → read_pdu m s ≡ got p → p.data_start + p.data_segment_length ≤ length s
unfolding pdu_of stated_length
got-data m s p e =
    let g = got-all m s p e in
    rw g.fields (omega arith)

-- and is as long as its header states; cited by no other law yet, kept for reading back what was written (request L7)
pub got-data-length : (m : Limits) (s : List ℕ) (p : Pdu) → read_pdu m s ≡ got p → length (data_of s p) ≡ p.data_segment_length
unfolding data_of
got-data-length m s p e =
    let d = got-data m s p e in
    length-take-le _ (drop p.data_start s) (simp length-drop (omega arith))
