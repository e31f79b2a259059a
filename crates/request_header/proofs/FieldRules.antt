-- The field rules kind by kind, and the refusals in numbers: what `read_pdu` says by `refusal_before_field`, `fields_ok` and `first_refusal`.
-- The layers above cite these laws and never open `read_pdu`.
use mathlib.Core.Path.{◌≡◌, refl, sym, ap, ◌∙◌}
use mathlib.Core.Bool.{Bool, true, false, not, ◌&&◌, ◌||◌}
use mathlib.Core.List.{List}
use Prim.Native.Nat.{ℕ, ◌%◌, ◌≤◌}
use native.Mathlib.Omega.{arith}
use borrow.Author.Tests.{ltb-false, not-false, eqb-true, eqb-false, lt-leb, eq-eqb, ne_eqb}
use lib.Dec.{eqb, leb, ltb}
use lib.ListN.{length}
use Rattle.field.specs.Field.{be_at, byte, bit, pick, none}
use Rattle.request_header.specs.declared.Limits.{Limits}
use Rattle.request_header.specs.Request.{read_pdu, judged, Answer, got, refused, known, opcode_of}
use Rattle.request_header.specs.Request.{data_length_of, stated_length, shared_ok, rule_ok, snack_ok, pdu_of, request_of}
use Rattle.request_header.specs.Verdicts.{fields_ok, refusal_before_field, first_refusal}

pub and-true : (b : Bool) → (b && true) ≡ b
and-true true = refl
and-true false = refl

or-false : (b : Bool) → (b || false) ≡ b
or-false true = refl
or-false false = refl

or-true : (b : Bool) → (b || true) ≡ true
or-true true = refl
or-true false = refl

module _ (m : Limits) (s : List ℕ) where
  pub nop-out-rules : fields_ok m 0x00 s ≡ (bit (byte s 1) 128 && eqb (byte s 4) 0) && (not (eqb (be_at s 16 4) none) || bit (byte s 0) 64)
  unfolding fields_ok shared_ok rule_ok pdu_of request_of
  nop-out-rules = simp (or-false, and-true)

  pub scsi-command-rules : fields_ok m 0x01 s ≡ leb (byte s 1 % 8) 4 && (bit (byte s 1) 128 || bit (byte s 1) 32)
  unfolding fields_ok shared_ok rule_ok pdu_of request_of
  scsi-command-rules = simp (or-true)

  pub task-management-rules : fields_ok m 0x02 s
      ≡ (bit (byte s 1) 128 && eqb (byte s 4) 0) && ((leb 1 (byte s 1 % 128) && leb (byte s 1 % 128) m.task_function) && eqb (data_length_of s) 0)
  unfolding fields_ok shared_ok rule_ok pdu_of request_of
  task-management-rules = simp (or-false, and-true)

  pub login-rules : fields_ok m 0x03 s ≡ eqb (byte s 4) 0 && bit (byte s 0) 64
  unfolding fields_ok shared_ok rule_ok pdu_of request_of
  login-rules = simp (or-true, or-false, and-true)

  pub data-out-rules : fields_ok m 0x05 s ≡ eqb (byte s 4) 0
  unfolding fields_ok shared_ok rule_ok pdu_of request_of
  data-out-rules = simp (or-true, or-false, and-true)

  pub logout-rules : fields_ok m 0x06 s ≡ (bit (byte s 1) 128 && eqb (byte s 4) 0) && (leb (byte s 1 % 128) 2 && eqb (data_length_of s) 0)
  unfolding fields_ok shared_ok rule_ok pdu_of request_of
  logout-rules = simp (or-false, and-true)

  pub snack-rules : fields_ok m 0x10 s ≡ (bit (byte s 1) 128 && eqb (byte s 4) 0) && snack_ok (byte s 1 % 16) (be_at s 16 4) (be_at s 20 4)
  unfolding fields_ok shared_ok rule_ok pdu_of request_of
  snack-rules = simp (or-false)

pub ruleset kind_rules = (nop-out-rules, scsi-command-rules, task-management-rules, login-rules, data-out-rules, logout-rules, snack-rules)

-- the refusals before FIELD, over their tests: what the answer is where none is given, and where one is
none-given : (a b c d : Bool) (y : Answer) → ◌≡◌ {A = ℕ} (pick a 4 (pick b 2 (pick c 5 (pick d 4 0)))) 0
    → (pick a (refused 4) (pick b (refused 2) (pick c (refused 5) (pick d (refused 4) y))) ≡ y) × (a ≡ false) × (b ≡ false)
none-given true b c d y e = absurd (omega arith)
none-given false true c d y e = absurd (omega arith)
none-given false false true d y e = absurd (omega arith)
none-given false false false true y e = absurd (omega arith)
none-given false false false false y e = (refl, refl, refl)

one-given : (a b c d : Bool) (y : Answer) → (◌≡◌ {A = ℕ} (pick a 4 (pick b 2 (pick c 5 (pick d 4 0)))) 0 → ⊥)
    → pick a (refused 4) (pick b (refused 2) (pick c (refused 5) (pick d (refused 4) y))) ≡ refused (pick a 4 (pick b 2 (pick c 5 (pick d 4 0))))
one-given true b c d y e = refl
one-given false true c d y e = refl
one-given false false true d y e = refl
one-given false false false true y e = refl
one-given false false false false y e = absurd (e refl)

-- the number of the first refusal, f where one comes before FIELD
numbered : ℕ → Bool → ℕ
numbered f ok = pick (eqb f 0) (pick ok 0 3) f

number_read : (f : ℕ) (b : Bool) → eqb f 0 ≡ b → (ok : Bool) (g r : Answer) → (f ≡ 0 → r ≡ pick ok g (refused 3)) → ((f ≡ 0 → ⊥) → r ≡ refused f)
    → r ≡ pick (eqb (numbered f ok) 0) g (refused (numbered f ok))
unfolding numbered
number_read f true e true g r x y = rw e (x (eqb-true f 0 e))
number_read f true e false g r x y = rw e (x (eqb-true f 0 e))
number_read f false e ok g r x y = rw (e, e) (y (eqb-false f 0 e))

module _ (m : Limits) (s : List ℕ) where
  -- past them the field rules decide; the header is whole and its opcode known
  passed : refusal_before_field m s ≡ 0
      → (read_pdu m s ≡ pick (fields_ok m (opcode_of s) s) (got (pdu_of (opcode_of s) s)) (refused 3))
      × (ltb (length s) 48 ≡ false) × (not (known (opcode_of s)) ≡ false)
  unfolding refusal_before_field read_pdu judged fields_ok pdu_of
  passed e =
      none-given (ltb (length s) 48) (not (known (opcode_of s))) (ltb m.data_segment (data_length_of s)) (not (eqb (length s) (stated_length s)))
      _ e

  not-passed : (refusal_before_field m s ≡ 0 → ⊥) → read_pdu m s ≡ refused (refusal_before_field m s)
  unfolding refusal_before_field read_pdu
  not-passed e =
      one-given (ltb (length s) 48) (not (known (opcode_of s))) (ltb m.data_segment (data_length_of s)) (not (eqb (length s) (stated_length s)))
      _ e

  -- what a caller knows by the number of the refusal before FIELD: another than 0 is reading's answer
  pub refused-before : {n : ℕ} → n ≡ refusal_before_field m s → (n ≡ 0 → ⊥) → read_pdu m s ≡ refused n
  refused-before e f = rw e (not-passed (λ z. f (e ∙ z)))

  -- past 0 the input has a header whose opcode is read here, and the field rules of that opcode decide
  pub long-past : {n : ℕ} → n ≡ refusal_before_field m s → n ≡ 0 → 48 ≤ length s
  long-past e z = ltb-false _ _ (passed (sym e ∙ z)).1

  pub known_past : {n : ℕ} → n ≡ refusal_before_field m s → n ≡ 0 → known (opcode_of s) ≡ true
  known_past e z = not-false _ (passed (sym e ∙ z)).2

  pub rules-past : {n : ℕ} → n ≡ refusal_before_field m s → n ≡ 0
      → read_pdu m s ≡ pick (fields_ok m (opcode_of s) s) (got (pdu_of (opcode_of s) s)) (refused 3)
  rules-past e z = (passed (sym e ∙ z)).0

  -- the first refusal is one before FIELD, or by the field rules
  pub first-before-field : {n : ℕ} → n ≡ refusal_before_field m s → (n ≡ 0 → ⊥) → n ≡ first_refusal m s
  unfolding first_refusal
  first-before-field e f = rw (← e, ne_eqb _ _ f)

  pub first-by-fields : {n : ℕ} → n ≡ refusal_before_field m s → n ≡ 0 → {b v : Bool} → b ≡ fields_ok m (opcode_of s) s → b ≡ v → pick v 0 3 ≡ first_refusal m s
  unfolding first_refusal
  first-by-fields e f g h = rw (← e, eq-eqb _ _ f, ← g, h)

  -- its number, and the answer of reading
  first_read : read_pdu m s ≡ pick (eqb (first_refusal m s) 0) (got (pdu_of (opcode_of s) s)) (refused (first_refusal m s))
  unfolding first_refusal numbered
  first_read = number_read (refusal_before_field m s) _ refl (fields_ok m (opcode_of s) s) _ _ (λ z. (passed z).0) not-passed

  -- of a good PDU, and of a refusal's number
  pub read-good : {n : ℕ} → n ≡ first_refusal m s → n ≡ 0 → read_pdu m s ≡ got (pdu_of (opcode_of s) s)
  read-good e f = rw (sym e ∙ f) at first_read

  pub read-refused : {n : ℕ} → n ≡ first_refusal m s → (n ≡ 0 → ⊥) → read_pdu m s ≡ refused n
  read-refused e f = rw (← e, ne_eqb _ _ f) at first_read

-- an opcode that is read, and is none of the six others, is that of SNACK
pub known-last : (op : ℕ) → known op ≡ true → (op ≡ 0x00 → ⊥) → (op ≡ 0x01 → ⊥) → (op ≡ 0x02 → ⊥) → (op ≡ 0x03 → ⊥) → (op ≡ 0x05 → ⊥) → (op ≡ 0x06 → ⊥)
    → op ≡ 0x10
unfolding known
known-last op k a b c d e g =
    let f : leb op 3 ≡ false = lt-leb op 3 (omega arith) in
    eqb-true op 0x10 (rw (f, ne_eqb op 0x05 e, ne_eqb op 0x06 g) at k)
