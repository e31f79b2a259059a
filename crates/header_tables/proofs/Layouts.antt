-- The tables of the fifteen kinds are what the contracts' definitions say: of each response written, and of each request read.
use mathlib.Core.Path.{◌≡◌, refl, sym, ap, ◌∙◌, subst}
use mathlib.Core.Bool.{Bool, true, false, ◌||◌, and-true, or-false, and-eq-true_iff}
use mathlib.Core.List.{List, [], ◌++◌}
use Prim.Native.Nat.{ℕ, zero, suc, ◌+◌, ◌*◌, ◌/◌, ◌%◌, ◌<◌, ◌≤◌}
use mathlib.Core.Logic.{◌⊎◌, inl, inr, ⊎_elim}
use native.Mathlib.Nat.{zero-add, add-zero}
use native.Mathlib.Omega.{arith}
use borrow.Author.Tests.{ltb-true, ltb-false, eqb-true, eqb-false}
use lib.Dec.{T, eqb, ltb, lit<}
use lib.ListN.{length, get_or}
use Rattle.field.specs.Field.{be_at, bytes_of, pick, bit, byte}
use Rattle.header_tables.specs.Table.{Fits, sound, written, read_by, count, named, filled}
use Rattle.header_tables.specs.Layout.{Kind, nop_out, scsi_command, task_management, login, data_out, logout, snack, nop_in, scsi_response, task_management_response, login_response, data_in, logout_response, r2t, reject, table_of, bit_of, response_kind, request_kind, response_fields, request_fields, ResponseFits, NumbersFit}
use Rattle.response_header.specs.Response.{header_bytes, kind_fields, weigh, refusal_in, data_length_in, is_too_long, fields_fit}
use Rattle.request_header.specs.Request.{read_pdu, got, known, opcode_of, shared_ok, pdu_of, request_of}
use Rattle.request_header.specs.declared.Limits.{Limits}
use Rattle.request_header.specs.declared.Pdu.{Pdu}
use Rattle.response_header.specs.declared.Numbers.{Numbers}
use Rattle.response_header.specs.declared.Response.{Response}
use Rattle.response_header.specs.declared.Response.TheVariants as R
use Rattle.request_header.proofs.Reading.{got-all}
use Rattle.request_header.proofs.FieldRules.{known-last}
use Rattle.header_tables.proofs.Table.{back, named-filled}

pub sound-all : (k : Kind) → T (sound 0 (table_of k))
sound-all nop_out = tt
sound-all scsi_command = tt
sound-all task_management = tt
sound-all login = tt
sound-all data_out = tt
sound-all logout = tt
sound-all snack = tt
sound-all nop_in = tt
sound-all scsi_response = tt
sound-all task_management_response = tt
sound-all login_response = tt
sound-all data_in = tt
sound-all logout_response = tt
sound-all r2t = tt
sound-all reject = tt

-- ---- responses

-- the values of the rows, field by field
abbrev pub values : Response → Numbers → List (List ℕ)
values r n = filled (table_of (response_kind r)) (response_fields r n)

scsi-flags : (o u : Bool) → 0x80 + weigh o 4 + weigh u 2 ≡ 0 + 2 * (bit_of u + 2 * (bit_of o + 2 * (0 + 16 * 1)))
scsi-flags true true = refl
scsi-flags true false = refl
scsi-flags false true = refl
scsi-flags false false = refl

login-flags : (t : Bool) (c n : ℕ) → weigh t 0x80 + c * 4 + n ≡ n + 4 * (c + 4 * (0 + 8 * bit_of t))
login-flags true c n = omega arith
login-flags false c n = omega arith

data-in-flags : (f a : Bool) → weigh f 0x80 + weigh a 0x40 ≡ 0 + 64 * (bit_of a + 2 * bit_of f)
data-in-flags true true = refl
data-in-flags true false = refl
data-in-flags false true = refl
data-in-flags false false = refl

-- a response's 48 bytes are its table's
pub response-written : (r : Response) (n : Numbers) → header_bytes r n ≡ written (table_of (response_kind r)) (values r n)
unfolding header_bytes kind_fields bytes_of
response-written (R.NopIn r) n = refl
response-written (R.ScsiResponse r) n = rw (← (scsi-flags r.overflow r.underflow))
response-written (R.TaskManagementResponse r) n = refl
response-written (R.LoginResponse r) n = rw (← (login-flags r.transit r.csg r.nsg))
response-written (R.DataIn r) n = rw (← (data-in-flags r.is_final r.acknowledge))
response-written (R.LogoutResponse r) n = refl
response-written (R.R2t r) n = refl
response-written (R.Reject r) n = refl

counted : (r : Response) (n : Numbers) → length (response_fields r n) ≡ count (table_of (response_kind r))
counted (R.NopIn r) n = refl
counted (R.ScsiResponse r) n = refl
counted (R.TaskManagementResponse r) n = refl
counted (R.LoginResponse r) n = refl
counted (R.DataIn r) n = refl
counted (R.LogoutResponse r) n = refl
counted (R.R2t r) n = refl
counted (R.Reject r) n = refl

-- and its table reads its fields back from them
pub response-back : (r : Response) (n : Numbers) (q : List ℕ) → Fits (table_of (response_kind r)) (values r n) → named (table_of (response_kind r)) (read_by (table_of (response_kind r)) (header_bytes r n ++ q)) ≡ response_fields r n
response-back r n q f =
    let t = table_of (response_kind r) in
    rw (response-written r n, back 0 t (values r n) [] q (sound-all (response_kind r)) refl f) (named-filled t (response_fields r n) (counted r n))

refusal-zero : (a b : Bool) → ◌≡◌ {A = ℕ} (pick a 5 (pick b 0 3)) 0 → (a ≡ false) × (b ≡ true)
refusal-zero true b e = absurd (omega arith)
refusal-zero false true e = (refl, refl)
refusal-zero false false e = absurd (omega arith)

neither : (a b : Bool) → (a || b) ≡ false → a ≡ false
neither true b e = let z : ◌≡◌ {A = ℕ} 0 1 = cc in absurd (omega arith)
neither false b e = refl

-- whatever the limit, a data length that is not refused has room in three bytes
unrefused : (max : ℕ) (r : Response) → refusal_in max r ≡ 0 → (data_length_in r ≤ 0xffffff) × (fields_fit r ≡ true)
unfolding refusal_in
unrefused max r e =
    let u = refusal-zero (is_too_long max (data_length_in r)) (fields_fit r) e in
    (ltb-false 0xffffff (data_length_in r) (neither (ltb 0xffffff (data_length_in r)) (ltb max (data_length_in r)) u.0), u.1)

bit-lt : (b : Bool) → bit_of b < 2
bit-lt true = lit< tt
bit-lt false = lit< tt

-- a response that is not refused fits its table
pub response-fits : (max : ℕ) (r : Response) (n : Numbers)
    → refusal_in max r ≡ 0 → ResponseFits r → NumbersFit n → Fits (table_of (response_kind r)) (values r n)
response-fits max (R.NopIn r) n e f g = omega (arith, (unrefused max (R.NopIn r) e).0)
response-fits max (R.ScsiResponse r) n e f g = (omega arith, (omega (arith, bit-lt r.overflow, bit-lt r.underflow), omega (arith, (unrefused max (R.ScsiResponse r) e).0)))
response-fits max (R.TaskManagementResponse r) n e f g = omega arith
response-fits max (R.LoginResponse r) n e f g =
    let u = unrefused max (R.LoginResponse r) e in
    let a = (and-eq-true_iff _ (r.transit || eqb r.nsg 0)).0 u.1 in
    let b = (and-eq-true_iff _ (ltb r.isid 0x1_0000_0000_0000)).0 a.0 in
    let c = (and-eq-true_iff (ltb r.csg 4) (ltb r.nsg 4)).0 b.0 in
    let isid = ltb-true r.isid 0x1_0000_0000_0000 b.1 in
    (omega arith, (omega (arith, bit-lt r.transit, ltb-true r.csg 4 c.0, ltb-true r.nsg 4 c.1), omega (arith, u.0)))
response-fits max (R.DataIn r) n e f g =
    (omega arith, (omega (arith, bit-lt r.is_final, bit-lt r.acknowledge), omega (arith, (unrefused max (R.DataIn r) e).0)))
response-fits max (R.LogoutResponse r) n e f g = (omega arith, (omega arith, omega arith))
response-fits max (R.R2t r) n e f g = (omega arith, (omega arith, omega arith))
response-fits max (R.Reject r) n e f g = omega arith

-- ---- requests

choose : (b : Bool) → (b ≡ true) ⊎ (b ≡ false)
choose true = inl refl
choose false = inr refl

-- the seven opcodes that are read
known_elim : (P : ℕ → Type 0) (op : ℕ) → known op ≡ true → P 0x00 → P 0x01 → P 0x02 → P 0x03 → P 0x05 → P 0x06 → P 0x10 → P op
known_elim P op k a b c d e f g =
    let step : (j : ℕ) → P j → ((op ≡ j → ⊥) → P op) → P op =
    λ j x r. ⊎_elim (λ t. subst P (sym (eqb-true op j t)) x) (λ u. r (eqb-false op j u)) (choose (eqb op j)) in
    step 0x00 a (λ n0. step 0x01 b (λ n1. step 0x02 c (λ n2. step 0x03 d (λ n3. step 0x05 e (λ n5. step 0x06 f (λ n6.
    subst P (sym (known-last op k n0 n1 n2 n3 n5 n6)) g))))))

be-one : (s : List ℕ) (at : ℕ) → be_at s at 1 ≡ byte s at
unfolding be_at
be-one s at = zero-add (get_or s (at + 0) 0) ∙ ap (λ (k : ℕ). get_or s k 0) (add-zero at)

-- a bit is as its Bool says
bit_below : (n : ℕ) → n < 2 → bit_of (eqb n 1) ≡ n
bit_below zero h = refl
bit_below (suc zero) h = refl
bit_below (suc (suc n)) h = absurd (omega arith)

bit-back : (n : ℕ) → bit_of (eqb (n % 2) 1) ≡ n % 2
bit-back n = bit_below (n % 2) (omega arith)

-- what the table of opcode op reads is what the PDU shows
abbrev Read : List ℕ → ℕ → Type 0
Read s op =
    opcode_of s ≡ op → shared_ok op s ≡ true
    → named (table_of (request_kind (pdu_of op s).request)) (read_by (table_of (request_kind (pdu_of op s).request)) s) ≡ request_fields (pdu_of op s)

module _ (s : List ℕ) (h : (i : ℕ) → get_or s i 0 < 256) where
  -- the shared rules: byte 1's highest bit is set, and TotalAHSLength is 0
  top : (op : ℕ) → eqb op 0x01 ≡ false → eqb op 0x03 ≡ false → eqb op 0x05 ≡ false → shared_ok op s ≡ true → byte s 1 / 128 ≡ 1
  unfolding shared_ok
  top op a b c e =
      let t = (and-eq-true_iff (bit (byte s 1) 128) _).0 (simp (a, b, c, or-false) at e) in
      omega (arith, h 1, eqb-true (byte s 1 / 128 % 2) 1 t.0)

  no-ahs : (op : ℕ) → eqb op 0x01 ≡ false → shared_ok op s ≡ true → byte s 4 ≡ 0
  unfolding shared_ok
  no-ahs op a e =
      let t = (and-eq-true_iff (((bit (byte s 1) 128 || eqb op 0x01) || eqb op 0x03) || eqb op 0x05) (eqb (byte s 4) 0 || eqb op 0x01)).0 e in
      eqb-true (byte s 4) 0 (rw (a, or-false) at t.1)

  nop-out-read : Read s 0x00
  unfolding pdu_of request_of
  nop-out-read o e = rw (be-one s 0, be-one s 1, be-one s 4, o, top 0x00 refl refl refl e, no-ahs 0x00 refl e, and-true, bit-back)

  scsi-command-read : Read s 0x01
  unfolding pdu_of request_of
  scsi-command-read o e =
      let x = byte s 1 in
      let f : x / 8 / 4 / 2 / 2 ≡ x / 128 % 2 = omega (arith, h 1) in
      let r : x / 8 / 4 / 2 % 2 ≡ x / 64 % 2 = omega arith in
      let w : x / 8 / 4 % 2 ≡ x / 32 % 2 = omega arith in
      rw (be-one s 0, be-one s 1, be-one s 4, o, f, r, w, and-true, bit-back (byte s 0 / 64), bit-back (x / 32), bit-back (x / 64), bit-back (x / 128))

  task-management-read : Read s 0x02
  unfolding pdu_of request_of
  task-management-read o e = rw (be-one s 0, be-one s 1, be-one s 4, o, top 0x02 refl refl refl e, no-ahs 0x02 refl e, and-true, bit-back)

  login-read : Read s 0x03
  unfolding pdu_of request_of
  login-read o e =
      let x = byte s 1 in
      let t : x / 4 / 4 / 4 / 2 ≡ x / 128 % 2 = omega (arith, h 1) in
      let c : x / 4 / 4 / 4 % 2 ≡ x / 64 % 2 = omega arith in
      rw (
        be-one s 0,
        be-one s 1,
        be-one s 2,
        be-one s 3,
        be-one s 4,
        o,
        t,
        c,
        no-ahs 0x03 refl e,
        and-true,
        bit-back (byte s 0 / 64),
        bit-back (x / 64),
        bit-back (x / 128),
      )

  data-out-read : Read s 0x05
  unfolding pdu_of request_of
  data-out-read o e =
      let f : byte s 1 / 128 ≡ byte s 1 / 128 % 2 = omega (arith, h 1) in
      rw (be-one s 0, be-one s 1, be-one s 4, o, no-ahs 0x05 refl e, bit-back (byte s 1 / 128), ← f)

  logout-read : Read s 0x06
  unfolding pdu_of request_of
  logout-read o e = rw (be-one s 0, be-one s 1, be-one s 4, o, top 0x06 refl refl refl e, no-ahs 0x06 refl e, and-true, bit-back)

  snack-read : Read s 0x10
  unfolding pdu_of request_of
  snack-read o e =
      let t : byte s 1 / 16 / 8 ≡ 1 = omega (arith, top 0x10 refl refl refl e) in
      rw (be-one s 0, be-one s 1, be-one s 4, o, t, no-ahs 0x10 refl e)

-- what a read request shows is what its table reads
pub request-read : (m : Limits) (s : List ℕ) (p : Pdu) → read_pdu m s ≡ got p → ((i : ℕ) → get_or s i 0 < 256) → named (table_of (request_kind p.request)) (read_by (table_of (request_kind p.request)) s) ≡ request_fields p
request-read m s p e h =
    let g = got-all m s p e in
    rw g.fields
    (known_elim (Read s) (opcode_of s) g.opcode
    (nop-out-read s h) (scsi-command-read s h) (task-management-read s h) (login-read s h) (data-out-read s h) (logout-read s h) (snack-read s h)
    refl g.shared)
