-- Reading as the code does it: in numbers, 0 for no refusal, and by the rules of one kind. This file follows the code, and who reviews the rules
-- doesn't need it: these are in Request, and proofs/FieldRules ties what stands here to them.
use Rattle.std.specs.Prelude.{ℕ, Bool, not, ◌&&◌, List, length, take, eqb, ltb, ◌≡◌}
use Rattle.field.specs.Field.{pick}
use Rattle.request_header.specs.declared.Limits.{Limits}
use Rattle.request_header.specs.Kind.{if_snack}
use Rattle.request_header.specs.Request.{known, opcode_of, data_length_of, stated_length, shared_ok, rule_ok, pdu_of, request_of, Answer, got}
use Rattle.request_header.specs.Request.{refused, read_pdu}

-- the field rules, of an opcode and a header
unfoldable pub fields_ok : Limits → ℕ → List ℕ → Bool
fields_ok m op s = shared_ok op s && rule_ok m (pdu_of op s) (request_of op s)

-- the number of the refusal before FIELD: LENGTH under 48 bytes, OPCODE, TOOLONG, LENGTH; 0 for none
unfoldable pub refusal_before_field : Limits → List ℕ → ℕ
refusal_before_field m s =
    pick (ltb (length s) 48) 4
    (pick (not (known (opcode_of s))) 2
    (pick (ltb m.data_segment (data_length_of s)) 5
    (pick (not (eqb (length s) (stated_length s))) 4
    0)))

-- the header of an input that is refused for nothing before FIELD: its first 48 bytes
pub record IsHeader (m : Limits) (s h : List ℕ) : Type 0 where
  pub passed : refusal_before_field m s ≡ 0
  pub first : h ≡ take 48 s

-- the number of the first refusal of all, FIELD last; 0 for none
unfoldable pub first_refusal : Limits → List ℕ → ℕ
first_refusal m s = pick (eqb (refusal_before_field m s) 0) (pick (fields_ok m (opcode_of s) s) 0 3) (refusal_before_field m s)

-- the header of a good PDU: its first 48 bytes
pub record IsGoodHeader (m : Limits) (s h : List ℕ) : Type 0 where
  pub good : first_refusal m s ≡ 0
  pub first : h ≡ take 48 s

-- reading's answer to one who reads SNACKs only: FIELD for another kind
abbrev pub snack_only : Answer → Answer
snack_only (refused n) = refused n
snack_only (got p) = if_snack (λ q. got p) (refused 3) p.request

-- the header of a good SNACK: its first 48 bytes
pub record IsSnackHeader (m : Limits) (s h : List ℕ) : Type 0 where
  pub good : read_pdu m s ≡ got (pdu_of 0x10 s)
  pub first : h ≡ take 48 s
