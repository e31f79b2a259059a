-- The widths of what is read, and the opcode of what is written, by the tables.
use mathlib.Core.Path.{◌≡◌, refl}
use mathlib.Core.Bool.{Bool, true, false, ◌||◌}
use mathlib.Core.List.{List}
use Prim.Native.Nat.{ℕ, ◌^◌, ◌<◌}
use native.Mathlib.Omega.{arith}
use lib.Dec.{eqb, lit<}
use lib.ListN.{get_or}
use Rattle.field.specs.Field.{bytes_of, pick}
use Rattle.field.proofs.Laws.{be-lt}
use Rattle.request_header.specs.Request.{read_pdu, got, opcode_of, pdu_of, request_of}
use Rattle.request_header.specs.declared.Pdu.{Pdu}
use Rattle.request_header.specs.declared.Limits.{Limits}
use Rattle.request_header.proofs.Reading.{got-all}
use Rattle.response_header.specs.Response.{kind_fields, header_bytes}
use Rattle.response_header.specs.declared.Numbers.{Numbers}
use Rattle.response_header.specs.declared.Response.{Response}
use Rattle.response_header.specs.declared.Response.TheVariants as R
use Rattle.header_tables.specs.Layout.{PduFits, RequestFits, opcode, response_kind}

-- what holds of both holds of the one that is picked
either : {A : Type 0} (P : A → Type 0) (b : Bool) {x y : A} → P x → P y → P (pick b x y)
either P true u v = u
either P false u v = v

-- its fields fit their widths
pub got-fits : (m : Limits) (s : List ℕ) (p : Pdu) → read_pdu m s ≡ got p → ((i : ℕ) → get_or s i 0 < 256) → PduFits p
unfolding pdu_of request_of
got-fits m s p e h =
    let op = opcode_of s in
    let below : ℕ → ℕ → Type 0 = λ k n. n < 2 ^ k in
    rw (got-all m s p e).fields (record {
      lun = either (below 64) (eqb op 3 || eqb op 6) (lit< tt) (be-lt s 8 8 h);
      initiator_task_tag = be-lt s 16 4 h;
      cmd_sn = either (below 32) (eqb op 5 || eqb op 16) (lit< tt) (be-lt s 24 4 h);
      exp_stat_sn = be-lt s 28 4 h;
      data_segment_length = be-lt s 5 3 h;
      request =
          either RequestFits (eqb op 0) (be-lt s 20 4 h)
          (either RequestFits (eqb op 1) (omega arith, h 4, be-lt s 20 4 h, be-lt s 32 8 h, be-lt s 40 8 h)
          (either RequestFits (eqb op 2) (omega arith, be-lt s 20 4 h, be-lt s 32 4 h, be-lt s 36 4 h)
          (either RequestFits (eqb op 3) (omega arith, omega arith, h 2, h 3, be-lt s 8 6 h, be-lt s 14 2 h, be-lt s 20 2 h)
          (either RequestFits (eqb op 5) (be-lt s 20 4 h, be-lt s 36 4 h, be-lt s 40 4 h)
          (either RequestFits (eqb op 6) (omega arith, be-lt s 20 2 h)
          (omega arith, be-lt s 20 4 h, be-lt s 40 4 h, be-lt s 44 4 h))))));
    })

-- its first byte is its kind's opcode
pub header-opcode : (r : Response) (n : Numbers) → get_or (header_bytes r n) 0 0 ≡ opcode (response_kind r)
unfolding header_bytes kind_fields bytes_of
header-opcode (R.NopIn r) n = refl
header-opcode (R.ScsiResponse r) n = refl
header-opcode (R.TaskManagementResponse r) n = refl
header-opcode (R.LoginResponse r) n = refl
header-opcode (R.DataIn r) n = refl
header-opcode (R.LogoutResponse r) n = refl
header-opcode (R.R2t r) n = refl
header-opcode (R.Reject r) n = refl
