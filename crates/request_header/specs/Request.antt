-- Reading: where each request has its fields, the field rules, and the refusals in their order.
-- The offsets are those of RFC 7143, sections 11.3, 11.5, 11.7, 11.12, 11.14, 11.16 and 11.18.
use Rattle.std.specs.Prelude.{ℕ, ◌+◌, ◌*◌, ◌/◌, ◌%◌, Bool, true, not, ◌&&◌, ◌||◌, List, length, take, drop, eqb, leb, ltb, Result, Ok, Err}
use Rattle.field.specs.Field.{be_at, byte, bit, pick, none}
use Rattle.refusal.specs.Refusal.{number}
use Rattle.refusal.specs.declared.Refusal.{Refusal}
use Rattle.request_header.specs.declared.NopOut.{NopOut}
use Rattle.request_header.specs.declared.ScsiCommand.{ScsiCommand}
use Rattle.request_header.specs.declared.TaskManagement.{TaskManagement}
use Rattle.request_header.specs.declared.Login.{Login}
use Rattle.request_header.specs.declared.DataOut.{DataOut}
use Rattle.request_header.specs.declared.Logout.{Logout}
use Rattle.request_header.specs.declared.Snack.{Snack}
use Rattle.request_header.specs.declared.Request.{Request}
use Rattle.request_header.specs.declared.Request.TheVariants as R
use Rattle.request_header.specs.declared.Pdu.{Pdu}
use Rattle.request_header.specs.declared.Limits.{Limits}

-- the limits in force: 8,192 bytes of data, and functions 1 to 8
abbrev pub limits : Limits
limits = record { data_segment = 8192; task_function = 8 }

-- ---- the fields of each kind

-- 0x00 NOP-Out: Target Transfer Tag
abbrev pub nop_out_of : List ℕ → NopOut
nop_out_of s = record { target_transfer_tag = be_at s 20 4 }

-- 0x01 SCSI Command: F, R, W, attribute, TotalAHSLength, Expected Data Transfer Length, and the CDB as two 64-bit numbers
abbrev pub scsi_command_of : List ℕ → ScsiCommand
scsi_command_of s = record {
  is_final = bit (byte s 1) 128;
  is_read = bit (byte s 1) 64;
  is_write = bit (byte s 1) 32;
  attribute = byte s 1 % 8;
  total_ahs_length = byte s 4;
  expected_data_transfer_length = be_at s 20 4;
  cdb_0 = be_at s 32 8;
  cdb_1 = be_at s 40 8;
}

-- 0x02 Task Management: function in the low seven bits, Referenced Task Tag, RefCmdSN, ExpDataSN
abbrev pub task_management_of : List ℕ → TaskManagement
task_management_of s = record {
  function = byte s 1 % 128;
  referenced_task_tag = be_at s 20 4;
  ref_cmd_sn = be_at s 32 4;
  exp_data_sn = be_at s 36 4;
}

-- 0x03 Login: T, C, CSG, NSG, both versions, ISID, TSIH, CID
abbrev pub login_of : List ℕ → Login
login_of s = record {
  transit = bit (byte s 1) 128;
  continues = bit (byte s 1) 64;
  csg = byte s 1 / 4 % 4;
  nsg = byte s 1 % 4;
  version_max = byte s 2;
  version_min = byte s 3;
  isid = be_at s 8 6;
  tsih = be_at s 14 2;
  cid = be_at s 20 2;
}

-- 0x05 Data-Out: F, Target Transfer Tag, DataSN, Buffer Offset
abbrev pub data_out_of : List ℕ → DataOut
data_out_of s = record {
  is_final = bit (byte s 1) 128;
  target_transfer_tag = be_at s 20 4;
  data_sn = be_at s 36 4;
  buffer_offset = be_at s 40 4;
}

-- 0x06 Logout: reason in the low seven bits, CID
abbrev pub logout_of : List ℕ → Logout
logout_of s = record { reason = byte s 1 % 128; cid = be_at s 20 2 }

-- 0x10 SNACK: type in the low four bits, Target Transfer Tag or SNACK Tag, BegRun, RunLength
abbrev pub snack_of : List ℕ → Snack
snack_of s = record {
  snack_type = byte s 1 % 16;
  target_transfer_tag = be_at s 20 4;
  beg_run = be_at s 40 4;
  run_length = be_at s 44 4;
}

-- the seven kinds that are read, by opcode
unfoldable pub request_of : ℕ → List ℕ → Request
request_of op s =
    pick (eqb op 0x00) (R.NopOut (nop_out_of s))
    (pick (eqb op 0x01) (R.ScsiCommand (scsi_command_of s))
    (pick (eqb op 0x02) (R.TaskManagement (task_management_of s))
    (pick (eqb op 0x03) (R.Login (login_of s))
    (pick (eqb op 0x05) (R.DataOut (data_out_of s))
    (pick (eqb op 0x06) (R.Logout (logout_of s))
    (R.Snack (snack_of s)))))))

-- the low six bits of byte 0
abbrev pub opcode_of : List ℕ → ℕ
opcode_of s = byte s 0 % 64

-- an opcode that names a request read here
unfoldable pub known : ℕ → Bool
known op = ((leb op 3 || eqb op 0x05) || eqb op 0x06) || eqb op 0x10

-- DataSegmentLength (bytes 5 to 7)
abbrev pub data_length_of : List ℕ → ℕ
data_length_of s = be_at s 5 3

-- the data segment comes after the header and four times TotalAHSLength (byte 4)
abbrev pub data_start_of : List ℕ → ℕ
data_start_of s = 48 + byte s 4 * 4

-- the whole length: 48, plus four times TotalAHSLength, plus DataSegmentLength raised to a multiple of four
unfoldable pub stated_length : List ℕ → ℕ
stated_length s = data_start_of s + (data_length_of s + 3) / 4 * 4

-- the common fields together with one of seven request kinds; "an absent common field is shown as 0":
-- Data-Out and SNACK have no I and no CmdSN, Login and Logout have no LUN
unfoldable pub pdu_of : ℕ → List ℕ → Pdu
pdu_of op s = record {
  immediate = bit (byte s 0) 64 && not (eqb op 0x05 || eqb op 0x10);
  lun = pick (eqb op 0x03 || eqb op 0x06) 0 (be_at s 8 8);
  initiator_task_tag = be_at s 16 4;
  cmd_sn = pick (eqb op 0x05 || eqb op 0x10) 0 (be_at s 24 4);
  exp_stat_sn = be_at s 28 4;
  request = request_of op s;
  data_start = data_start_of s;
  data_segment_length = data_length_of s;
}

-- ---- the field rules

-- "Byte 1's highest bit must be set but in SCSI Command and Login", and in Data-Out, where it is F. "Only in SCSI Command may TotalAHSLength differ from 0."
unfoldable pub shared_ok : ℕ → List ℕ → Bool
shared_ok op s = (((bit (byte s 1) 128 || eqb op 0x01) || eqb op 0x03) || eqb op 0x05) && (eqb (byte s 4) 0 || eqb op 0x01)

-- what a SNACK's type asks of its two tags. The type is 0 to 3. "Types 1 and 2 need ITT 0xffffffff.
-- Types 0 and 1 need TTT 0xffffffff; type 3 needs neither 0 nor 0xffffffff."
abbrev pub snack_ok : ℕ → ℕ → ℕ → Bool
snack_ok type itt ttt =
    ((leb type 3
    && ((not (eqb type 1) && not (eqb type 2)) || eqb itt none))
    && ((not (eqb type 0) && not (eqb type 1)) || eqb ttt none))
    && (not (eqb type 3) || (not (eqb ttt 0) && not (eqb ttt none)))

-- the rules of each kind, over the common fields and its own
unfoldable pub rule_ok : Limits → Pdu → Request → Bool
-- "ITT 0xffffffff needs I set"
rule_ok m p (R.NopOut x) = not (eqb p.initiator_task_tag none) || p.immediate
-- "attribute at most 4; F and W not both clear"
rule_ok m p (R.ScsiCommand x) = leb x.attribute 4 && (x.is_final || x.is_write)
-- "function .. 1 to 8; no data"
rule_ok m p (R.TaskManagement x) = (leb 1 x.function && leb x.function m.task_function) && eqb p.data_segment_length 0
-- "I set"
rule_ok m p (R.Login x) = p.immediate
-- of Data-Out no more is asked: F may be clear, and data may come
rule_ok m p (R.DataOut x) = true
-- "reason 0 to 2 ..; no data"
rule_ok m p (R.Logout x) = leb x.reason 2 && eqb p.data_segment_length 0
rule_ok m p (R.Snack x) = snack_ok x.snack_type p.initiator_task_tag x.target_transfer_tag

-- ---- the answer

pub data Answer : Type 0 where
  got : Pdu → Answer
  refused : ℕ → Answer

-- what the reader's answer says: the PDU, or the refusal's number
abbrev pub answer_of : Result Pdu Refusal → Answer
answer_of (Ok p) = got p
answer_of (Err f) = refused (number f)

-- FIELD where a field rule is broken, else the PDU
unfoldable pub judged : Limits → ℕ → List ℕ → Pdu → Answer
judged m op s p = pick (shared_ok op s && rule_ok m p p.request) (got p) (refused 3)

-- "input under 48 bytes is 4; then 2, 5, 4, 3"
unfoldable pub read_pdu : Limits → List ℕ → Answer
read_pdu m s =
    pick (ltb (length s) 48) (refused 4)
    (pick (not (known (opcode_of s))) (refused 2)
    (pick (ltb m.data_segment (data_length_of s)) (refused 5)
    (pick (not (eqb (length s) (stated_length s))) (refused 4)
    (judged m (opcode_of s) s (pdu_of (opcode_of s) s)))))

-- ---- the whole length, from the first 48 bytes

-- how long the PDU is, or the number of a refusal
pub data LengthAnswer : Type 0 where
  whole : ℕ → LengthAnswer
  unframed : ℕ → LengthAnswer

abbrev pub length_answer_of : Result ℕ Refusal → LengthAnswer
length_answer_of (Ok n) = whole n
length_answer_of (Err f) = unframed (number f)

-- the refusals that reading would give before it looks at the length of the input: "input under 48 bytes is 4; then 2, 5"; else the whole
-- length that the header states. Bytes after the 48 and the field rules play no part
unfoldable pub length_asked : Limits → List ℕ → LengthAnswer
length_asked m s =
    pick (ltb (length s) 48) (unframed 4)
    (pick (not (known (opcode_of s))) (unframed 2)
    (pick (ltb m.data_segment (data_length_of s)) (unframed 5)
    (whole (stated_length s))))

-- the data segment of a PDU, a part of the input it was read from, without pad; of another input, what lies in that place
unfoldable pub data_of : List ℕ → Pdu → List ℕ
data_of s p = take p.data_segment_length (drop p.data_start s)
