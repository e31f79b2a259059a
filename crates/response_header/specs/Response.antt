-- Writing: where each response has its fields, and when a response is refused. What becomes of the lent bytes is in response_writer/specs/Writing.
-- The offsets are those of RFC 7143, sections 11.4, 11.6, 11.7, 11.8, 11.13, 11.15, 11.17 and 11.19.
use Rattle.std.specs.Prelude.{ℕ, ◌+◌, ◌*◌, Bool, true, not, ◌&&◌, ◌||◌, List, [], ◌∷◌, replicate, eqb, ltb, Result, ⊤}
use Rattle.std.proofs.lemmas.List.Edits.{sets}
use Rattle.field.specs.Field.{bytes_of, pick}
use Rattle.refusal.specs.Refusal.{answer_number}
use Rattle.refusal.specs.declared.Refusal.{Refusal}
use Rattle.response_header.specs.declared.NopIn.{NopIn}
use Rattle.response_header.specs.declared.ScsiResponse.{ScsiResponse}
use Rattle.response_header.specs.declared.TaskManagementResponse.{TaskManagementResponse}
use Rattle.response_header.specs.declared.LoginResponse.{LoginResponse}
use Rattle.response_header.specs.declared.DataIn.{DataIn}
use Rattle.response_header.specs.declared.LogoutResponse.{LogoutResponse}
use Rattle.response_header.specs.declared.R2t.{R2t}
use Rattle.response_header.specs.declared.Reject.{Reject}
use Rattle.response_header.specs.declared.Numbers.{Numbers}
use Rattle.response_header.specs.declared.Response.{Response}
use Rattle.response_header.specs.declared.Response.TheVariants as R

-- the longest data segment that a response may state
abbrev pub max_data_length : ℕ
max_data_length = 8192

-- ---- the fields of each kind

-- a value in the `size` bytes from `at` on
pub record Field : Type 0 where
  pub at : ℕ
  pub size : ℕ
  pub value : ℕ

abbrev pub field : ℕ → ℕ → ℕ → Field
field a n v = record { at = a; size = n; value = v }

-- the list with each field stored at its place
abbrev pub place : List Field → List ℕ → List ℕ
place [] l = l
place (f ∷ fs) l = place fs (sets l f.at (bytes_of f.size f.value))

-- k where the bit is set
abbrev pub weigh : Bool → ℕ → ℕ
weigh b k = pick b k 0

-- "All carry StatSN, ExpCmdSN, MaxCmdSN."
abbrev pub numbers_fields : Numbers → List Field
numbers_fields n = field 24 4 n.stat_sn ∷ field 28 4 n.exp_cmd_sn ∷ field 32 4 n.max_cmd_sn ∷ []

-- 0x20 NOP-In: data length, LUN, ITT, TTT
abbrev pub nop_in_fields : NopIn → List Field
nop_in_fields r =
    field 0 1 0x20
    ∷ field 1 1 0x80
    ∷ field 5 3 r.data_segment_length
    ∷ field 8 8 r.lun
    ∷ field 16 4 r.initiator_task_tag
    ∷ field 20 4 r.target_transfer_tag
    ∷ []

-- 0x21 SCSI Response: O or U (bits 0x04 and 0x02); response, status, data length, ITT, SNACK tag, ExpDataSN, residual
abbrev pub scsi_response_fields : ScsiResponse → List Field
scsi_response_fields r =
    field 0 1 0x21
    ∷ field 1 1 (0x80 + weigh r.overflow 0x04 + weigh r.underflow 0x02)
    ∷ field 2 1 r.response
    ∷ field 3 1 r.status
    ∷ field 5 3 r.data_segment_length
    ∷ field 16 4 r.initiator_task_tag
    ∷ field 20 4 r.snack_tag
    ∷ field 36 4 r.exp_data_sn
    ∷ field 44 4 r.residual_count
    ∷ []

-- 0x22 Task Management Response: response, ITT
abbrev pub task_management_response_fields : TaskManagementResponse → List Field
task_management_response_fields r =
    field 0 1 0x22
    ∷ field 1 1 0x80
    ∷ field 2 1 r.response
    ∷ field 16 4 r.initiator_task_tag
    ∷ []

-- 0x23 Login Response: CSG; T, and NSG where T is set; data length, ISID, TSIH, ITT, status class, detail
abbrev pub login_response_fields : LoginResponse → List Field
login_response_fields r =
    field 0 1 0x23
    ∷ field 1 1 (weigh r.transit 0x80 + r.csg * 4 + r.nsg)
    ∷ field 5 3 r.data_segment_length
    ∷ field 8 6 r.isid
    ∷ field 14 2 r.tsih
    ∷ field 16 4 r.initiator_task_tag
    ∷ field 36 1 r.status_class
    ∷ field 37 1 r.status_detail
    ∷ []

-- 0x25 Data-In: F and A (bits 0x80 and 0x40); data length, LUN, ITT, TTT, DataSN, Buffer Offset. "StatSN is 0", whatever number is given
abbrev pub data_in_fields : DataIn → List Field
data_in_fields r =
    field 0 1 0x25
    ∷ field 1 1 (weigh r.is_final 0x80 + weigh r.acknowledge 0x40)
    ∷ field 5 3 r.data_segment_length
    ∷ field 8 8 r.lun
    ∷ field 16 4 r.initiator_task_tag
    ∷ field 20 4 r.target_transfer_tag
    ∷ field 24 4 0
    ∷ field 36 4 r.data_sn
    ∷ field 40 4 r.buffer_offset
    ∷ []

-- 0x26 Logout Response: response, ITT, Time2Wait, Time2Retain
abbrev pub logout_response_fields : LogoutResponse → List Field
logout_response_fields r =
    field 0 1 0x26
    ∷ field 1 1 0x80
    ∷ field 2 1 r.response
    ∷ field 16 4 r.initiator_task_tag
    ∷ field 40 2 r.time2wait
    ∷ field 42 2 r.time2retain
    ∷ []

-- 0x31 R2T: LUN, ITT, TTT, R2TSN, Buffer Offset, Desired Data Transfer Length
abbrev pub r2t_fields : R2t → List Field
r2t_fields r =
    field 0 1 0x31
    ∷ field 1 1 0x80
    ∷ field 8 8 r.lun
    ∷ field 16 4 r.initiator_task_tag
    ∷ field 20 4 r.target_transfer_tag
    ∷ field 36 4 r.r2t_sn
    ∷ field 40 4 r.buffer_offset
    ∷ field 44 4 r.desired_data_transfer_length
    ∷ []

-- 0x3f Reject: reason, data length 48, bytes 16 to 19 0xff
abbrev pub reject_fields : Reject → List Field
reject_fields r =
    field 0 1 0x3f
    ∷ field 1 1 0x80
    ∷ field 2 1 r.reason
    ∷ field 5 3 48
    ∷ field 16 4 0xffffffff
    ∷ []

unfoldable pub kind_fields : Response → List Field
kind_fields (R.NopIn r) = nop_in_fields r
kind_fields (R.ScsiResponse r) = scsi_response_fields r
kind_fields (R.TaskManagementResponse r) = task_management_response_fields r
kind_fields (R.LoginResponse r) = login_response_fields r
kind_fields (R.DataIn r) = data_in_fields r
kind_fields (R.LogoutResponse r) = logout_response_fields r
kind_fields (R.R2t r) = r2t_fields r
kind_fields (R.Reject r) = reject_fields r

-- the 48 bytes; "what isn't named is 0"
unfoldable pub header_bytes : Response → Numbers → List ℕ
header_bytes r n = place (kind_fields r) (place (numbers_fields n) (replicate 48 0))

-- ---- the refusals

-- the data length that a response states
abbrev pub data_length_in : Response → ℕ
data_length_in (R.NopIn r) = r.data_segment_length
data_length_in (R.ScsiResponse r) = r.data_segment_length
data_length_in (R.TaskManagementResponse r) = 0
data_length_in (R.LoginResponse r) = r.data_segment_length
data_length_in (R.DataIn r) = r.data_segment_length
data_length_in (R.LogoutResponse r) = 0
data_length_in (R.R2t r) = 0
data_length_in (R.Reject r) = 48

-- O and U not both; no value too wide for its place; no NSG other than 0 with T clear
abbrev pub fields_fit : Response → Bool
fields_fit (R.NopIn r) = true
fields_fit (R.ScsiResponse r) = not (r.overflow && r.underflow)
fields_fit (R.TaskManagementResponse r) = true
fields_fit (R.LoginResponse r) =
    ((ltb r.csg 4 && ltb r.nsg 4) && ltb r.isid 0x1_0000_0000_0000) && (r.transit || eqb r.nsg 0)
fields_fit (R.DataIn r) = true
fields_fit (R.LogoutResponse r) = true
fields_fit (R.R2t r) = true
fields_fit (R.Reject r) = true

-- "A data length above 8,192 is TOOLONG": above the limit, and whatever the limit, of 2^24 or more, for which its three bytes have no room
abbrev pub is_too_long : ℕ → ℕ → Bool
is_too_long max n = ltb 0xffffff n || ltb max n

-- a response by itself: "5, then 3"; 0 where it can be written
unfoldable pub refusal_in : ℕ → Response → ℕ
refusal_in max r = pick (is_too_long max (data_length_in r)) 5 (pick (fields_fit r) 0 3)

-- what a judgement says: 0, or the refusal's number
abbrev pub judgement_number : Result ⊤ Refusal → ℕ
judgement_number r = answer_number r
