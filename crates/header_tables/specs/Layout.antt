-- The tables of the fifteen kinds, as RFC 7143 draws them, and which field of a PDU or a response each named value is.
-- Unnamed are the reserved bits, and what the RFC draws but the headers written don't name: o, u and Bidirectional Read Residual
-- Count of a SCSI Response, C and both versions of a Login Response, O, U, S, status and residual count of a Data-In, DataSN/R2TSN of a
-- Reject.
use Rattle.std.specs.Prelude.{ℕ, ◌^◌, ◌<◌, Bool, List, [], ◌∷◌}
use Rattle.field.specs.Field.{pick}
use Rattle.header_tables.specs.Table.{field, unnamed, Row, row, whole, blank}
use Rattle.request_header.specs.declared.Pdu.{Pdu}
use Rattle.request_header.specs.declared.Request.{Request}
use Rattle.request_header.specs.declared.Request.TheVariants as Q
use Rattle.response_header.specs.declared.Numbers.{Numbers}
use Rattle.response_header.specs.declared.Response.{Response}
use Rattle.response_header.specs.declared.Response.TheVariants as R

pub data Kind : Type 0 where
  nop_out scsi_command task_management login data_out logout snack : Kind
  nop_in scsi_response task_management_response login_response data_in logout_response r2t reject : Kind

abbrev pub opcode : Kind → ℕ
opcode nop_out = 0x00
opcode scsi_command = 0x01
opcode task_management = 0x02
opcode login = 0x03
opcode data_out = 0x05
opcode logout = 0x06
opcode snack = 0x10
opcode nop_in = 0x20
opcode scsi_response = 0x21
opcode task_management_response = 0x22
opcode login_response = 0x23
opcode data_in = 0x25
opcode logout_response = 0x26
opcode r2t = 0x31
opcode reject = 0x3f

-- opcode, I, unnamed
abbrev request : Row
request = row 0 1 (field 6 ∷ field 1 ∷ unnamed 1 ∷ [])

-- opcode, unnamed
abbrev bare : Row
bare = row 0 1 (field 6 ∷ unnamed 2 ∷ [])

-- byte 1: only its highest bit has a name
abbrev plain : Row
plain = row 1 1 (unnamed 7 ∷ field 1 ∷ [])

-- TotalAHSLength, DataSegmentLength
abbrev lengths : List Row → List Row
lengths rs = whole 4 1 ∷ whole 5 3 ∷ rs

-- StatSN, ExpCmdSN, MaxCmdSN
abbrev numbers : List Row → List Row
numbers rs = whole 24 4 ∷ whole 28 4 ∷ whole 32 4 ∷ rs

abbrev pub table_of : Kind → List Row
-- LUN, ITT, TTT, CmdSN, ExpStatSN
table_of nop_out =
    request ∷ plain ∷ blank 2 2 ∷ lengths
    (whole 8 8 ∷ whole 16 4 ∷ whole 20 4 ∷ whole 24 4 ∷ whole 28 4 ∷ blank 32 16 ∷ [])
-- attribute, unnamed, W, R, F; LUN, ITT, Expected Data Transfer Length, CmdSN, ExpStatSN, the CDB in two halves
table_of scsi_command =
    request ∷ row 1 1 (field 3 ∷ unnamed 2 ∷ field 1 ∷ field 1 ∷ field 1 ∷ []) ∷ blank 2 2 ∷ lengths
    (whole 8 8 ∷ whole 16 4 ∷ whole 20 4 ∷ whole 24 4 ∷ whole 28 4 ∷ whole 32 8 ∷ whole 40 8 ∷ [])
-- function, 1; LUN, ITT, Referenced Task Tag, CmdSN, ExpStatSN, RefCmdSN, ExpDataSN
table_of task_management =
    request ∷ row 1 1 (field 7 ∷ field 1 ∷ []) ∷ blank 2 2 ∷ lengths
    (whole 8 8 ∷ whole 16 4 ∷ whole 20 4 ∷ whole 24 4 ∷ whole 28 4 ∷ whole 32 4 ∷ whole 36 4 ∷ blank 40 8 ∷ [])
-- NSG, CSG, unnamed, C, T; Version-max, Version-min; ISID, TSIH, ITT, CID, CmdSN, ExpStatSN
table_of login =
    request ∷ row 1 1 (field 2 ∷ field 2 ∷ unnamed 2 ∷ field 1 ∷ field 1 ∷ []) ∷ whole 2 1 ∷ whole 3 1 ∷ lengths
    (whole 8 6 ∷ whole 14 2 ∷ whole 16 4 ∷ whole 20 2 ∷ blank 22 2 ∷ whole 24 4 ∷ whole 28 4 ∷ blank 32 16 ∷ [])
-- unnamed, F; LUN, ITT, TTT, ExpStatSN, DataSN, Buffer Offset
table_of data_out =
    bare ∷ plain ∷ blank 2 2 ∷ lengths
    (whole 8 8 ∷ whole 16 4 ∷ whole 20 4 ∷ blank 24 4 ∷ whole 28 4 ∷ blank 32 4 ∷ whole 36 4 ∷ whole 40 4 ∷ blank 44 4 ∷ [])
-- reason, 1; ITT, CID, CmdSN, ExpStatSN
table_of logout =
    request ∷ row 1 1 (field 7 ∷ field 1 ∷ []) ∷ blank 2 2 ∷ lengths
    (blank 8 8 ∷ whole 16 4 ∷ whole 20 2 ∷ blank 22 2 ∷ whole 24 4 ∷ whole 28 4 ∷ blank 32 16 ∷ [])
-- type, unnamed, 1; LUN, ITT, TTT or SNACK Tag, ExpStatSN, BegRun, RunLength
table_of snack =
    bare ∷ row 1 1 (field 4 ∷ unnamed 3 ∷ field 1 ∷ []) ∷ blank 2 2 ∷ lengths
    (whole 8 8 ∷ whole 16 4 ∷ whole 20 4 ∷ blank 24 4 ∷ whole 28 4 ∷ blank 32 8 ∷ whole 40 4 ∷ whole 44 4 ∷ [])
-- LUN, ITT, TTT
table_of nop_in =
    bare ∷ plain ∷ blank 2 2 ∷ lengths
    (whole 8 8 ∷ whole 16 4 ∷ whole 20 4 ∷ numbers (blank 36 12 ∷ []))
-- unnamed, U, O, unnamed, 1; response, status; ITT, SNACK Tag; ExpDataSN, residual count
table_of scsi_response =
    bare ∷ row 1 1 (unnamed 1 ∷ field 1 ∷ field 1 ∷ unnamed 4 ∷ field 1 ∷ []) ∷ whole 2 1 ∷ whole 3 1 ∷ lengths
    (blank 8 8 ∷ whole 16 4 ∷ whole 20 4 ∷ numbers (whole 36 4 ∷ blank 40 4 ∷ whole 44 4 ∷ []))
-- response; ITT
table_of task_management_response =
    bare ∷ plain ∷ whole 2 1 ∷ blank 3 1 ∷ lengths
    (blank 8 8 ∷ whole 16 4 ∷ blank 20 4 ∷ numbers (blank 36 12 ∷ []))
-- NSG, CSG, unnamed, T; ISID, TSIH, ITT; status class, detail
table_of login_response =
    bare ∷ row 1 1 (field 2 ∷ field 2 ∷ unnamed 3 ∷ field 1 ∷ []) ∷ blank 2 2 ∷ lengths
    (whole 8 6 ∷ whole 14 2 ∷ whole 16 4 ∷ blank 20 4 ∷ numbers (whole 36 1 ∷ whole 37 1 ∷ blank 38 10 ∷ []))
-- unnamed, A, F; LUN, ITT, TTT; DataSN, Buffer Offset
table_of data_in =
    bare ∷ row 1 1 (unnamed 6 ∷ field 1 ∷ field 1 ∷ []) ∷ blank 2 2 ∷ lengths
    (whole 8 8 ∷ whole 16 4 ∷ whole 20 4 ∷ numbers (whole 36 4 ∷ whole 40 4 ∷ blank 44 4 ∷ []))
-- response; ITT; Time2Wait, Time2Retain
table_of logout_response =
    bare ∷ plain ∷ whole 2 1 ∷ blank 3 1 ∷ lengths
    (blank 8 8 ∷ whole 16 4 ∷ blank 20 4 ∷ numbers (blank 36 4 ∷ whole 40 2 ∷ whole 42 2 ∷ blank 44 4 ∷ []))
-- LUN, ITT, TTT; R2TSN, Buffer Offset, Desired Data Transfer Length
table_of r2t =
    bare ∷ plain ∷ blank 2 2 ∷ lengths
    (whole 8 8 ∷ whole 16 4 ∷ whole 20 4 ∷ numbers (whole 36 4 ∷ whole 40 4 ∷ whole 44 4 ∷ []))
-- reason; bytes 16 to 19
table_of reject =
    bare ∷ plain ∷ whole 2 1 ∷ blank 3 1 ∷ lengths
    (blank 8 8 ∷ whole 16 4 ∷ blank 20 4 ∷ numbers (blank 36 12 ∷ []))

-- ---- the named values, in table order

-- a bit is 1 where it is set
abbrev pub bit_of : Bool → ℕ
bit_of b = pick b 1 0

abbrev pub request_kind : Request → Kind
request_kind (Q.NopOut x) = nop_out
request_kind (Q.ScsiCommand x) = scsi_command
request_kind (Q.TaskManagement x) = task_management
request_kind (Q.Login x) = login
request_kind (Q.DataOut x) = data_out
request_kind (Q.Logout x) = logout
request_kind (Q.Snack x) = snack

-- byte 1's highest bit is 1 but in SCSI Command, Login and Data-Out, and TotalAHSLength is 0 but in SCSI Command
abbrev fields_for : Pdu → Request → List ℕ
fields_for p (Q.NopOut x) =
    opcode nop_out ∷ bit_of p.immediate ∷ 1 ∷ 0 ∷ p.data_segment_length
    ∷ p.lun ∷ p.initiator_task_tag ∷ x.target_transfer_tag ∷ p.cmd_sn ∷ p.exp_stat_sn ∷ []
fields_for p (Q.ScsiCommand x) =
    opcode scsi_command ∷ bit_of p.immediate ∷ x.attribute ∷ bit_of x.is_write ∷ bit_of x.is_read ∷ bit_of x.is_final
    ∷ x.total_ahs_length ∷ p.data_segment_length ∷ p.lun ∷ p.initiator_task_tag ∷ x.expected_data_transfer_length
    ∷ p.cmd_sn ∷ p.exp_stat_sn ∷ x.cdb_0 ∷ x.cdb_1 ∷ []
fields_for p (Q.TaskManagement x) =
    opcode task_management ∷ bit_of p.immediate ∷ x.function ∷ 1 ∷ 0 ∷ p.data_segment_length
    ∷ p.lun ∷ p.initiator_task_tag ∷ x.referenced_task_tag ∷ p.cmd_sn ∷ p.exp_stat_sn ∷ x.ref_cmd_sn ∷ x.exp_data_sn ∷ []
fields_for p (Q.Login x) =
    opcode login ∷ bit_of p.immediate ∷ x.nsg ∷ x.csg ∷ bit_of x.continues ∷ bit_of x.transit ∷ x.version_max ∷ x.version_min
    ∷ 0 ∷ p.data_segment_length ∷ x.isid ∷ x.tsih ∷ p.initiator_task_tag ∷ x.cid ∷ p.cmd_sn ∷ p.exp_stat_sn ∷ []
fields_for p (Q.DataOut x) =
    opcode data_out ∷ bit_of x.is_final ∷ 0 ∷ p.data_segment_length
    ∷ p.lun ∷ p.initiator_task_tag ∷ x.target_transfer_tag ∷ p.exp_stat_sn ∷ x.data_sn ∷ x.buffer_offset ∷ []
fields_for p (Q.Logout x) =
    opcode logout ∷ bit_of p.immediate ∷ x.reason ∷ 1 ∷ 0 ∷ p.data_segment_length
    ∷ p.initiator_task_tag ∷ x.cid ∷ p.cmd_sn ∷ p.exp_stat_sn ∷ []
fields_for p (Q.Snack x) =
    opcode snack ∷ x.snack_type ∷ 1 ∷ 0 ∷ p.data_segment_length
    ∷ p.lun ∷ p.initiator_task_tag ∷ x.target_transfer_tag ∷ p.exp_stat_sn ∷ x.beg_run ∷ x.run_length ∷ []

abbrev pub request_fields : Pdu → List ℕ
request_fields p = fields_for p p.request

abbrev pub response_kind : Response → Kind
response_kind (R.NopIn r) = nop_in
response_kind (R.ScsiResponse r) = scsi_response
response_kind (R.TaskManagementResponse r) = task_management_response
response_kind (R.LoginResponse r) = login_response
response_kind (R.DataIn r) = data_in
response_kind (R.LogoutResponse r) = logout_response
response_kind (R.R2t r) = r2t
response_kind (R.Reject r) = reject

abbrev numbers_then : Numbers → List ℕ → List ℕ
numbers_then n vs = n.stat_sn ∷ n.exp_cmd_sn ∷ n.max_cmd_sn ∷ vs

abbrev pub response_fields : Response → Numbers → List ℕ
response_fields (R.NopIn r) n =
    opcode nop_in ∷ 1 ∷ 0 ∷ r.data_segment_length ∷ r.lun ∷ r.initiator_task_tag ∷ r.target_transfer_tag ∷ numbers_then n []
response_fields (R.ScsiResponse r) n =
    opcode scsi_response ∷ bit_of r.underflow ∷ bit_of r.overflow ∷ 1 ∷ r.response ∷ r.status ∷ 0 ∷ r.data_segment_length
    ∷ r.initiator_task_tag ∷ r.snack_tag ∷ numbers_then n (r.exp_data_sn ∷ r.residual_count ∷ [])
response_fields (R.TaskManagementResponse r) n =
    opcode task_management_response ∷ 1 ∷ r.response ∷ 0 ∷ 0 ∷ r.initiator_task_tag ∷ numbers_then n []
response_fields (R.LoginResponse r) n =
    opcode login_response ∷ r.nsg ∷ r.csg ∷ bit_of r.transit ∷ 0 ∷ r.data_segment_length ∷ r.isid ∷ r.tsih ∷ r.initiator_task_tag
    ∷ numbers_then n (r.status_class ∷ r.status_detail ∷ [])
-- Data-In's StatSN is 0, whatever number is given
response_fields (R.DataIn r) n =
    opcode data_in ∷ bit_of r.acknowledge ∷ bit_of r.is_final ∷ 0 ∷ r.data_segment_length ∷ r.lun ∷ r.initiator_task_tag
    ∷ r.target_transfer_tag
    ∷ numbers_then (record { stat_sn = 0; exp_cmd_sn = n.exp_cmd_sn; max_cmd_sn = n.max_cmd_sn }) (r.data_sn ∷ r.buffer_offset ∷ [])
response_fields (R.LogoutResponse r) n =
    opcode logout_response ∷ 1 ∷ r.response ∷ 0 ∷ 0 ∷ r.initiator_task_tag ∷ numbers_then n (r.time2wait ∷ r.time2retain ∷ [])
response_fields (R.R2t r) n =
    opcode r2t ∷ 1 ∷ 0 ∷ 0 ∷ r.lun ∷ r.initiator_task_tag ∷ r.target_transfer_tag
    ∷ numbers_then n (r.r2t_sn ∷ r.buffer_offset ∷ r.desired_data_transfer_length ∷ [])
response_fields (R.Reject r) n =
    opcode reject ∷ 1 ∷ r.reason ∷ 0 ∷ 48 ∷ 0xffffffff ∷ numbers_then n []

-- ---- widths of what is read

-- each of a request's own numbers is below its width's bound
abbrev pub RequestFits : Request → Type 0
RequestFits (Q.NopOut x) = x.target_transfer_tag < 2 ^ 32
RequestFits (Q.ScsiCommand x) =
    (x.attribute < 2 ^ 3) × (x.total_ahs_length < 2 ^ 8) × (x.expected_data_transfer_length < 2 ^ 32)
    × (x.cdb_0 < 2 ^ 64) × (x.cdb_1 < 2 ^ 64)
RequestFits (Q.TaskManagement x) =
    (x.function < 2 ^ 7) × (x.referenced_task_tag < 2 ^ 32) × (x.ref_cmd_sn < 2 ^ 32) × (x.exp_data_sn < 2 ^ 32)
RequestFits (Q.Login x) =
    (x.csg < 2 ^ 2) × (x.nsg < 2 ^ 2) × (x.version_max < 2 ^ 8) × (x.version_min < 2 ^ 8)
    × (x.isid < 2 ^ 48) × (x.tsih < 2 ^ 16) × (x.cid < 2 ^ 16)
RequestFits (Q.DataOut x) = (x.target_transfer_tag < 2 ^ 32) × (x.data_sn < 2 ^ 32) × (x.buffer_offset < 2 ^ 32)
RequestFits (Q.Logout x) = (x.reason < 2 ^ 7) × (x.cid < 2 ^ 16)
RequestFits (Q.Snack x) =
    (x.snack_type < 2 ^ 4) × (x.target_transfer_tag < 2 ^ 32) × (x.beg_run < 2 ^ 32) × (x.run_length < 2 ^ 32)

-- the common fields, and the request's own
pub record PduFits (p : Pdu) : Type 0 where
  pub lun : p.lun < 2 ^ 64
  pub initiator_task_tag : p.initiator_task_tag < 2 ^ 32
  pub cmd_sn : p.cmd_sn < 2 ^ 32
  pub exp_stat_sn : p.exp_stat_sn < 2 ^ 32
  pub data_segment_length : p.data_segment_length < 2 ^ 24
  pub request : RequestFits p.request

-- ---- widths of what is written

-- a response's own numbers are of their types' widths; what a refusal keeps narrower (the data length, CSG, NSG, ISID) is left out
abbrev pub ResponseFits : Response → Type 0
ResponseFits (R.NopIn r) = (r.lun < 2 ^ 64) × (r.initiator_task_tag < 2 ^ 32) × (r.target_transfer_tag < 2 ^ 32)
ResponseFits (R.ScsiResponse r) =
    (r.response < 2 ^ 8) × (r.status < 2 ^ 8) × (r.initiator_task_tag < 2 ^ 32) × (r.snack_tag < 2 ^ 32) × (r.residual_count < 2 ^ 32)
    × (r.exp_data_sn < 2 ^ 32)
ResponseFits (R.TaskManagementResponse r) = (r.response < 2 ^ 8) × (r.initiator_task_tag < 2 ^ 32)
ResponseFits (R.LoginResponse r) =
    (r.tsih < 2 ^ 16) × (r.initiator_task_tag < 2 ^ 32) × (r.status_class < 2 ^ 8) × (r.status_detail < 2 ^ 8)
ResponseFits (R.DataIn r) =
    (r.lun < 2 ^ 64) × (r.initiator_task_tag < 2 ^ 32) × (r.target_transfer_tag < 2 ^ 32) × (r.data_sn < 2 ^ 32) × (r.buffer_offset < 2 ^ 32)
ResponseFits (R.LogoutResponse r) =
    (r.response < 2 ^ 8) × (r.initiator_task_tag < 2 ^ 32) × (r.time2wait < 2 ^ 16) × (r.time2retain < 2 ^ 16)
ResponseFits (R.R2t r) =
    (r.lun < 2 ^ 64) × (r.initiator_task_tag < 2 ^ 32) × (r.target_transfer_tag < 2 ^ 32) × (r.r2t_sn < 2 ^ 32)
    × (r.buffer_offset < 2 ^ 32) × (r.desired_data_transfer_length < 2 ^ 32)
ResponseFits (R.Reject r) = r.reason < 2 ^ 8

abbrev pub NumbersFit : Numbers → Type 0
NumbersFit n = (n.stat_sn < 2 ^ 32) × (n.exp_cmd_sn < 2 ^ 32) × (n.max_cmd_sn < 2 ^ 32)
