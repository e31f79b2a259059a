-- PDUs as words: the order of the fields in the structs of drawbevel.h.
use Rattle.std.specs.Prelude.{ℕ, List, [], ◌∷◌}
use Rattle.field.specs.Field.{pick}
use Rattle.words.specs.Words.{flag_word}
use Rattle.request_header.specs.declared.Request.{Request}
use Rattle.request_header.specs.declared.Request.TheVariants as Q
use Rattle.request_header.specs.declared.Pdu.{Pdu}
use Rattle.request_header.specs.declared.Limits.{Limits}
use Rattle.request_header.specs.Request.{Answer, got, refused, pdu_of}
use Rattle.request_header.specs.Verdicts.{fields_ok}

-- the opcode
unfoldable pub opcode_word : Request → ℕ
opcode_word (Q.NopOut x) = 0x00
opcode_word (Q.ScsiCommand x) = 0x01
opcode_word (Q.TaskManagement x) = 0x02
opcode_word (Q.Login x) = 0x03
opcode_word (Q.DataOut x) = 0x05
opcode_word (Q.Logout x) = 0x06
opcode_word (Q.Snack x) = 0x10

-- the request's own fields, then 0
unfoldable pub own_words : Request → List ℕ
own_words (Q.NopOut x) = x.target_transfer_tag ∷ 0 ∷ 0 ∷ 0 ∷ 0 ∷ 0 ∷ 0 ∷ 0 ∷ 0 ∷ []
own_words (Q.ScsiCommand x) =
    flag_word x.is_final ∷ flag_word x.is_read ∷ flag_word x.is_write ∷ x.attribute ∷ x.total_ahs_length
    ∷ x.expected_data_transfer_length ∷ x.cdb_0 ∷ x.cdb_1 ∷ 0 ∷ []
own_words (Q.TaskManagement x) = x.function ∷ x.referenced_task_tag ∷ x.ref_cmd_sn ∷ x.exp_data_sn ∷ 0 ∷ 0 ∷ 0 ∷ 0 ∷ 0 ∷ []
own_words (Q.Login x) =
    flag_word x.transit ∷ flag_word x.continues ∷ x.csg ∷ x.nsg ∷ x.version_max ∷ x.version_min ∷ x.isid ∷ x.tsih ∷ x.cid ∷ []
own_words (Q.DataOut x) = flag_word x.is_final ∷ x.target_transfer_tag ∷ x.data_sn ∷ x.buffer_offset ∷ 0 ∷ 0 ∷ 0 ∷ 0 ∷ 0 ∷ []
own_words (Q.Logout x) = x.reason ∷ x.cid ∷ 0 ∷ 0 ∷ 0 ∷ 0 ∷ 0 ∷ 0 ∷ 0 ∷ []
own_words (Q.Snack x) = x.snack_type ∷ x.target_transfer_tag ∷ x.beg_run ∷ x.run_length ∷ 0 ∷ 0 ∷ 0 ∷ 0 ∷ 0 ∷ []

-- the opcode, the common fields and the place of the data segment
unfoldable pub common_words : Pdu → List ℕ
common_words p =
    opcode_word p.request ∷ flag_word p.immediate ∷ p.cmd_sn ∷ p.lun ∷ p.initiator_task_tag ∷ p.exp_stat_sn
    ∷ p.data_start ∷ p.data_segment_length ∷ []

-- what reading answers: 0 or the refusal's number, and the words after the call
pub record ReadWords : Type 0 where
  pub answer : ℕ
  pub common : List ℕ
  pub own : List ℕ

unfoldable pub read_words : Answer → List ℕ → List ℕ → ReadWords
read_words (got p) c o = record { answer = 0; common = common_words p; own = own_words p.request }
read_words (refused n) c o = record { answer = n; common = c; own = o }

-- what reading answers of an opcode and a header, past the refusals before FIELD
unfoldable pub kind_words : Limits → ℕ → List ℕ → List ℕ → List ℕ → ReadWords
kind_words m op s c o = read_words (pick (fields_ok m op s) (got (pdu_of op s)) (refused 3)) c o
