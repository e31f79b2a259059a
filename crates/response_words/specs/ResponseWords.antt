-- Responses made of words: the order of the fields in the structs of drawbevel.h, and what words are no response.
use Rattle.std.specs.Prelude.{ℕ, Bool, ◌&&◌, List, eqb, Result, Ok, Err}
use Rattle.field.specs.Field.{pick}
use Rattle.words.specs.Words.{word, fits, is_set}
use Rattle.response_header.specs.Response.{is_too_long}
use Rattle.response_header.specs.declared.NopIn.{NopIn}
use Rattle.response_header.specs.declared.ScsiResponse.{ScsiResponse}
use Rattle.response_header.specs.declared.TaskManagementResponse.{TaskManagementResponse}
use Rattle.response_header.specs.declared.LoginResponse.{LoginResponse}
use Rattle.response_header.specs.declared.DataIn.{DataIn}
use Rattle.response_header.specs.declared.LogoutResponse.{LogoutResponse}
use Rattle.response_header.specs.declared.R2t.{R2t}
use Rattle.response_header.specs.declared.Reject.{Reject}
use Rattle.response_header.specs.declared.Response.{Response}
use Rattle.response_header.specs.declared.Response.TheVariants as R
use Rattle.response_words.specs.declared.Unfit.{Unfit}

-- words that are no response, and state this data length
abbrev unfit : ℕ → Result Response Unfit
unfit d = Err (record { stated = d })

-- ---- the eight kinds: whether each word fits its field, and the response that the words are then

abbrev pub nop_in_fits : List ℕ → Bool
nop_in_fits w = (fits w 32 1 && fits w 32 3) && fits w 32 4

abbrev nop_in_fields : List ℕ → NopIn
nop_in_fields w = record {
  data_segment_length = word w 1;
  lun = word w 2;
  initiator_task_tag = word w 3;
  target_transfer_tag = word w 4;
}

abbrev pub nop_in_of : List ℕ → Result Response Unfit
nop_in_of w = pick (nop_in_fits w) (Ok (R.NopIn (nop_in_fields w))) (unfit (word w 1))

abbrev pub scsi_response_fits : List ℕ → Bool
scsi_response_fits w =
    ((fits w 1 1 && fits w 1 2) && (fits w 8 3 && fits w 8 4))
    && ((fits w 32 5 && fits w 32 6) && ((fits w 32 7 && fits w 32 8) && fits w 32 9))

abbrev scsi_response_fields : List ℕ → ScsiResponse
scsi_response_fields w = record {
  overflow = is_set (word w 1);
  underflow = is_set (word w 2);
  response = word w 3;
  status = word w 4;
  data_segment_length = word w 5;
  initiator_task_tag = word w 6;
  snack_tag = word w 7;
  residual_count = word w 8;
  exp_data_sn = word w 9;
}

abbrev pub scsi_response_of : List ℕ → Result Response Unfit
scsi_response_of w = pick (scsi_response_fits w) (Ok (R.ScsiResponse (scsi_response_fields w))) (unfit (word w 5))

abbrev pub task_management_response_fits : List ℕ → Bool
task_management_response_fits w = fits w 8 1 && fits w 32 2

abbrev task_management_response_fields : List ℕ → TaskManagementResponse
task_management_response_fields w = record { response = word w 1; initiator_task_tag = word w 2 }

abbrev pub task_management_response_of : List ℕ → Result Response Unfit
task_management_response_of w = pick (task_management_response_fits w) (Ok (R.TaskManagementResponse (task_management_response_fields w))) (unfit 0)

abbrev pub login_response_fits : List ℕ → Bool
login_response_fits w =
    ((fits w 1 1 && fits w 8 2) && (fits w 8 3 && fits w 32 4))
    && ((fits w 16 6 && fits w 32 7) && (fits w 8 8 && fits w 8 9))

abbrev login_response_fields : List ℕ → LoginResponse
login_response_fields w = record {
  transit = is_set (word w 1);
  csg = word w 2;
  nsg = word w 3;
  data_segment_length = word w 4;
  isid = word w 5;
  tsih = word w 6;
  initiator_task_tag = word w 7;
  status_class = word w 8;
  status_detail = word w 9;
}

abbrev pub login_response_of : List ℕ → Result Response Unfit
login_response_of w = pick (login_response_fits w) (Ok (R.LoginResponse (login_response_fields w))) (unfit (word w 4))

abbrev pub data_in_fits : List ℕ → Bool
data_in_fits w =
    ((fits w 1 1 && fits w 1 2) && (fits w 32 3 && fits w 32 5))
    && ((fits w 32 6 && fits w 32 7) && fits w 32 8)

abbrev data_in_fields : List ℕ → DataIn
data_in_fields w = record {
  is_final = is_set (word w 1);
  acknowledge = is_set (word w 2);
  data_segment_length = word w 3;
  lun = word w 4;
  initiator_task_tag = word w 5;
  target_transfer_tag = word w 6;
  data_sn = word w 7;
  buffer_offset = word w 8;
}

abbrev pub data_in_of : List ℕ → Result Response Unfit
data_in_of w = pick (data_in_fits w) (Ok (R.DataIn (data_in_fields w))) (unfit (word w 3))

abbrev pub logout_response_fits : List ℕ → Bool
logout_response_fits w = (fits w 8 1 && fits w 32 2) && (fits w 16 3 && fits w 16 4)

abbrev logout_response_fields : List ℕ → LogoutResponse
logout_response_fields w = record {
  response = word w 1;
  initiator_task_tag = word w 2;
  time2wait = word w 3;
  time2retain = word w 4;
}

abbrev pub logout_response_of : List ℕ → Result Response Unfit
logout_response_of w = pick (logout_response_fits w) (Ok (R.LogoutResponse (logout_response_fields w))) (unfit 0)

abbrev pub r2t_fits : List ℕ → Bool
r2t_fits w = (fits w 32 2 && fits w 32 3) && ((fits w 32 4 && fits w 32 5) && fits w 32 6)

abbrev r2t_fields : List ℕ → R2t
r2t_fields w = record {
  lun = word w 1;
  initiator_task_tag = word w 2;
  target_transfer_tag = word w 3;
  r2t_sn = word w 4;
  buffer_offset = word w 5;
  desired_data_transfer_length = word w 6;
}

abbrev pub r2t_of : List ℕ → Result Response Unfit
r2t_of w = pick (r2t_fits w) (Ok (R.R2t (r2t_fields w))) (unfit 0)

abbrev reject_fields : List ℕ → Reject
reject_fields w = record { reason = word w 1 }

abbrev pub reject_of : List ℕ → Result Response Unfit
reject_of w = pick (fits w 8 1) (Ok (R.Reject (reject_fields w))) (unfit 0)

-- ---- words

-- The response whose opcode the first word is. Words that are no response, since no response has that opcode or a word is too wide for its
-- field, are a case of their own, with the data length that they state (0 where their kind has none): no word is cut.
unfoldable pub response_of : List ℕ → Result Response Unfit
response_of w =
    pick (eqb (word w 0) 0x20) (nop_in_of w)
    (pick (eqb (word w 0) 0x21) (scsi_response_of w)
    (pick (eqb (word w 0) 0x22) (task_management_response_of w)
    (pick (eqb (word w 0) 0x23) (login_response_of w)
    (pick (eqb (word w 0) 0x25) (data_in_of w)
    (pick (eqb (word w 0) 0x26) (logout_response_of w)
    (pick (eqb (word w 0) 0x31) (r2t_of w)
    (pick (eqb (word w 0) 0x3f) (reject_of w)
    (unfit 0))))))))

-- Writing's refusal of words that are no response: "a data length above 8,192 is TOOLONG", "a value too wide for its place .. is FIELD", and
-- so is a kind that none has.
unfoldable pub unfit_refusal : (max stated : ℕ) → ℕ
unfit_refusal max d = pick (is_too_long max d) 5 3
