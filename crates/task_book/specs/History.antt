-- A list of calls on one task: the data calls with their answers, and the SCSI Responses that are sent for it.
use Rattle.std.specs.Prelude.{ℕ, ◌≡◌, Bool, List, [], ◌∷◌}
use Rattle.request_header.specs.declared.DataOut.{DataOut}
use Rattle.request_header.specs.declared.Snack.{Snack}
use Rattle.task_book.specs.Record.{Record}
use Rattle.task_book.specs.Steps.{Answer, Step, data_in_step, r2t_step, data_out_step, data_snack_step, exp_data_sn_of}

-- A data call: what it is given beside the record. A Data-Out's and a SNACK's parts are those that were read of the PDU.
pub data DataCall : Type 0 where
  data_in : (final acknowledge : Bool) → (len : ℕ) → DataCall
  r2t : (tag len : ℕ) → DataCall
  data_out : (initiatorTaskTag : ℕ) → DataOut → (len : ℕ) → DataCall
  data_snack : (level initiatorTaskTag offset : ℕ) → Snack → DataCall

-- Its answer and the record after it, by Steps.
abbrev pub step_of : Record → DataCall → Step
step_of x (DataCall.data_in f a n) = data_in_step x f a n
step_of x (DataCall.r2t t n) = r2t_step x t n
step_of x (DataCall.data_out i p n) = data_out_step x i p n
step_of x (DataCall.data_snack v i o p) = data_snack_step x v i o p

-- A data call with its answer; or a SCSI Response, sent or resent, with this response code, and the ExpDataSN that it bears.
pub data Event : Type 0 where
  moved : DataCall → Answer → Event
  responded : (response exp_data_sn_of : ℕ) → Event

-- From the first record these events, in the order of the calls, lead to the last: "each given the record as it was last answered (other calls may stand
-- between)". A SCSI Response leaves the record.
pub data Ran : Record → List Event → Record → Type 0 where
  done : {x : Record} → Ran x [] x
  moves : {x y : Record} {c : DataCall} {a : Answer} {es : List Event} → a ≡ (step_of x c).answer → Ran (step_of x c).after es y → Ran x (moved c a ∷ es) y
  responds : {x y : Record} {r n : ℕ} {es : List Event} → n ≡ exp_data_sn_of x.numbering r → Ran x es y → Ran x (responded r n ∷ es) y
