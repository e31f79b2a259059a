-- The calls of one task in a list of events: the data calls, each given the record as it was last answered, and the SCSI Responses that are sent with it.
-- Its theorem, `tasks-booked` in proofs/Tasks, gives the data sentences of task_book/specs/Sentences for every list of calls of a session.
use Rattle.std.specs.Prelude.{ℕ, ◌^◌, ◌<◌, ◌≡◌, List, [], ◌∷◌, drop}
use Rattle.std.proofs.Math.ListN as ListN
use Rattle.field.specs.Field.{be_at, bytes_of}
use Rattle.request_header.specs.Request.{data_out_of, snack_of, data_length_of}
use Rattle.response_header.specs.declared.ScsiResponse.{ScsiResponse}
use Rattle.response_header.specs.declared.Response.TheVariants as R
use Rattle.task_book.specs.Record.{Record}
use Rattle.task_book.specs.Steps as T
use Rattle.task_book.specs.History as H
use Rattle.book.specs.Book.{Outputs, Transfer, data_in, r2t, data_out, data_snack, send, transfer, sent, moved}
use Rattle.book.specs.Events.{Event, event}

-- What a transfer is to the record: of a Data-Out and a SNACK, by the fields of the PDU. v is the session's ErrorRecoveryLevel.
abbrev pub data_call_of : (v : ℕ) → Transfer → H.DataCall
data_call_of v (data_in f a n o) = H.DataCall.data_in f a n
data_call_of v (r2t t n o) = H.DataCall.r2t t n
data_call_of v (data_out p) = H.DataCall.data_out (be_at p 16 4) (data_out_of p) (data_length_of p)
data_call_of v (data_snack f p) = H.DataCall.data_snack v (be_at p 16 4) f (snack_of p)

-- The ExpDataSN that a header bears: its bytes 36 to 39.
pub record Bears (header : List ℕ) (k : ℕ) : Type 0 where
  pub fits : k < 2 ^ 32
  pub bytes : ListN.take 4 (drop 36 header) ≡ bytes_of 4 k

-- From the record x the events es of a session, in the order of the calls, lead to the record y; those of the task are ts.
pub data OnTask (v : ℕ) : Record → List Event → List H.Event → Record → Type 0 where
  done : {x : Record} → OnTask v x [] [] x
  -- "other calls may stand between"; a refusal leaves the record, and is one of these
  other : {x y : Record} {e : Event} {es : List Event} {ts : List H.Event} → OnTask v x es ts y → OnTask v x (e ∷ es) ts y
  -- a transfer given the record, and answered with the record after it
  moves : {x x' y : Record} {c : ℕ} {d : Transfer} {a : T.Answer} {o : Outputs} {es : List Event} {ts : List H.Event}
      → OnTask v x' es ts y → OnTask v x (event (transfer c x d) (moved a x') o ∷ es) (H.moved (data_call_of v d) a ∷ ts) y
  -- a SCSI Response sent with the record, whose header bears the ExpDataSN k
  responds : {x y : Record} {c t n k : ℕ} {r : ScsiResponse} {l o : Outputs} {es : List Event} {ts : List H.Event}
      → Bears o.header k → OnTask v x es ts y
      → OnTask v x (event (send c t (R.ScsiResponse r) x l) (sent n) o ∷ es) (H.responded r.response k ∷ ts) y
