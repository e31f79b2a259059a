-- Paper 01, 'The book': what a fresh session is given, the count of hand-outs, the held numbers and the open ledgers; the
-- calls, and the book's answer to each, from its own entries and the call's arguments alone.
use Rattle.std.specs.Prelude.{ℕ, Bool, true, false, not, ◌&&◌, List, [], ◌∷◌, ◌++◌, ltb, leb, eqb, length, get_or, set, drop, replicate}
use Rattle.std.proofs.Math.ListN as ListN
use Rattle.field.specs.Field.{pick, be_at}
use Rattle.request_header.specs.Request.{limits, read_pdu, LengthAnswer, whole, unframed, length_asked}
use Rattle.request_header.specs.Request as Read
use Rattle.request_header.specs.Kind.{RequestKind, nopOut, scsiCommand, taskManagement, login, kind_of, if_data_out, if_snack}
use Rattle.request_header.specs.Kind as Kind
use Rattle.request_header.specs.declared.Limits.{Limits}
use Rattle.request_header.specs.declared.Request.{Request}
use Rattle.response_header.specs.Response.{max_data_length, is_too_long, header_bytes}
use Rattle.response_header.specs.declared.Numbers.{Numbers}
use Rattle.response_header.specs.declared.ScsiResponse.{ScsiResponse}
use Rattle.response_header.specs.declared.Response.{Response}
use Rattle.response_header.specs.declared.Response.TheVariants as R
use Rattle.task_book.specs.Record.{Record}
use Rattle.task_book.specs.Steps as T
use Rattle.store.specs.Slot.{header_size}
use Rattle.window.specs.Book as W
use Rattle.ledger.specs.Book as L
use Rattle.ledger.specs.declared.Renewal.{Renewal}
use Rattle.book.specs.declared.Given.{Given}
use Rattle.book.specs.declared.Opening.{Opening}

-- "connection number 4 or more" is NOCONN.
abbrev pub connections : ℕ
connections = W.connections

-- An open connection: what its PDUs are read by, the longest data that is written on it, and its ledger.
pub record OpenConnection : Type 0 where
  pub limits : Limits
  pub longest : ℕ
  pub ledger : L.LedgerBook

abbrev pub with_ledger : OpenConnection → L.LedgerBook → OpenConnection
with_ledger k l = record { limits = k.limits; longest = k.longest; ledger = l }

-- "From a first StatSN, given at opening"; "its ledger empty".
unfoldable pub opened_by : Opening → OpenConnection
opened_by o = record { limits = limits; longest = max_data_length; ledger = L.fresh_ledger o.stat_sn }

pub data Connection : Type 0 where
  closed : Connection
  live : OpenConnection → Connection

-- given: what the fresh session was given; window: the count of hand-outs and the held numbers; conns: connections 0 to 3.
pub record Book : Type 0 where
  pub given : Given
  pub window : W.Book
  pub conns : List Connection

-- How many numbers from the next one on a session may hold: "64 places".
unfoldable pub share : Given → ℕ
share g = W.places

-- "A fresh session is given its first number, connection 0's first StatSN and the ErrorRecoveryLevel"; it "has connection 0
-- open".
unfoldable pub fresh_book : Given → Book
fresh_book g = record { given = g; window = W.fresh_book g.first (share g); conns = live (opened_by g.opening) ∷ closed ∷ closed ∷ closed ∷ [] }

-- What a call lends to be written: the bytes that a header goes into, [] where it lends none.
pub record Outputs : Type 0 where
  pub header : List ℕ

abbrev pub outputs : List ℕ → Outputs
outputs h = record { header = h }

-- What a call may ask, which changes nothing: the window's two numbers, the next StatSN of a connection, who holds a number, and how long
-- the PDU is that begins with these bytes.
pub data Question : Type 0 where
  window_numbers : Question
  next_stat_sn : (connection : ℕ) → Question
  holder : (number : ℕ) → Question
  whole_length : (bytes : List ℕ) → Question

-- A call that moves data for a task: a Data-In or an R2T is written, a Data-Out or a SNACK for data came.
pub data Transfer : Type 0 where
  data_in : (final acknowledge : Bool) → (len : ℕ) → (out : Outputs) → Transfer
  r2t : (tag len : ℕ) → (out : Outputs) → Transfer
  data_out : (pdu : List ℕ) → Transfer
  data_snack : (offset : ℕ) → (pdu : List ℕ) → Transfer

-- The calls with their arguments. `out` is what a call lends, as it is before. A send, a resend and a transfer are given the record of a task, as
-- the caller holds it.
pub data Call : Type 0 where
  offer : (connection ticket : ℕ) → (pdu : List ℕ) → Call
  take : (out : Outputs) → Call
  logout : (connection reason : ℕ) → Call
  opening : (connection : ℕ) → Opening → Call
  send : (connection ticket : ℕ) → Response → Record → (out : Outputs) → Call
  acknowledge : (connection expStatSN : ℕ) → Call
  snack : (connection : ℕ) → (pdu : List ℕ) → Call
  resend : (connection stat_sn_of : ℕ) → Record → (out : Outputs) → Call
  transfer : (connection : ℕ) → Record → Transfer → Call
  ask : Question → Call

-- What a call lends; without an output it is empty.
abbrev pub no_outputs : Outputs
no_outputs = outputs []

abbrev pub lent_for : Transfer → Outputs
lent_for (data_in f a n o) = o
lent_for (r2t t n o) = o
lent_for (data_out p) = no_outputs
lent_for (data_snack f p) = no_outputs

abbrev pub lent : Call → Outputs
lent (offer c t p) = no_outputs
lent (take o) = o
lent (logout c r) = no_outputs
lent (opening c g) = no_outputs
lent (send c t r x o) = o
lent (acknowledge c e) = no_outputs
lent (snack c p) = no_outputs
lent (resend c n x o) = o
lent (transfer c x d) = lent_for d
lent (ask q) = no_outputs

-- What a question is answered, where it is not refused.
pub data Reply : Type 0 where
  numbers : (exp_cmd_sn_of max_cmd_sn_of : ℕ) → Reply
  next_is : (stat_sn_of : ℕ) → Reply
  holding : W.Holder → Reply
  length_is : ℕ → Reply

-- The answers. `refused` has paper 01's number; `window` is what the command window answers to an offer, a take, a logout; `moved` is what a transfer
-- answers, with the record after it.
pub data Answer : Type 0 where
  refused : ℕ → Answer
  immediate opened : Answer
  window : W.Answer → Answer
  sent : (stat_sn_of : ℕ) → Answer
  acknowledged : (count : ℕ) → Answer
  run : (first count : ℕ) → Answer
  resent : (ticket : ℕ) → Answer
  moved : T.Answer → Record → Answer
  told : Reply → Answer

-- A refusal of the window is the session's; its other answers are shown as they are.
abbrev pub from_window : W.Answer → Answer
from_window W.kept = window W.kept
from_window W.duplicate = window W.duplicate
from_window W.passed = window W.passed
from_window W.beyond = window W.beyond
from_window W.nothing = window W.nothing
from_window (W.command n t o) = window (W.command n t o)
from_window (W.void n) = window (W.void n)
from_window (W.logged_out e v) = window (W.logged_out e v)
from_window (W.refused n) = refused n

-- "where the choice is the program's": what the book takes of a call's answer. Nothing is left to the program today.
pub data Choice : Type 0 where
  none : Choice

abbrev pub choice_of : Answer → Choice
choice_of a = Choice.none

-- The answer to a call, what it lent as it is after it, and the book after it.
pub record Step : Type 0 where
  pub answer : Answer
  pub out : Outputs
  pub book : Book

abbrev pub step : Answer → Outputs → Book → Step
step a o b = record { answer = a; out = o; book = b }

-- "A refusal returns its number .. and changes nothing."
abbrev pub refuse : ℕ → Outputs → Book → Step
refuse n o b = step (refused n) o b

-- ---- parts of the book

unfoldable pub conn_of : Book → ℕ → Connection
conn_of b c = get_or b.conns c closed

unfoldable pub with_conn : Book → ℕ → Connection → Book
with_conn b c k = record { given = b.given; window = b.window; conns = set b.conns c k }

unfoldable pub with_window : Book → W.Book → Book
with_window b w = record { given = b.given; window = w; conns = b.conns }

-- A call that is the window's.
unfoldable pub by_window : Book → W.Step → Step
by_window b s = step (from_window s.answer) (outputs s.bytes) (with_window b s.book)

-- BUFFER: "a lent output is shorter than 48 bytes"; it comes first.
unfoldable pub lending : Book → Outputs → Step → Step
lending b o s = pick (ltb (length o.header) header_size) (refuse 1 o b) s

-- NOCONN, then CLOSED; else what the call does on the open connection.
unfoldable pub on_open : Connection → Book → Outputs → (OpenConnection → Step) → Step
on_open closed b o f = refuse 8 o b
on_open (live k) b o f = f k

unfoldable pub on_connection : Book → ℕ → Outputs → (OpenConnection → Step) → Step
on_connection b c o f = pick (ltb c connections) (on_open (conn_of b c) b o f) (refuse 7 o b)

-- ---- offer

-- What an offered PDU is: refused, immediate, or numbered.
pub data Offered : Type 0 where
  denied : ℕ → Offered
  at_once : Offered
  numbered : (cmd_sn_of : ℕ) → Offered

-- "NOP-Out, SCSI Command, Task Management or Logout (others FIELD)".
abbrev pub is_offered_kind : RequestKind → Bool
is_offered_kind nopOut = true
is_offered_kind scsiCommand = true
is_offered_kind taskManagement = true
is_offered_kind login = false
is_offered_kind Kind.data_out = false
is_offered_kind Kind.logout = true
is_offered_kind Kind.snack = false

abbrev pub is_offered : Request → Bool
is_offered r = is_offered_kind (kind_of r)

-- "I set is immediate, nothing changes. Else it is numbered".
abbrev pub offered_as : Read.Answer → Offered
offered_as (Read.refused n) = denied n
offered_as (Read.got p) = pick (is_offered p.request) (pick p.immediate at_once (numbered p.cmd_sn)) (denied 3)

-- The CmdSN of a command: bytes 24 to 27 of its header.
unfoldable pub cmd_sn_of : (pdu : List ℕ) → ℕ
cmd_sn_of pdu = be_at pdu 24 4

-- "Its 48 header bytes are what is kept."
unfoldable pub offer_by : Book → (connection ticket : ℕ) → (pdu : List ℕ) → Offered → Step
offer_by b c t pdu (denied n) = refuse n no_outputs b
offer_by b c t pdu at_once = step immediate no_outputs b
offer_by b c t pdu (numbered n) = by_window b (W.book_step b.window (W.offer n t c (ListN.take header_size pdu)))

-- ---- logout

-- "Reason 0: .. all connections close. Otherwise c closes."
unfoldable pub conns_left : List Connection → (connection reason : ℕ) → List Connection
conns_left l c r = pick (eqb r W.close_session) (replicate connections closed) (set l c closed)

unfoldable pub logged_out : Book → (connection reason : ℕ) → W.Step → Step
logged_out b c r s = step (from_window s.answer) no_outputs (record { given = b.given; window = s.book; conns = conns_left b.conns c r })

-- "Another reason is FIELD."
unfoldable pub logout_by : Book → (connection reason : ℕ) → Step
logout_by b c r = pick (leb r 2) (logged_out b c r (W.book_step b.window (W.logout c r))) (refuse 3 no_outputs b)

-- ---- opening

-- "A closed connection may be opened again, its ledger empty"; "opening what is open" is OPEN.
unfoldable pub open_at : Connection → Book → (connection : ℕ) → Opening → Step
open_at closed b c g = step opened no_outputs (with_conn b c (live (opened_by g)))
open_at (live k) b c g = refuse 9 no_outputs b

-- ---- send

-- The header goes into the first 48 bytes of what is lent for it.
unfoldable pub written : (header : List ℕ) → Outputs → Outputs
written h o = outputs (h ++ drop header_size o.header)

-- A status is stored; a NOP-In that is none is only written.
unfoldable pub send_as : Book → (connection ticket : ℕ) → (header : List ℕ) → Outputs → OpenConnection → L.Sending → Step
send_as b c t h o k (L.refused n) = refuse n o b
send_as b c t h o k (L.not_stored n) = step (sent n) (written h o) b
send_as b c t h o k (L.stored n) =
    step (sent n) (written h o) (with_conn b c (live (with_ledger k (L.sent k.ledger (record { header = h; ticket = t })))))

-- The response that is written: "ExpDataSN in the SCSI Response is now the count of Data-In and R2T sent (0 where RFC 7143 says so)", by the record.
abbrev pub with_exp_data_sn : ScsiResponse → (exp_data_sn_of : ℕ) → ScsiResponse
with_exp_data_sn r n = record {
  overflow = r.overflow;
  underflow = r.underflow;
  response = r.response;
  status = r.status;
  data_segment_length = r.data_segment_length;
  initiator_task_tag = r.initiator_task_tag;
  snack_tag = r.snack_tag;
  residual_count = r.residual_count;
  exp_data_sn = n;
}

abbrev pub completed : Record → Response → Response
completed x (R.NopIn r) = R.NopIn r
completed x (R.ScsiResponse r) = R.ScsiResponse (with_exp_data_sn r (T.exp_data_sn_of x.numbering r.response))
completed x (R.TaskManagementResponse r) = R.TaskManagementResponse r
completed x (R.LoginResponse r) = R.LoginResponse r
completed x (R.DataIn r) = R.DataIn r
completed x (R.LogoutResponse r) = R.LogoutResponse r
completed x (R.R2t r) = R.R2t r
completed x (R.Reject r) = R.Reject r

-- What is due: "one of the six responses", and of a SCSI Response, one whose "tag or number" is the one due: its ITT and its SNACK tag are the record's.
abbrev pub is_due : Record → Response → Bool
is_due x (R.NopIn r) = true
is_due x (R.ScsiResponse r) = eqb r.initiator_task_tag x.given.initiator_task_tag && eqb r.snack_tag x.numbering.snack_tag
is_due x (R.TaskManagementResponse r) = true
is_due x (R.LoginResponse r) = true
is_due x (R.DataIn r) = false
is_due x (R.LogoutResponse r) = true
is_due x (R.R2t r) = false
is_due x (R.Reject r) = true

-- FIELD, "after writing's refusals and before FULL", where the response isn't due.
unfoldable pub send_by : Book → (connection ticket : ℕ) → Response → Record → Outputs → OpenConnection → Step
send_by b c t r x o k =
    send_as b c t (L.header_for k.ledger (completed x r) (W.exp_cmd_sn_of b.window) (W.max_cmd_sn_of b.window)) o k
    (L.sending k.ledger k.longest (is_due x r) (completed x r))

-- ---- acknowledge

-- "ExpStatSN e is good if ..; it releases those before e." Else STALE.
unfoldable pub acknowledge_by : Book → (connection expStatSN : ℕ) → OpenConnection → Step
acknowledge_by b c e k =
    pick (L.is_good k.ledger e)
    (step (acknowledged (L.place k.ledger e)) no_outputs (with_conn b c (live (with_ledger k (L.released k.ledger e)))))
    (refuse 11 no_outputs b)

-- ---- SNACK

-- What a SNACK call asks for: a refusal, or a run.
pub data Asked : Type 0 where
  denied_run : ℕ → Asked
  from : (begRun runLength : ℕ) → Asked

-- "another kind is FIELD"; SNACK for "a SNACK type other than 1, or ErrorRecoveryLevel 0".
abbrev pub asked_by : (level : ℕ) → Request → Asked
asked_by v = if_snack (λ x. pick (eqb x.snack_type 1 && not (eqb v 0)) (from x.beg_run x.run_length) (denied_run 12)) (denied_run 3)

abbrev pub asked : (level : ℕ) → Read.Answer → Asked
asked v (Read.refused n) = denied_run n
asked v (Read.got p) = asked_by v p.request

-- "The answer is the run's first number and count"; a run that isn't wholly held is SNACK.
unfoldable pub step_of_run : Book → L.Run → Step
step_of_run b L.not_held = refuse 12 no_outputs b
step_of_run b (L.run f n) = step (run f n) no_outputs b

unfoldable pub snack_by : Book → L.LedgerBook → Asked → Step
snack_by b l (denied_run n) = refuse n no_outputs b
snack_by b l (from f n) = step_of_run b (L.run_of l f n)

-- ---- resend

-- What a resend renews: "the current numbers", and of a SCSI Response what the record given has.
abbrev pub renewal : Book → Record → Renewal
renewal b x = record { exp_cmd_sn = W.exp_cmd_sn_of b.window; max_cmd_sn = W.max_cmd_sn_of b.window; numbering = x.numbering }

-- "A resend of a held number, at a level above 0, writes its header and returns its ticket; of any other it is SNACK."
unfoldable pub shown : Book → Record → Outputs → L.Found → Step
shown b x o L.missing = refuse 12 o b
shown b x o (L.found s) = step (resent s.ticket) (written (L.renewed s.header (renewal b x)) o) b

unfoldable pub resend_by : Book → (stat_sn_of : ℕ) → Record → Outputs → OpenConnection → Step
resend_by b n x o k = pick (eqb b.given.level 0) (refuse 12 o b) (shown b x o (L.status_of k.ledger n))

-- ---- transfers

-- The numbers that a Data-In and an R2T carry: an R2T "carries the next StatSN, uses up none"; a Data-In's StatSN is 0.
abbrev pub numbers_now : Book → OpenConnection → Numbers
numbers_now b k = record { stat_sn = k.ledger.next; exp_cmd_sn = W.exp_cmd_sn_of b.window; max_cmd_sn = W.max_cmd_sn_of b.window }

-- What a transfer writes: the header of the Data-In or the R2T that is sent.
abbrev pub output_after : T.Answer → Numbers → Outputs → Outputs
output_after (T.refused n) m o = o
output_after (T.data_in h) m o = written (header_bytes (R.DataIn h) m) o
output_after (T.r2t h) m o = written (header_bytes (R.R2t h) m) o
output_after (T.came f n k) m o = o
output_after (T.run f n) m o = o
output_after (T.acknowledged n) m o = o

-- A refusal of the record's rules is the session's; any other answer comes with the record after it.
abbrev pub from_task : T.Answer → Record → Answer
from_task (T.refused n) x = refused n
from_task (T.data_in h) x = moved (T.data_in h) x
from_task (T.r2t h) x = moved (T.r2t h) x
from_task (T.came f n k) x = moved (T.came f n k) x
from_task (T.run f n) x = moved (T.run f n) x
from_task (T.acknowledged n) x = moved (T.acknowledged n) x

-- "Data calls .. change nothing in the book."
unfoldable pub moved_by : Book → Outputs → OpenConnection → T.Step → Step
moved_by b o k s = step (from_task s.answer s.after) (output_after s.answer (numbers_now b k) o) b

-- "FIELD for another kind".
abbrev pub data_out_by : Book → Record → OpenConnection → Read.Answer → Step
data_out_by b x k (Read.refused n) = refuse n no_outputs b
data_out_by b x k (Read.got p) =
    if_data_out (λ q. moved_by b no_outputs k (T.data_out_step x p.initiator_task_tag q p.data_segment_length)) (refuse 3 no_outputs b) p.request

abbrev pub data_snack_by : Book → Record → (offset : ℕ) → OpenConnection → Read.Answer → Step
data_snack_by b x f k (Read.refused n) = refuse n no_outputs b
data_snack_by b x f k (Read.got p) =
    if_snack (λ q. moved_by b no_outputs k (T.data_snack_step x b.given.level p.initiator_task_tag f q)) (refuse 3 no_outputs b) p.request

-- "All take a connection (7, then 8), come after BUFFER, then reading's or writing's refusals, then FIELD": of writing's, a Data-In has TOOLONG.
unfoldable pub transfer_by : Book → (connection : ℕ) → Record → Transfer → Step
transfer_by b c x (data_in f a n o) =
    lending b o (on_connection b c o (λ k. pick (is_too_long k.longest n) (refuse 5 o b) (moved_by b o k (T.data_in_step x f a n))))
transfer_by b c x (r2t t n o) = lending b o (on_connection b c o (λ k. moved_by b o k (T.r2t_step x t n)))
transfer_by b c x (data_out pdu) = on_connection b c no_outputs (λ k. data_out_by b x k (read_pdu k.limits pdu))
transfer_by b c x (data_snack f pdu) = on_connection b c no_outputs (λ k. data_snack_by b x f k (read_pdu k.limits pdu))

-- ---- questions

-- CLOSED where the connection isn't open.
unfoldable pub next_of : Connection → Answer
next_of closed = refused 8
next_of (live k) = told (next_is k.ledger.next)

abbrev pub length_reply : LengthAnswer → Answer
length_reply (whole n) = told (length_is n)
length_reply (unframed n) = refused n

-- NOCONN comes before CLOSED.
unfoldable pub reply_to : Book → Question → Answer
reply_to b window_numbers = told (numbers (W.exp_cmd_sn_of b.window) (W.max_cmd_sn_of b.window))
reply_to b (next_stat_sn c) = pick (ltb c connections) (next_of (conn_of b c)) (refused 7)
reply_to b (holder n) = told (holding (W.holder_of b.window n))
reply_to b (whole_length p) = length_reply (length_asked limits p)

-- ---- the step of the book at a call

unfoldable pub book_step : Book → Call → Choice → Step
book_step b (offer c t pdu) x = on_connection b c no_outputs (λ k. offer_by b c t pdu (offered_as (read_pdu k.limits pdu)))
book_step b (take o) x = lending b o (by_window b (W.book_step b.window (W.take o.header)))
book_step b (logout c r) x = on_connection b c no_outputs (λ k. logout_by b c r)
book_step b (opening c g) x = pick (ltb c connections) (open_at (conn_of b c) b c g) (refuse 7 no_outputs b)
book_step b (send c t r y o) x = lending b o (on_connection b c o (send_by b c t r y o))
book_step b (acknowledge c e) x = on_connection b c no_outputs (acknowledge_by b c e)
book_step b (snack c pdu) x = on_connection b c no_outputs (λ k. snack_by b k.ledger (asked b.given.level (read_pdu k.limits pdu)))
book_step b (resend c n y o) x = lending b o (on_connection b c o (resend_by b n y o))
book_step b (transfer c y d) x = transfer_by b c y d
book_step b (ask q) x = step (reply_to b q) no_outputs b
