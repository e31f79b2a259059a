-- Read beside paper 01, 'The status ledger': what one open connection holds, and what each call answers.
use Rattle.std.specs.Prelude.{ℕ, zero, suc, ◌+◌, ◌-◌, ◌%◌, ◌^◌, Bool, true, false, not, ◌&&◌, List, [], ◌∷◌, ◌++◌, ltb, leb, eqb, length, drop}
use Rattle.std.proofs.lemmas.List.Edits.{sets}
use Rattle.field.specs.Field.{pick, byte, bytes_of}
use Rattle.field.specs.Field as Field
use Rattle.response_header.specs.Response.{refusal_in, header_bytes}
use Rattle.store.specs.Slot.{header_size}
use Rattle.response_header.specs.declared.Response.{Response}
use Rattle.response_header.specs.declared.Response.TheVariants as R
use Rattle.task_book.specs.declared.Numbering.{Numbering}
use Rattle.task_book.specs.Steps.{exp_data_sn_of}
use Rattle.ledger.specs.declared.Renewal.{Renewal}

-- "FULL: 32 statuses unacknowledged".
abbrev pub statuses : ℕ
statuses = 32

-- "connection number 4 or more" there is none of.
abbrev pub connections : ℕ
connections = 4

-- What is kept of a status that was sent.
pub record Status : Type 0 where
  pub header : List ℕ
  pub ticket : ℕ

-- next: the next StatSN; held: the statuses that are not acknowledged, the oldest first. Their numbers are the ones
-- before next, without a gap.
pub record LedgerBook : Type 0 where
  pub next : ℕ
  pub held : List Status

-- "From a first StatSN, given at opening"; "its ledger empty".
unfoldable pub fresh_ledger : (first : ℕ) → LedgerBook
fresh_ledger n = record { next = n % 2 ^ 32; held = [] }

-- "the oldest number (the next one where none is held)".
unfoldable pub oldest : LedgerBook → ℕ
oldest b = (b.next + (2 ^ 32 - length b.held)) % 2 ^ 32

-- A number less the oldest.
unfoldable pub place : LedgerBook → ℕ → ℕ
place b n = (n + (2 ^ 32 - oldest b)) % 2 ^ 32

-- ---- send

-- "A NOP-In with ITT 0xffffffff .. doesn't count as a status sent", nor does an R2T, nor a Data-In, whose "StatSN is 0": every other response does.
abbrev pub is_status : Response → Bool
is_status (R.NopIn x) = not (eqb x.initiator_task_tag Field.none)
is_status (R.ScsiResponse x) = true
is_status (R.TaskManagementResponse x) = true
is_status (R.LoginResponse x) = true
is_status (R.DataIn x) = false
is_status (R.LogoutResponse x) = true
is_status (R.R2t x) = false
is_status (R.Reject x) = true

unfoldable pub is_full : LedgerBook → Bool
is_full b = leb statuses (length b.held)

-- The answer to a send: a refusal's number, or the StatSN of a header that is not stored, or of one that is.
pub data Sending : Type 0 where
  refused : ℕ → Sending
  not_stored : (number : ℕ) → Sending
  stored : (number : ℕ) → Sending

-- Writing's refusals, with the longest data written, then FIELD where the response isn't one that is due, then the NOP-In that is
-- "never FULL", then FULL.
unfoldable pub sending : LedgerBook → (longest : ℕ) → (due : Bool) → Response → Sending
sending b longest due r =
    pick (eqb (refusal_in longest r) 0)
    (pick due (pick (is_status r) (pick (is_full b) (refused 10) (stored b.next)) (not_stored b.next)) (refused 3))
    (refused (refusal_in longest r))

-- "with the next StatSN and both window numbers".
unfoldable pub header_for : LedgerBook → Response → (exp_cmd_sn_of max_cmd_sn_of : ℕ) → List ℕ
header_for b r e m = header_bytes r (record { stat_sn = b.next; exp_cmd_sn = e; max_cmd_sn = m })

-- The lent output after a send: the header in its first 48 bytes, or as it was.
unfoldable pub send_bytes : Sending → (header out : List ℕ) → List ℕ
send_bytes (refused n) h o = o
send_bytes (not_stored n) h o = h ++ drop header_size o
send_bytes (stored n) h o = h ++ drop header_size o

-- The ledger with one status more.
unfoldable pub sent : LedgerBook → Status → LedgerBook
sent b s = record { next = (b.next + 1) % 2 ^ 32; held = b.held ++ s ∷ [] }

-- ---- acknowledge

-- "good if e less the oldest number .. is at most the count held".
unfoldable pub is_good : LedgerBook → ℕ → Bool
is_good b e = leb (place b e) (length b.held)

-- "it releases those before e".
unfoldable pub released : LedgerBook → ℕ → LedgerBook
released b e = record { next = b.next; held = drop (place b e) b.held }

-- ---- SNACK

pub data Run : Type 0 where
  not_held : Run
  run : (first count : ℕ) → Run

-- "BegRun must be held, and RunLength 0 means from there to the end"; a run is "wholly held".
unfoldable pub run_at : LedgerBook → (place begRun runLength : ℕ) → Run
run_at b k begin len =
    pick (ltb k (length b.held))
    (pick (eqb len 0) (run begin (length b.held - k)) (pick (leb len (length b.held - k)) (run begin len) not_held))
    not_held

-- "BegRun and RunLength both 0 asks for all held, perhaps none": then the next number, which is the oldest here, and 0.
unfoldable pub run_of : LedgerBook → (begRun runLength : ℕ) → Run
run_of b begin len = pick (eqb begin 0 && eqb len 0) (run (oldest b) (length b.held)) (run_at b (place b begin) begin len)

-- ---- resend

pub data Found : Type 0 where
  missing : Found
  found : Status → Found

unfoldable pub lookup : List Status → ℕ → Found
lookup [] k = missing
lookup (s ∷ l) zero = found s
lookup (s ∷ l) (suc k) = lookup l k

-- The status that is held under a number.
unfoldable pub status_of : LedgerBook → ℕ → Found
status_of b n = lookup b.held (place b n)

-- "a resend of one .. takes it, and the tag of a type 3 SNACK since, from the record given": the ExpDataSN of a SCSI Response (0x21) is the
-- record's, by the response code that was sent; its SNACK tag too, where a type 3 came (the record's isn't 0).
unfoldable pub with_tag : List ℕ → (tag : ℕ) → List ℕ
with_tag h t = pick (eqb t 0) h (sets h 20 (bytes_of 4 t))

unfoldable pub renewed_for : Numbering → List ℕ → List ℕ
renewed_for n h = pick (eqb (byte h 0) 0x21) (sets (with_tag h n.snack_tag) 36 (bytes_of 4 (exp_data_sn_of n (byte h 2)))) h

-- "It differs from the sent header in bytes 28 to 35 only, which hold the current numbers", and of a SCSI Response "in bytes 20 to 23 and 28 to 39".
unfoldable pub renewed : List ℕ → Renewal → List ℕ
renewed h x = sets (sets (renewed_for x.numbering h) 28 (bytes_of 4 x.exp_cmd_sn)) 32 (bytes_of 4 x.max_cmd_sn)
