-- Follows the code: how its ledger of connection c, with the arrays that the four connections share, stands for a ledger
-- of the book; and the contracts of its functions.
use Rattle.std.specs.Prelude.{ℕ, ◌+◌, ◌*◌, ◌%◌, ◌^◌, ◌<◌, ◌≤◌, ◌≡◌, Bool, true, false, List, ◌++◌, length, get_or, set, take, drop, Option, Some, None, Result, Ok, Err}
use Rattle.std.proofs.Math.Seq.{paste}
use Rattle.refusal.specs.Refusal.{number}
use Rattle.refusal.specs.declared.Refusal.{Refusal}
use Rattle.response_header.specs.declared.Response.{Response}
use Rattle.store.specs.Slot.{header_size, in_slot}
use Rattle.ledger.specs.Book.{statuses, connections, LedgerBook, fresh_ledger, is_status, oldest, Sending, refused, not_stored, stored, sending, header_for, send_bytes, sent, released, Found, missing, found, lookup, status_of, renewed}
use Rattle.ledger.specs.Answer.{Answer, resent, acknowledging, acknowledged_answer, resent_answer}
use Rattle.ledger.specs.Answer as Answers
use Rattle.ledger.specs.declared.Ledger.{Ledger}
use Rattle.ledger.specs.declared.Renewal.{Renewal}
use Rattle.ledger.specs.declared.Sent.{Sent}
use Rattle.ledger.specs.declared.Released.{Released}

-- The slots of the four connections.
abbrev pub ledger_slots : ℕ
ledger_slots = connections * statuses

-- The two arrays that are lent to the ledgers: the headers and the tickets of their statuses, slot by slot.
pub record Statuses : Type 0 where
  pub headers : List ℕ
  pub tickets : List ℕ

abbrev pub statuses_in : (headers tickets : List ℕ) → Statuses
statuses_in h t = record { headers = h; tickets = t }

-- The slot j has the header and the ticket of what is found.
unfoldable pub SlotHas : Statuses → ℕ → Found → Type 0
SlotHas ss j missing = Unit {0}
SlotHas ss j (found s) = (in_slot ss.headers j ≡ s.header) × (get_or ss.tickets j 0 ≡ s.ticket)

-- The ledger l of connection c stands for b.
pub record Agrees (c : ℕ) (l : Ledger) (ss : Statuses) (b : LedgerBook) : Type 0 where
  pub near : c < connections
  pub next : l.next ≡ b.next
  pub fits : b.next < 2 ^ 32
  pub held : l.held ≡ length b.held
  pub few : length b.held ≤ statuses
  pub headers_size : length ss.headers ≡ ledger_slots * header_size
  pub tickets_size : length ss.tickets ≡ ledger_slots
  pub kept : (k : ℕ) → SlotHas ss (c * statuses + (oldest b + k) % statuses) (lookup b.held k)

pub record Opened (r : Ledger) (first : ℕ) : Type 0 where
  pub agrees : (c : ℕ) (ss : Statuses) → c < connections → length ss.headers ≡ ledger_slots * header_size → length ss.tickets ≡ ledger_slots
      → Agrees c r ss (fresh_ledger first)

-- A status that is stored changes the slot of its number in c's part, and no other byte of the arrays.
unfoldable pub Puts : (c number ticket : ℕ) → (header : List ℕ) → Statuses → Statuses → Type 0
Puts c n t h ss ss' =
    (ss'.headers ≡ paste ss.headers ((c * statuses + n % statuses) * header_size) h header_size)
    × (ss'.tickets ≡ set ss.tickets (c * statuses + n % statuses) t)

-- A status stored in c's ledger: c's agreement goes on, the others' stays.
pub record Stored (c : ℕ) (l : Ledger) (ticket : ℕ) (header : List ℕ) (ss : Statuses) (r : Ledger) (ss' : Statuses) : Type 0 where
  pub agrees : (b : LedgerBook) → Agrees c l ss b → Agrees c r ss' (sent b (record { header = header; ticket = ticket }))
  pub others : (k : ℕ) (m : Ledger) (b : LedgerBook) → (k ≡ c → ⊥) → Agrees k m ss b → Agrees k m ss' b
  pub headers_size : length ss.headers ≡ ledger_slots * header_size → length ss'.headers ≡ ledger_slots * header_size
  pub tickets_size : length ss.tickets ≡ ledger_slots → length ss'.tickets ≡ ledger_slots
  pub puts : Puts c l.next ticket header ss ss'

-- ---- send

-- A number, and the ledger after it where it is a status.
abbrev pub numbered : ℕ → Option Ledger → Sending
numbered n None = not_stored n
numbered n (Some l) = stored n

abbrev pub sent_of : Result Sent Refusal → Sending
sent_of (Err f) = refused (number f)
sent_of (Ok x) = numbered x.stat_sn x.ledger

-- The ledger after a send that stores; of the others it stays the caller's.
abbrev pub LedgerAgrees : (c : ℕ) → Option Ledger → Statuses → LedgerBook → Type 0
LedgerAgrees c None ss b = Unit {0}
LedgerAgrees c (Some l) ss b = Agrees c l ss b

abbrev pub SentAgrees : (c : ℕ) → Result Sent Refusal → Statuses → LedgerBook → Type 0
SentAgrees c (Err f) ss b = Unit {0}
SentAgrees c (Ok x) ss b = LedgerAgrees c x.ledger ss b

-- Of any ledger: "A refusal .. changes nothing"; what is not stored leaves the arrays; what is stored, the first 48 bytes of
-- the output, changes one slot.
abbrev pub WrittenStays : (c ticket : ℕ) → Response → (number : ℕ) → Option Ledger → (out' : List ℕ) → Statuses → Statuses → Type 0
WrittenStays c t r n None o' ss ss' = (is_status r ≡ false) × (ss' ≡ ss)
WrittenStays c t r n (Some l) o' ss ss' = (is_status r ≡ true) × Puts c n t (take header_size o') ss ss'

abbrev pub SentStays : (c ticket : ℕ) → Response → Result Sent Refusal → (out out' : List ℕ) → Statuses → Statuses → Type 0
SentStays c t r (Err f) o o' ss ss' = (o' ≡ o) × (ss' ≡ ss)
SentStays c t r (Ok x) o o' ss ss' = WrittenStays c t r x.stat_sn x.ledger o' ss ss'

pub record SendsAt (c ticket : ℕ) (r : Response) (longest : ℕ) (due : Bool) (e m : ℕ) (out : List ℕ) (x : Result Sent Refusal) (out' : List ℕ)
    (ss' : Statuses) (b : LedgerBook) : Type 0 where
  pub answer : sent_of x ≡ sending b longest due r
  pub bytes : out' ≡ send_bytes (sending b longest due r) (header_for b r e m) out
  pub agrees : SentAgrees c x ss' (sent b (record { header = header_for b r e m; ticket = ticket }))

-- Of any ledger the output keeps its length, and its bytes from 48 on.
pub record Sends (c : ℕ) (l : Ledger) (ticket : ℕ) (r : Response) (longest : ℕ) (due : Bool) (e m : ℕ) (out : List ℕ) (ss : Statuses)
    (x : Result Sent Refusal) (out' : List ℕ) (ss' : Statuses) : Type 0 where
  pub meets : (b : LedgerBook) → Agrees c l ss b → SendsAt c ticket r longest due e m out x out' ss' b
  pub others : (k : ℕ) (n : Ledger) (b : LedgerBook) → (k ≡ c → ⊥) → Agrees k n ss b → Agrees k n ss' b
  pub headers_size : length ss.headers ≡ ledger_slots * header_size → length ss'.headers ≡ ledger_slots * header_size
  pub tickets_size : length ss.tickets ≡ ledger_slots → length ss'.tickets ≡ ledger_slots
  pub stays : SentStays c ticket r x out out' ss ss'
  pub out_size : length out' ≡ length out
  pub out_rest : drop header_size out' ≡ drop header_size out

-- ---- acknowledge, resend

-- The ledger after an acknowledgement that is good; of a stale one it stays the caller's.
abbrev pub AcknowledgedAgrees : (c : ℕ) → Statuses → Option Released → LedgerBook → Type 0
AcknowledgedAgrees c ss None b = Unit {0}
AcknowledgedAgrees c ss (Some x) b = Agrees c x.ledger ss b

pub record AcknowledgesAt (c : ℕ) (ss : Statuses) (r : Option Released) (b : LedgerBook) (e : ℕ) : Type 0 where
  pub answer : acknowledged_answer r ≡ acknowledging b e
  pub agrees : AcknowledgedAgrees c ss r (released b e)

-- The answer to a resend, and the lent output after it; SNACK for a "number not .. held".
pub record Showing : Type 0 where
  pub answer : Answer
  pub bytes : List ℕ

unfoldable pub showing : Found → Renewal → List ℕ → Showing
showing missing x out = record { answer = Answers.refused 12; bytes = out }
showing (found s) x out = record { answer = resent s.ticket; bytes = renewed s.header x ++ drop header_size out }

abbrev pub ResentStays : Option ℕ → List ℕ → List ℕ → Type 0
ResentStays None o o' = o' ≡ o
ResentStays (Some t) o o' = Unit {0}

-- Of any ledger the output keeps its length, and its bytes from 48 on.
pub record Resends (c : ℕ) (l : Ledger) (n : ℕ) (x : Renewal) (ss : Statuses) (out : List ℕ) (r : Option ℕ) (out' : List ℕ) : Type 0 where
  pub meets : (b : LedgerBook) → Agrees c l ss b → ◌≡◌ {A = Showing} (record { answer = resent_answer r; bytes = out' }) (showing (status_of b n) x out)
  pub stays : ResentStays r out out'
  pub out_size : length out' ≡ length out
  pub out_rest : drop header_size out' ≡ drop header_size out
