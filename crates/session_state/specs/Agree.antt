-- How the code's session, with the arrays lent to it, stands for the book; and the contract that all calls share, `Did`.
use Rattle.std.specs.Prelude.{ℕ, ◌*◌, ◌<◌, ◌≡◌, Bool, true, false, length, get_or, replicate}
use Rattle.std.proofs.Math.ListN as ListN
use Rattle.request_header.specs.Request.{limits}
use Rattle.response_header.specs.Response.{max_data_length}
use Rattle.store.specs.Slot.{header_size}
use Rattle.window.specs.Agree as WA
use Rattle.window.specs.Agree.{Commands}
use Rattle.window.specs.PlaceSlot.{slots}
use Rattle.window.specs.Book as W
use Rattle.ledger.specs.Agree as LA
use Rattle.ledger.specs.Agree.{Statuses, ledger_slots}
use Rattle.ledger.specs.Book.{is_status}
use Rattle.book.specs.declared.Given.{Given}
use Rattle.book.specs.Book.{connections, OpenConnection, Connection, closed, live, Book, fresh_book, Outputs, lent, Call, offer, take, logout, opening, send, acknowledge, snack, resend, transfer, ask, Answer, refused, immediate, opened, window, sent, acknowledged, run, resent, moved, told, choice_of, cmd_sn_of, book_step}
use Rattle.session_state.specs.declared.Conn.{Conn}
use Rattle.session_state.specs.declared.Session.{Session}
use Rattle.session_state.specs.After.{conn_at}

-- ---- the state

-- The struct and the arrays together: those of the window's commands, and those of the statuses.
pub record State : Type 0 where
  pub session : Session
  pub commands : Commands
  pub statuses : Statuses

abbrev pub state : Session → Commands → Statuses → State
state s k ss = record { session = s; commands = k; statuses = ss }

-- The connection c is open and stands for k. The limits of reading and writing are the constants of the code.
pub record OpenAgrees (c : ℕ) (x : Conn) (ss : Statuses) (k : OpenConnection) : Type 0 where
  pub is_open : x.is_open ≡ true
  pub limits : k.limits ≡ limits
  pub longest : k.longest ≡ max_data_length
  pub ledger : LA.Agrees c x.ledger ss k.ledger

unfoldable pub ConnAgrees : ℕ → Conn → Statuses → Connection → Type 0
ConnAgrees c x ss closed = x.is_open ≡ false
ConnAgrees c x ss (live k) = OpenAgrees c x ss k

pub record Agrees (s : State) (b : Book) : Type 0 where
  pub level : s.session.level ≡ b.given.level
  pub window : WA.Agrees (WA.state s.session.window s.commands) b.window
  pub conns_size : length s.session.conns ≡ connections
  pub book_size : length b.conns ≡ connections
  pub statuses_size : length s.statuses.headers ≡ ledger_slots * header_size
  pub tickets_size : length s.statuses.tickets ≡ ledger_slots
  pub conns : (c : ℕ) → c < connections → ConnAgrees c (conn_at s.session c) s.statuses (get_or b.conns c closed)

-- A fresh session: it stands for the fresh book, and "keeps 64 headers of 48 bytes, all zero".
pub record IsFresh (g : Given) (s : State) : Type 0 where
  pub agrees : Agrees s (fresh_book g)
  pub zero_headers : s.commands.headers ≡ replicate (slots * header_size) 0
  pub zero_tickets : s.commands.tickets ≡ replicate slots 0
  pub zero_statuses : s.statuses.headers ≡ replicate (ledger_slots * header_size) 0
  pub zero_status_tickets : s.statuses.tickets ≡ replicate ledger_slots 0

-- ---- what a call does

-- The step of the code, from s to s' with the answer a and the outputs o, is the book's; where the choice is the program's, by the
-- answer.
pub record MeetsAt (call : Call) (s : State) (a : Answer) (o : Outputs) (s' : State) (b : Book) : Type 0 where
  pub answer : a ≡ (book_step b call (choice_of a)).answer
  pub out : o ≡ (book_step b call (choice_of a)).out
  pub agrees : Agrees s' (book_step b call (choice_of a)).book

abbrev pub Meets : Call → State → Answer → Outputs → State → Type 0
Meets call s a o s' = (b : Book) → Agrees s b → MeetsAt call s a o s' b

-- The bytes of the arrays that an offer changes where it is kept, and a send where it is a status: those of one slot. (The number of a
-- kept offer is its own; n is the StatSN of a send, and o the outputs after it.)
abbrev pub Stored : Bool → (c n t : ℕ) → Outputs → State → State → Type 0
Stored true c n t o s s' = LA.Puts c n t (ListN.take header_size o.header) s.statuses s'.statuses
Stored false c n t o s s' = s' ≡ s

abbrev pub Changes : Call → (n : ℕ) → Outputs → State → State → Type 0
Changes (offer c t p) n o s s' = WA.Puts s.session.window (cmd_sn_of p) t (ListN.take header_size p) s.commands s'.commands
Changes (take x) n o s s' = Unit {0}
Changes (logout c r) n o s s' = Unit {0}
Changes (opening c g) n o s s' = Unit {0}
Changes (send c t r y x) n o s s' = Stored (is_status r) c n t o s s'
Changes (acknowledge c e) n o s s' = Unit {0}
Changes (snack c p) n o s s' = Unit {0}
Changes (resend c m y x) n o s s' = Unit {0}
Changes (transfer c y d) n o s s' = Unit {0}
Changes (ask q) n o s s' = Unit {0}

-- What an answer leaves as it was, of whatever state, also of one that stands for no book: a refusal leaves all, an answer
-- that only shows something leaves the state, a void hand-out leaves the outputs. Arrays that a call doesn't lend stay.
abbrev pub WindowStays : Call → W.Answer → State → State → Outputs → Outputs → Type 0
WindowStays call W.kept s s' l o = Changes call 0 o s s'
WindowStays call W.duplicate s s' l o = s' ≡ s
WindowStays call W.passed s s' l o = s' ≡ s
WindowStays call W.beyond s s' l o = s' ≡ s
WindowStays call W.nothing s s' l o = (s' ≡ s) × (o ≡ l)
WindowStays call (W.command n t w) s s' l o = Unit {0}
WindowStays call (W.void n) s s' l o = o ≡ l
WindowStays call (W.logged_out e v) s s' l o = Unit {0}
WindowStays call (W.refused n) s s' l o = (s' ≡ s) × (o ≡ l)

abbrev pub Stays : Call → Answer → State → State → Outputs → Outputs → Type 0
Stays call (refused n) s s' l o = (s' ≡ s) × (o ≡ l)
Stays call immediate s s' l o = s' ≡ s
Stays call opened s s' l o = Unit {0}
Stays call (window a) s s' l o = WindowStays call a s s' l o
Stays call (sent n) s s' l o = Changes call n o s s'
Stays call (acknowledged n) s s' l o = Unit {0}
Stays call (run f n) s s' l o = s' ≡ s
Stays call (resent t) s s' l o = s' ≡ s
Stays call (moved a x) s s' l o = s' ≡ s
Stays call (told r) s s' l o = s' ≡ s

-- Of whatever state, the lent output keeps its length, and its bytes from 48 on: a header goes "into the first 48 bytes of the lent
-- buffer; later bytes stay".
pub record KeepsLent (l o : Outputs) : Type 0 where
  pub size : length o.header ≡ length l.header
  pub rest : ListN.drop header_size o.header ≡ ListN.drop header_size l.header

-- The contract of every call.
pub record Did (call : Call) (s : State) (a : Answer) (o : Outputs) (s' : State) : Type 0 where
  pub meets : Meets call s a o s'
  pub stays : Stays call a s s' (lent call) o
  pub keeps : KeepsLent (lent call) o
