-- The contract of the session's calls for C: the words of a session before and after a call, the words of its answer, and what it lent.
use Rattle.std.specs.Prelude.{ℕ, ◌≡◌, List, Result, Ok, Err}
use Rattle.window.specs.Agree.{Commands}
use Rattle.window.specs.declared.Window.{Window}
use Rattle.ledger.specs.Agree.{Statuses}
use Rattle.ledger.specs.declared.Ledger.{Ledger}
use Rattle.response_header.specs.declared.Response.{Response}
use Rattle.task_book.specs.Record.{Record}
use Rattle.book.specs.declared.Given.{Given}
use Rattle.book.specs.declared.Opening.{Opening}
use Rattle.book.specs.Book.{Book, Outputs, Call, offer, take, logout, opening, send, acknowledge, lent, Answer, refused, immediate, opened, window, sent, acknowledged, run, resent, moved, told, Step, refuse, lending, on_connection}
use Rattle.session_state.specs.Agree.{State, state, Agrees, IsFresh, Did}
use Rattle.session_state.specs.declared.Conn.{Conn}
use Rattle.session_connections.specs.declared.Closes.{Closes}
use Rattle.response_words.specs.ResponseWords.{unfit_refusal}
use Rattle.response_words.specs.declared.Unfit.{Unfit}
use Rattle.session_words.specs.State.{session_of, window_maps, session_numbers}
use Rattle.session_changes.specs.Changes.{window_numbers, ledger_numbers, conn_numbers, shut_numbers}
use Rattle.answer_words.specs.Answer.{answer_words}

-- ---- a session between calls

-- All that C keeps of a session, and lends to its calls: 15 numbers, 6 maps, and the arrays of commands and statuses.
pub record SessionWords : Type 0 where
  pub numbers : List ℕ
  pub maps : List ℕ
  pub commands : Commands
  pub statuses : Statuses

abbrev pub session_words : List ℕ → List ℕ → Commands → Statuses → SessionWords
session_words n m k ss = record { numbers = n; maps = m; commands = k; statuses = ss }

abbrev pub state_of : SessionWords → State
state_of w = state (session_of w.numbers w.maps) w.commands w.statuses

-- A fresh session, all of whose words are written.
pub record FreshWords (g : Given) (w : SessionWords) : Type 0 where
  pub fresh : IsFresh g (state_of w)
  pub numbers : w.numbers ≡ session_numbers (state_of w).session
  pub maps : w.maps ≡ window_maps (state_of w).session.window

-- ---- a call

-- The numbers and maps that a call writes: none, or those of what is new. Calls that are not named here write none.
pub data Writes : Call → (n m n' m' : List ℕ) → Type 0 where
  nothing : {call : Call} {n m : List ℕ} → Writes call n m n m
  by_offer : {c t : ℕ} {p n m : List ℕ} (w : Window) → Writes (offer c t p) n m (window_numbers w n) (window_maps w)
  by_take : {o : Outputs} {n m : List ℕ} (w : Window) → Writes (take o) n m (window_numbers w n) (window_maps w)
  by_logout : {c r : ℕ} {n m : List ℕ} (w : Window) (k : Closes) → Writes (logout c r) n m (shut_numbers k c (window_numbers w n)) (window_maps w)
  by_opening : {c : ℕ} {g : Opening} {n m : List ℕ} (k : Conn) → Writes (opening c g) n m (conn_numbers c k n) m
  by_send : {c t : ℕ} {r : Response} {x : Record} {o : Outputs} {n m : List ℕ} (l : Ledger) → Writes (send c t r x o) n m (ledger_numbers c l n) m
  by_acknowledge : {c e : ℕ} {n m : List ℕ} (l : Ledger) → Writes (acknowledge c e) n m (ledger_numbers c l n) m

-- "A refusal .. changes nothing": every lent word and byte is the one that was lent.
abbrev pub LeavesWords : Answer → (s s' : SessionWords) → (l o : Outputs) → Type 0
LeavesWords (refused n) s s' l o = (s' ≡ s) × (o ≡ l)
LeavesWords immediate s s' l o = Unit {0}
LeavesWords opened s s' l o = Unit {0}
LeavesWords (window a) s s' l o = Unit {0}
LeavesWords (sent n) s s' l o = Unit {0}
LeavesWords (acknowledged n) s s' l o = Unit {0}
LeavesWords (run f n) s s' l o = Unit {0}
LeavesWords (resent t) s s' l o = Unit {0}
LeavesWords (moved a x) s s' l o = Unit {0}
LeavesWords (told r) s s' l o = Unit {0}

-- The contract of every call: it did as the session does, the words w are its answer's, and of the session's words it wrote what it says.
pub record Said (call : Call) (s : SessionWords) (w : List ℕ) (o : Outputs) (s' : SessionWords) : Type 0 where
  pub answer : Answer
  pub did : Did call (state_of s) answer o (state_of s')
  pub words : w ≡ answer_words answer
  pub writes : Writes call s.numbers s.maps s'.numbers s'.maps
  pub stays : LeavesWords answer s s' (lent call) o

-- ---- a send whose words are no response

-- In the order of a send: BUFFER, NOCONN, CLOSED, then writing's refusal of the words, by the data length that they state.
unfoldable pub unfit_step : Book → (connection stated : ℕ) → Outputs → Step
unfit_step b c d o = lending b o (on_connection b c o (λ k. refuse (unfit_refusal k.longest d) o b))

-- It is refused as the book has it, and every lent word and byte stays.
pub record SaidUnfit (c d : ℕ) (l : Outputs) (s : SessionWords) (w : List ℕ) (o : Outputs) (s' : SessionWords) : Type 0 where
  pub number : ℕ
  pub meets : (b : Book) → Agrees (state_of s) b → unfit_step b c d l ≡ refuse number l b
  pub words : w ≡ answer_words (refused number)
  pub stays : (s' ≡ s) × (o ≡ l)

-- ---- what C asks

-- A call of the book; or a send whose words are no response, with the data length that they state.
pub data Asked : Type 0 where
  calls : Call → Asked
  sends_unfit : (connection stated : ℕ) → (out : Outputs) → Asked

-- What a send asks, by what its words are, with the record that it is given.
abbrev pub sends : Result Response Unfit → (connection ticket : ℕ) → Record → (out : Outputs) → Asked
sends (Ok r) c t x o = calls (send c t r x o)
sends (Err u) c t x o = sends_unfit c u.stated o

-- The contract of each.
abbrev pub SaidBy : Asked → SessionWords → List ℕ → Outputs → SessionWords → Type 0
SaidBy (calls c) s w o s' = Said c s w o s'
SaidBy (sends_unfit c d l) s w o s' = SaidUnfit c d l s w o s'
