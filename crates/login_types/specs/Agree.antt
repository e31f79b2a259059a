-- How the code's struct of a login stands for the book, what the code's answer says, and what a refusal leaves of the struct itself.
use Rattle.std.specs.Prelude.{ℕ, ◌≡◌, true, false, List, get_or, take, eqb, Result, Ok, Err}
use Rattle.refusal.specs.Refusal.{number, status}
use Rattle.refusal.specs.declared.Refusal.{Refusal}
use Rattle.text.specs.Text.{pick}
use Rattle.key_table.specs.Table.{key_of, none_seen}
use Rattle.key_table.specs.declared.parameters.Settled.{Settled}
use Rattle.login_book.specs.Keys.{Keys}
use Rattle.login_book.specs.Book.{Phase, at_start, begun, LoginBook, fresh_book}
use Rattle.login_book.specs.Login.{Answer, refused, answered, Outcome}
use Rattle.login_types.specs.declared.state.State.{State}
use Rattle.login_types.specs.declared.state.Step.{Step}
use Rattle.login_types.specs.declared.state.Accepted.{Accepted}

-- ---- the struct and the book

-- a key is at its place among the known keys, its value at the same place
abbrev pub keys_of : Settled → Keys
keys_of s = record { came = λ (n : List ℕ). get_or s.seen (key_of n) false; value = λ (n : List ℕ). get_or s.parameters.values (key_of n) 0 }

-- stage, ISID, TSIH and CID say nothing before a request was not refused
abbrev pub phase_of : State → Phase
phase_of l = pick l.begun (begun l.stage l.isid l.tsih l.cid) at_start

abbrev pub book_of : State → LoginBook
book_of l = record { over = l.over; phase = phase_of l; judged = l.judged; keys = keys_of l.settled; gathered = l.gathered }

-- what the code's answer says, of what the text output holds then
abbrev pub answer_of : Result Accepted Refusal → List ℕ → Answer
answer_of (Err f) t = refused (number f) (status f)
answer_of (Ok a) t = answered a.stage a.transit a.csg a.nsg a.tsih (take a.length t)

-- ---- a fresh login

unfoldable pub fresh_login : State
fresh_login = record { over = false; begun = false; judged = false; stage = 0; isid = 0; tsih = 0; cid = 0; gathered = 0; settled = none_seen }

pub record IsFresh (l : State) : Type 0 where
  pub book : book_of l ≡ fresh_book
  pub struct : l ≡ fresh_login

-- ---- after a request

-- 6 ends that login: the struct stays but for that
abbrev pub ended_state : State → State
ended_state l = record { over = true; begun = l.begun; judged = l.judged; stage = l.stage; isid = l.isid; tsih = l.tsih; cid = l.cid; gathered = l.gathered; settled = l.settled }

-- A refusal leaves the very struct, also where it says nothing of the book; after an answer the book says all of it.
abbrev pub Stays : Result Accepted Refusal → State → State → Type 0
Stays (Err f) l m = m ≡ pick (eqb (number f) 6) (ended_state l) l
Stays (Ok a) l m = Unit {0}

-- the contract of a request on the login l: the step r, with what the gather area and the text output hold after it, is the outcome o
pub record Answers (l : State) (r : Step) (g t : List ℕ) (o : Outcome) : Type 0 where
  pub outcome : ◌≡◌ {A = Outcome} (record { book = book_of r.state; answer = answer_of r.answer t; gather = g; text = t }) o
  pub stays : Stays r.answer l r.state
