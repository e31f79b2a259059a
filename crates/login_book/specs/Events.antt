-- A login as a list of requests with their answers, and what that list says by itself: whether the login is over, its stage and its first request,
-- whether a block was judged, how many bytes are gathered, which keys came with which values. The rules of a request's answer are not used here.
use Rattle.std.specs.Prelude.{ℕ, ◌+◌, Bool, true, false, not, ◌&&◌, ◌||◌, List, [], ◌∷◌, ◌++◌, length, take, eqb, Result, Ok, Err}
use Rattle.request_header.specs.Request.{read_pdu, limits, data_of}
use Rattle.request_header.specs.Request as Read
use Rattle.request_header.specs.Kind.{if_login}
use Rattle.request_header.specs.declared.Login.{Login}
use Rattle.text.specs.Text.{pick}
use Rattle.text_block.specs.Block.{Pair, pairs}
use Rattle.key_replies.specs.Answer.{said_text}
use Rattle.key_values.specs.declared.value.Judgement.{Judgement}
use Rattle.login_book.specs.Keys.{Keys, none_came, after}
use Rattle.login_book.specs.Book.{Phase, at_start, begun, LoginBook}
use Rattle.login_book.specs.Block.{judge_pair}
use Rattle.login_book.specs.Login.{Answer, refused, answered, Outcome, login_step}

-- ---- requests and answers

-- what a request is given, with what the lent areas hold at that call
pub record Call : Type 0 where
  pub pdu : List ℕ
  pub live : ℕ
  pub new : ℕ
  pub ours : List ℕ
  pub gather : List ℕ
  pub text : List ℕ

-- a request with its answer, what the lent areas hold after it, and the login that it left
pub record Event : Type 0 where
  pub call : Call
  pub answer : Answer
  pub gather : List ℕ
  pub text : List ℕ
  pub left : LoginBook

abbrev pub event : Call → Outcome → Event
event c o = record { call = c; answer = o.answer; gather = o.gather; text = o.text; left = o.book }

-- the events of a list of requests by the rules of login_book's Login, each on the login that the last left
abbrev pub step_of : LoginBook → Call → Outcome
step_of b c = login_step b c.pdu c.live c.new c.ours c.gather c.text

abbrev pub events_of : LoginBook → List Call → List Event
events_of b [] = []
events_of b (c ∷ cs) = event c (step_of b c) ∷ events_of (step_of b c).book cs

abbrev pub calls_of : List Event → List Call
calls_of [] = []
calls_of (e ∷ es) = e.call ∷ calls_of es

-- the login after a list of events, b before it
abbrev pub left_after : LoginBook → List Event → LoginBook
left_after b [] = b
left_after b (e ∷ es) = left_after e.left es

-- ---- what a PDU is to a login

-- a Login with its data; or what refuses it: reading's own number, and FIELD for a PDU that is no Login
pub data Reading : Type 0 where
  unread : ℕ → Reading
  a_login : Login → List ℕ → Reading

abbrev pub read_by : Read.Answer → List ℕ → Reading
read_by (Read.refused n) pdu = unread n
read_by (Read.got p) pdu = if_login (λ q. a_login q (data_of pdu p)) (unread 3) p.request

abbrev pub read_as : List ℕ → Reading
read_as pdu = read_by (read_pdu limits pdu) pdu

abbrev pub on_login {ℓ} : {A : Type ℓ} → (Login → List ℕ → A) → A → Reading → A
on_login f x (unread n) = x
on_login f x (a_login q d) = f q d

-- ---- what an answer says

-- the request was not refused
abbrev pub accepted : Answer → Bool
accepted (refused n s) = false
accepted (answered stage transit csg nsg tsih text) = true

abbrev pub is_six : Answer → Bool
is_six (refused n s) = eqb n 6
is_six (answered stage transit csg nsg tsih text) = false

-- it names full feature phase: T set and NSG 3
abbrev pub names3 : Answer → Bool
names3 (refused n s) = false
names3 (answered stage transit csg nsg tsih text) = transit && eqb nsg 3

abbrev pub text_of : Answer → List ℕ
text_of (refused n s) = []
text_of (answered stage transit csg nsg tsih text) = text

-- ---- pairs, each judged after those before it

abbrev pub is_refused : Result Judgement ℕ → Bool
is_refused (Err status) = true
is_refused (Ok j) = false

module _ (stage : ℕ) (leading : Bool) (ours : List ℕ) where
  -- no pair is refused
  abbrev pub unrefused : Keys → List Pair → Bool
  unrefused s [] = true
  unrefused s (p ∷ ps) = not (is_refused (judge_pair stage leading ours s p)) && unrefused (after s p.name (judge_pair stage leading ours s p)) ps

  -- the keys after them
  abbrev pub keys_after : Keys → List Pair → Keys
  keys_after s [] = s
  keys_after s (p ∷ ps) = keys_after (after s p.name (judge_pair stage leading ours s p)) ps

  -- Answers stand in offer order.
  abbrev pub replies : Keys → List Pair → List ℕ
  replies s [] = []
  replies s (p ∷ ps) = said_text p.name (judge_pair stage leading ours s p) ++ replies (after s p.name (judge_pair stage leading ours s p)) ps

-- ---- what a list of events says, the newest first

-- x, or where the newest request e was not refused, f of the Login that it is and of its data
abbrev pub if_answered {ℓ} : {A : Type ℓ} → Event → A → (Login → List ℕ → A) → A
if_answered e x f = pick (accepted e.answer) (on_login f x (read_as e.call.pdu)) x

-- over: refused with 6, or in full feature phase
abbrev pub over_in : List Event → Bool
over_in [] = false
over_in (e ∷ past) = (is_six e.answer || names3 e.answer) || over_in past

-- ISID, TSIH and CID are those of the first request that was not refused; the stage is the one that the last answer went to
abbrev pub since : Phase → Answer → Login → Phase
since x (refused n s) q = x
since at_start (answered stage transit csg nsg tsih text) q = begun stage q.isid q.tsih q.cid
since (begun was isid tsih cid) (answered stage transit csg nsg tsih₁ text) q = begun stage isid tsih cid

abbrev pub phase_in : List Event → Phase
phase_in [] = at_start
phase_in (e ∷ past) = if_answered e (phase_in past) (λ q d. since (phase_in past) e.answer q)

-- a block was judged: a request without C was answered
abbrev pub judged_in : List Event → Bool
judged_in [] = false
judged_in (e ∷ past) = if_answered e (judged_in past) (λ q d. not q.continues || judged_in past)

-- With C set the text is gathered; after judging none counts as gathered.
abbrev pub gathered_in : List Event → ℕ
gathered_in [] = 0
gathered_in (e ∷ past) = if_answered e (gathered_in past) (λ q d. pick q.continues (gathered_in past + length d) 0)

-- the block judged: the request's own data d if nothing was gathered; the n gathered bytes, as the area g holds them, and d otherwise
abbrev pub block_of : ℕ → List ℕ → List ℕ → List ℕ
block_of n d g = pick (eqb n 0) d (take n g ++ d)

-- the pairs that a request settles: none where it is refused, or gathered
abbrev pub offers_of : ℕ → Event → List Pair
offers_of n e = if_answered e [] (λ q d. pick q.continues [] (pairs 64 (block_of n d e.call.gather)))

abbrev pub offers_in : List Event → List Pair
offers_in [] = []
offers_in (e ∷ past) = offers_in past ++ offers_of (gathered_in past) e

-- the keys that came, with their values
abbrev pub keys_in : List Event → Keys
keys_in [] = none_came
keys_in (e ∷ past) = if_answered e (keys_in past) (λ q d. keys_after q.csg (eqb q.tsih 0) e.call.ours (keys_in past) (offers_of (gathered_in past) e))

-- the whole
abbrev pub book_in : List Event → LoginBook
book_in past = record { over = over_in past; phase = phase_in past; judged = judged_in past; keys = keys_in past; gathered = gathered_in past }
