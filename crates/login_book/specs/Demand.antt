-- Demand 2 of the login phase, part by part, of a list of requests and answers from a fresh login. Which rule refuses a request, and what it is answered
-- otherwise, stands in Rules; what a list of events says by itself, in Events. The theorem that gives it, for every list of calls of the function
-- itself, is `demand2` in login/proofs/Tied.
use Rattle.std.specs.Prelude.{ℕ, suc, ◌<◌, ◌≤◌, Bool, true, false, not, ◌&&◌, ◌||◌, ◌≡◌, ◌↔◌, ◌⊎◌, length, drop, eqb, Result, Ok, Err}
use mathlib.Core.List.{List, [], ◌∷◌, ◌++◌, Memᴰ}
use Rattle.request_header.specs.declared.Login.{Login}
use Rattle.text.specs.Text.{pick, same}
use Rattle.text_block.specs.Block.{Pair}
use Rattle.key_table.specs.Table.{key_of, row_at}
use Rattle.key_values.specs.Settle.{settling, In}
use Rattle.key_values.specs.declared.value.Reply.{Reply}
use Rattle.key_values.specs.declared.value.Judgement.{Judgement}
use Rattle.key_values.specs.declared.value.Judgement.TheVariants as J
use Rattle.login_book.specs.Book.{Stage, start, in_stage, permitted, stage_of, LoginBook}
use Rattle.login_book.specs.Login.{Answer, refused, answered}
use Rattle.login_book.specs.Events.{Event, Reading, a_login, unread, read_as, accepted, is_six, names3, text_of, over_in, offers_of, offers_in, book_in}
use Rattle.login_book.specs.Rules.{Permitted, Accepts, Refuses, HasFields, Gathers}

-- ---- stages

-- CSG is the stage; at start, one that a login may start in
abbrev pub csg_fits : Stage → ℕ → Bool
csg_fits start csg = permitted start csg
csg_fits (in_stage stage) csg = eqb csg stage

-- the stage after an answer
abbrev pub stage_then : Stage → Answer → Stage
stage_then from (refused n s) = from
stage_then from (answered stage transit csg nsg tsih text) = in_stage stage

-- an answer goes on from a stage by permitted steps: its CSG is the stage, and with T set the step to NSG is permitted and NSG the stage after it
abbrev pub stage_goes_on : Stage → Answer → Bool
stage_goes_on from (refused n s) = true
stage_goes_on from (answered stage transit csg nsg tsih text) = csg_fits from csg && pick transit (permitted (in_stage csg) nsg && eqb stage nsg) (eqb stage csg)

-- the stages of the answers are a path of permitted steps
abbrev pub is_path : Stage → List Event → Bool
is_path from [] = true
is_path from (e ∷ es) = stage_goes_on from e.answer && is_path (stage_then from e.answer) es

-- ---- full feature phase

-- the stage that a request's step begins in: the login's, at start the request's CSG where a login may start in it
abbrev pub step_from : Stage → ℕ → Stage
step_from start csg = pick (permitted start csg) (in_stage csg) start
step_from (in_stage stage) csg = in_stage stage

-- the request names it by a permitted step: it is read as a Login with T set and NSG 3, and from the stage the login is in the step to 3 is permitted
abbrev pub asks3 : Stage → Reading → Bool
asks3 stage (unread n) = false
asks3 stage (a_login q d) = (q.transit && eqb q.nsg 3) && permitted (step_from stage q.csg) 3

-- it is entered: the login is over and was not refused
abbrev pub enters : Event → Bool
enters e = e.left.over && accepted e.answer

-- it was entered in one of these events; in how many
abbrev pub entered : List Event → Bool
entered [] = false
entered (e ∷ es) = enters e || entered es

abbrev pub entries : List Event → ℕ
entries [] = 0
entries (e ∷ es) = pick (enters e) (suc (entries es)) (entries es)

abbrev pub is_full : Stage → Bool
is_full start = false
is_full (in_stage stage) = eqb stage 3

-- ---- settled values

-- what is in force after an offer
abbrev pub taken : ℕ → Result Judgement ℕ → ℕ
taken x (Err status) = x
taken x (Ok (J.Said r)) = x
taken x (Ok (J.Settles n r)) = n

-- the value of the key of this name after pairs, x before them: only that key's own offers count, each settled with ours alone
abbrev pub value_after : List ℕ → ℕ → List Pair → ℕ
value_after n x [] = x
value_after n x (p ∷ ps) = value_after n (pick (same n p.name) (taken x (Ok (settling (row_at (key_of n)) p.value))) x) ps

-- the key of this name is among the pairs
abbrev pub is_offered : List ℕ → List Pair → Bool
is_offered n [] = false
is_offered n (p ∷ ps) = same n p.name || is_offered n ps

-- ---- one request, on a login of which b is the book

pub record Promised (b : LoginBook) (e : Event) : Type 0 where
  -- it is answered exactly when its PDU reads as a Login and no rule refuses
  pub answers : (accepted e.answer ≡ true) ↔ Accepts b e.call
  -- CSG, T, NSG, TSIH, stage and text as the rules say, and the gather area after it
  pub fields : (q : Login) (d : List ℕ) → read_as e.call.pdu ≡ a_login q d → HasFields b e.call q d e.answer
  pub gathers : (q : Login) (d : List ℕ) → read_as e.call.pdu ≡ a_login q d → accepted e.answer ≡ true → Gathers b e.call q d e.gather
  -- it is refused exactly when a rule refuses, with that rule's number and, for 6, status; every earlier rule is kept then
  pub refusals : (n s : ℕ) → (e.answer ≡ refused n s) ↔ Refuses b e.call n s
  -- full feature phase is entered exactly when request and answer both name it, by a permitted step from the stage the login was in
  pub full_feature : enters e ≡ (asks3 (stage_of b.phase) (read_as e.call.pdu) && names3 e.answer)
  -- the answer goes on by permitted steps, and the login's stage is the one that it shows
  pub step : stage_goes_on (stage_of b.phase) e.answer ≡ true
  pub stage : stage_of e.left.phase ≡ stage_then (stage_of b.phase) e.answer
  -- a refusal leaves every lent byte; each but 6 leaves the login too
  pub bytes_stay : accepted e.answer ≡ false → (e.gather ≡ e.call.gather) × (e.text ≡ e.call.text)
  pub login_stays : accepted e.answer ≡ false → is_six e.answer ≡ false → e.left ≡ b
  -- 6 ends the login, and nothing else does but full feature phase
  pub ended_by : b.over ≡ false → e.left.over ≡ (is_six e.answer || enters e)
  -- the answer's text stands at the front of the text output, what is behind it stays, and it never has more than 5,015 bytes
  pub text_front : e.text ≡ text_of e.answer ++ drop (length (text_of e.answer)) e.call.text
  pub text_short : length (text_of e.answer) ≤ 5015
  -- a key's value in force changes by that key's own offers alone
  pub values : (n : List ℕ) → key_of n < 12 → e.left.keys.value n ≡ value_after n (b.keys.value n) (offers_of b.gathered e)
  -- and a known key came by its own offers alone
  pub came : (n : List ℕ) → e.left.keys.came n ≡ ((not (eqb (key_of n) 28) && is_offered n (offers_of b.gathered e)) || b.keys.came n)

-- ---- a whole login

-- an event after those of past, the newest first
pub record Sentences (past : List Event) (e : Event) : Type 0 where
  -- the rules of one request, on the login that the list so far says
  pub request : Promised (book_in past) e
  -- the login that it leaves is the one that the list says then
  pub left : e.left ≡ book_in (e ∷ past)
  -- the stage is 3 exactly when full feature phase was entered
  pub full_stage : is_full (stage_of e.left.phase) ≡ entered (e ∷ past)
  -- after that, or after a 6, every answer is BUFFER or CLOSED
  pub over : over_in past ≡ true → (e.answer ≡ refused 1 0) ⊎ (e.answer ≡ refused 8 0)
  -- a key's value in force is what that key's own offers made of its standard value; a known key came exactly when it was offered
  pub history : (n : List ℕ) → key_of n < 12 → e.left.keys.value n ≡ value_after n (row_at (key_of n)).standard (offers_in (e ∷ past))
  pub came : (n : List ℕ) → e.left.keys.came n ≡ (not (eqb (key_of n) 28) && is_offered n (offers_in (e ∷ past)))

-- what holds of each event of a list, in the order of the requests, with those before it, the newest first
abbrev pub Each : (List Event → Event → Type 0) → List Event → List Event → Type 0
Each P past [] = Unit {0}
Each P past (e ∷ es) = P past e × Each P (e ∷ past) es

-- Demand 2 of the events of a login from its start
pub record Demand2 (es : List Event) : Type 0 where
  pub each : Each Sentences [] es
  -- full feature phase is entered at most once
  pub once : entries es ≤ 1
  -- the stages of the answers are a path of permitted steps from the start, and these steps are permitted and no other
  pub path : is_path start es ≡ true
  pub steps : (from : Stage) (to : ℕ) → (permitted from to ≡ true) ↔ Permitted from to
  -- without an offer of its own a key's value stays
  pub until_offered : (n : List ℕ) (x : ℕ) (ps : List Pair) → ((p : Pair) → Memᴰ p ps → p.name ≡ n → ⊥) → value_after n x ps ≡ x
  -- a settled value is within its range
  pub range : (k : ℕ) → k < 12 → (v : List ℕ) (n : ℕ) (r : Reply) → settling (row_at k) v ≡ J.Settles n r → In (row_at k).low (row_at k).high n
