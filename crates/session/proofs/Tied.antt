-- Demand 3 of the functions themselves. `Learnt` is a function's contract as a caller learns it of one call, so a history of
-- `Called` is one of the functions, and what is proved of it breaks where a contract says less.
use Prim.Native.Nat.{ℕ}
use mathlib.Core.List.{List, [], ◌∷◌}
use mathlib.Core.Path.{◌≡◌, sym, subst}
use contract.Lifetimes
use borrow.Fn.Kinds as K
use denote.Triple.Clauses.{AtExit}
use Rattle.window.specs.Agree.{Commands}
use Rattle.window.specs.Agree as WA
use Rattle.request_header.specs.Request.{length_answer_of}
use Rattle.ledger.specs.Agree.{Statuses, statuses_in}
use Rattle.task_book.specs.declared.TaskGiven.{TaskGiven}
use Rattle.task_book.specs.Record.{Record, making, made}
use Rattle.task_book.specs.History as T
use Rattle.task_book.specs.Sentences.{DataPhases}
use Rattle.task.specs.Agree.{record_of, data_in_step_of, r2t_step_of, data_out_step_of, data_snack_step_of}
use Rattle.book.specs.Book.{Outputs, outputs, no_outputs, Call, offer, take, logout, opening, send, acknowledge, snack, resend, Transfer, data_in, r2t, data_out, data_snack, transfer, ask, Question, window_numbers, next_stat_sn, holder, whole_length, Answer, told, numbers, holding, length_reply, fresh_book}
use Rattle.book.specs.Events.{Event, event, turns_of}
use Rattle.book.specs.Tasks.{OnTask}
use Rattle.book.specs.Demand.{Demand3}
use Rattle.book.proofs.Sentences.{demand3-booked}
use Rattle.book.proofs.Tasks.{tasks-booked}
use Rattle.session_state.specs.Transfer.{transferred}
use Rattle.session_state.specs.Agree.{State, state, Did}
use Rattle.session_state.specs.History.{Ran, Booked, history, Each, Stayed, stayed}
use Rattle.session_commands.specs.Answer.{offer_answer, after_offer, take_answer, after_take}
use Rattle.session_connections.specs.Answer.{open_answer, logout_answer}
use Rattle.session_connections.specs.After.{after_open, after_logout}
use Rattle.session_send.specs.Answer.{send_answer, after_send}
use Rattle.session_statuses.specs.Answer.{acknowledge_answer, after_acknowledge, resend_answer}
use Rattle.session_snack.specs.Answer.{snack_answer}
use Rattle.session_questions.specs.Answer.{next_answer, holder_answer}
use Rattle.session.specs.Fresh.{fresh_state}
use Rattle.session_commands.proofs.offer.Reads as offer-r
use Rattle.session_commands.proofs.offer.Kinds as offer-k
use Rattle.session_commands.proofs.take.Reads as take-r
use Rattle.session_commands.proofs.take.Kinds as take-k
use Rattle.session_connections.proofs.logout.Reads as logout-r
use Rattle.session_connections.proofs.logout.Kinds as logout-k
use Rattle.session_connections.proofs.open_connection.Reads as open-r
use Rattle.session_connections.proofs.open_connection.Kinds as open-k
use Rattle.session_send.proofs.send.Reads as send-r
use Rattle.session_send.proofs.send.Kinds as send-k
use Rattle.session_statuses.proofs.acknowledge.Reads as acknowledge-r
use Rattle.session_statuses.proofs.acknowledge.Kinds as acknowledge-k
use Rattle.session_snack.proofs.snack.Reads as snack-r
use Rattle.session_snack.proofs.snack.Kinds as snack-k
use Rattle.session_statuses.proofs.resend.Reads as resend-r
use Rattle.session_statuses.proofs.resend.Kinds as resend-k
use Rattle.session_data_in.proofs.data_in.Reads as data-in-r
use Rattle.session_data_in.proofs.data_in.Kinds as data-in-k
use Rattle.session_r2t.proofs.r2t.Reads as r2t-r
use Rattle.session_r2t.proofs.r2t.Kinds as r2t-k
use Rattle.session_data_out.proofs.data_out.Reads as data-out-r
use Rattle.session_data_out.proofs.data_out.Kinds as data-out-k
use Rattle.session_data_snack.proofs.data_snack.Reads as data-snack-r
use Rattle.session_data_snack.proofs.data_snack.Kinds as data-snack-k
use Rattle.session_questions.proofs.window_numbers.Reads as numbers-r
use Rattle.session_questions.proofs.window_numbers.Kinds as numbers-k
use Rattle.session_questions.proofs.next_stat_sn.Reads as next-r
use Rattle.session_questions.proofs.next_stat_sn.Kinds as next-k
use Rattle.session_questions.proofs.holder.Reads as holder-r
use Rattle.session_questions.proofs.holder.Kinds as holder-k
use Rattle.session_questions.proofs.whole_length.Reads as length-r
use Rattle.session_questions.proofs.whole_length.Kinds as length-k
use Rattle.session.proofs.fresh.Reads as fresh-r
use Rattle.session.proofs.fresh.Kinds as fresh-k

-- A call on a state, its answer, its outputs and the state after it.
pub record Done : Type 0 where
  pub call : Call
  pub before : State
  pub answer : Answer
  pub out : Outputs
  pub after : State

abbrev pub done : Call → State → Answer → Outputs → State → Done
done c s a o s' = record { call = c; before = s; answer = a; out = o; after = s' }

-- A call of `offer`: a are its arguments, r its result, s its parameters at exit.
pub record ByOffer (d : Done) : Type 1 where
  pub κs : Lifetimes.Lfts 3
  pub a : K.Dens {n = 3} κs offer-k.ps
  pub r : (K.res_t offer-k.r κs).Denot
  pub s : AtExit (K.ended_of 3 offer-k.ps offer-k.r) κs
  pub learnt : offer-r.Learnt κs a r s
  pub statuses : Statuses
  pub is : d ≡ done (offer a.1.0 a.1.1.0 a.1.1.1.0.now)
      (state a.0 (WA.commands a.1.1.1.1.0.now a.1.1.1.1.1.0.now) statuses)
      (offer_answer r) (no_outputs)
      (state (after_offer a.0 r) (WA.commands s.1.1.1.1.0.now s.1.1.1.1.1.0.now) statuses)

-- A call of `take`: a are its arguments, r its result, s its parameters at exit.
pub record ByTake (d : Done) : Type 1 where
  pub κs : Lifetimes.Lfts 3
  pub a : K.Dens {n = 3} κs take-k.ps
  pub r : (K.res_t take-k.r κs).Denot
  pub s : AtExit (K.ended_of 3 take-k.ps take-k.r) κs
  pub learnt : take-r.Learnt κs a r s
  pub statuses : Statuses
  pub is : d ≡ done (take (outputs a.1.1.1.0.now))
      (state a.0 (WA.commands a.1.0.now a.1.1.0.now) statuses)
      (take_answer r) (outputs s.1.1.1.0.now)
      (state (after_take a.0 r) (WA.commands a.1.0.now a.1.1.0.now) statuses)

-- A call of `logout`: a are its arguments, r its result, s its parameters at exit.
pub record ByLogout (d : Done) : Type 1 where
  pub κs : Lifetimes.Lfts 0
  pub a : K.Dens {n = 0} κs logout-k.ps
  pub r : (K.res_t logout-k.r κs).Denot
  pub s : AtExit (K.ended_of 0 logout-k.ps logout-k.r) κs
  pub learnt : logout-r.Learnt κs a r s
  pub commands : Commands
  pub statuses : Statuses
  pub is : d ≡ done (logout a.1.0 a.1.1.0)
      (state a.0 commands statuses)
      (logout_answer r) (no_outputs)
      (state (after_logout a.0 a.1.0 r) commands statuses)

-- A call of `open_connection`: a are its arguments, r its result, s its parameters at exit.
pub record ByOpen (d : Done) : Type 1 where
  pub κs : Lifetimes.Lfts 0
  pub a : K.Dens {n = 0} κs open-k.ps
  pub r : (K.res_t open-k.r κs).Denot
  pub s : AtExit (K.ended_of 0 open-k.ps open-k.r) κs
  pub learnt : open-r.Learnt κs a r s
  pub commands : Commands
  pub statuses : Statuses
  pub is : d ≡ done (opening a.1.0 a.1.1.0)
      (state a.0 commands statuses)
      (open_answer r) (no_outputs)
      (state (after_open a.0 a.1.0 r) commands statuses)

-- A call of `send`: a are its arguments, r its result, s its parameters at exit. tags and ends are the open R2Ts of the record, which it isn't lent.
pub record BySend (d : Done) : Type 1 where
  pub κs : Lifetimes.Lfts 3
  pub a : K.Dens {n = 3} κs send-k.ps
  pub r : (K.res_t send-k.r κs).Denot
  pub s : AtExit (K.ended_of 3 send-k.ps send-k.r) κs
  pub learnt : send-r.Learnt κs a r s
  pub commands : Commands
  pub tags : List ℕ
  pub ends : List ℕ
  pub is : d ≡ done (send a.1.0 a.1.1.0 a.1.1.1.0 (record_of a.1.1.1.1.0 tags ends) (outputs a.1.1.1.1.1.0.now))
      (state a.0 commands (statuses_in a.1.1.1.1.1.1.0.now a.1.1.1.1.1.1.1.0.now))
      (send_answer r) (outputs s.1.1.1.1.1.0.now)
      (state (after_send a.0 a.1.0 r) commands (statuses_in s.1.1.1.1.1.1.0.now s.1.1.1.1.1.1.1.0.now))

-- A call of `acknowledge`: a are its arguments, r its result, s its parameters at exit.
pub record ByAcknowledge (d : Done) : Type 1 where
  pub κs : Lifetimes.Lfts 0
  pub a : K.Dens {n = 0} κs acknowledge-k.ps
  pub r : (K.res_t acknowledge-k.r κs).Denot
  pub s : AtExit (K.ended_of 0 acknowledge-k.ps acknowledge-k.r) κs
  pub learnt : acknowledge-r.Learnt κs a r s
  pub commands : Commands
  pub statuses : Statuses
  pub is : d ≡ done (acknowledge a.1.0 a.1.1.0)
      (state a.0 commands statuses)
      (acknowledge_answer r) (no_outputs)
      (state (after_acknowledge a.0 a.1.0 r) commands statuses)

-- A call of `snack`: a are its arguments, r its result, s its parameters at exit.
pub record BySnack (d : Done) : Type 1 where
  pub κs : Lifetimes.Lfts 1
  pub a : K.Dens {n = 1} κs snack-k.ps
  pub r : (K.res_t snack-k.r κs).Denot
  pub s : AtExit (K.ended_of 1 snack-k.ps snack-k.r) κs
  pub learnt : snack-r.Learnt κs a r s
  pub commands : Commands
  pub statuses : Statuses
  pub is : d ≡ done (snack a.1.0 a.1.1.0.now)
      (state a.0 commands statuses)
      (snack_answer r) (no_outputs)
      (state a.0 commands statuses)

-- A call of `resend`: a are its arguments, r its result, s its parameters at exit.
pub record ByResend (d : Done) : Type 1 where
  pub κs : Lifetimes.Lfts 3
  pub a : K.Dens {n = 3} κs resend-k.ps
  pub r : (K.res_t resend-k.r κs).Denot
  pub s : AtExit (K.ended_of 3 resend-k.ps resend-k.r) κs
  pub learnt : resend-r.Learnt κs a r s
  pub commands : Commands
  pub tags : List ℕ
  pub ends : List ℕ
  pub is : d ≡ done (resend a.1.0 a.1.1.0 (record_of a.1.1.1.0 tags ends) (outputs a.1.1.1.1.1.1.0.now))
      (state a.0 commands (statuses_in a.1.1.1.1.0.now a.1.1.1.1.1.0.now))
      (resend_answer r) (outputs s.1.1.1.1.1.1.0.now)
      (state a.0 commands (statuses_in a.1.1.1.1.0.now a.1.1.1.1.1.0.now))

-- A call of `data_in`: a are its arguments, r its result, s its parameters at exit.
pub record ByDataIn (d : Done) : Type 1 where
  pub κs : Lifetimes.Lfts 1
  pub a : K.Dens {n = 1} κs data-in-k.ps
  pub r : (K.res_t data-in-k.r κs).Denot
  pub s : AtExit (K.ended_of 1 data-in-k.ps data-in-k.r) κs
  pub learnt : data-in-r.Learnt κs a r s
  pub commands : Commands
  pub statuses : Statuses
  pub tags : List ℕ
  pub ends : List ℕ
  pub is : d ≡ done (transfer a.1.0 (record_of a.1.1.0 tags ends)
      (data_in a.1.1.1.0 a.1.1.1.1.0 a.1.1.1.1.1.0 (outputs a.1.1.1.1.1.1.0.now)))
      (state a.0 commands statuses)
      (transferred (data_in_step_of a.1.1.0 tags ends r)) (outputs s.1.1.1.1.1.1.0.now)
      (state a.0 commands statuses)

-- A call of `r2t`: a are its arguments, r its result, s its parameters at exit. It is lent the open R2Ts of the record.
pub record ByR2T (d : Done) : Type 1 where
  pub κs : Lifetimes.Lfts 3
  pub a : K.Dens {n = 3} κs r2t-k.ps
  pub r : (K.res_t r2t-k.r κs).Denot
  pub s : AtExit (K.ended_of 3 r2t-k.ps r2t-k.r) κs
  pub learnt : r2t-r.Learnt κs a r s
  pub commands : Commands
  pub statuses : Statuses
  pub is : d ≡ done (transfer a.1.0 (record_of a.1.1.0 a.1.1.1.1.1.0.now a.1.1.1.1.1.1.0.now)
      (r2t a.1.1.1.0 a.1.1.1.1.0 (outputs a.1.1.1.1.1.1.1.0.now)))
      (state a.0 commands statuses)
      (transferred (r2t_step_of a.1.1.0 s.1.1.1.1.1.0.now s.1.1.1.1.1.1.0.now r)) (outputs s.1.1.1.1.1.1.1.0.now)
      (state a.0 commands statuses)

-- A call of `data_out`: a are its arguments, r its result, s its parameters at exit.
pub record ByDataOut (d : Done) : Type 1 where
  pub κs : Lifetimes.Lfts 3
  pub a : K.Dens {n = 3} κs data-out-k.ps
  pub r : (K.res_t data-out-k.r κs).Denot
  pub s : AtExit (K.ended_of 3 data-out-k.ps data-out-k.r) κs
  pub learnt : data-out-r.Learnt κs a r s
  pub commands : Commands
  pub statuses : Statuses
  pub is : d ≡ done (transfer a.1.0 (record_of a.1.1.0 a.1.1.1.0.now a.1.1.1.1.0.now) (data_out a.1.1.1.1.1.0.now))
      (state a.0 commands statuses)
      (transferred (data_out_step_of a.1.1.0 a.1.1.1.0.now a.1.1.1.1.0.now r)) (no_outputs)
      (state a.0 commands statuses)

-- A call of `data_snack`: a are its arguments, r its result, s its parameters at exit.
pub record ByDataSnack (d : Done) : Type 1 where
  pub κs : Lifetimes.Lfts 1
  pub a : K.Dens {n = 1} κs data-snack-k.ps
  pub r : (K.res_t data-snack-k.r κs).Denot
  pub s : AtExit (K.ended_of 1 data-snack-k.ps data-snack-k.r) κs
  pub learnt : data-snack-r.Learnt κs a r s
  pub commands : Commands
  pub statuses : Statuses
  pub tags : List ℕ
  pub ends : List ℕ
  pub is : d ≡ done (transfer a.1.0 (record_of a.1.1.0 tags ends) (data_snack a.1.1.1.0 a.1.1.1.1.0.now))
      (state a.0 commands statuses)
      (transferred (data_snack_step_of a.1.1.0 tags ends r)) (no_outputs)
      (state a.0 commands statuses)

-- A call of `window_numbers`: a are its arguments, r its result, s its parameters at exit.
pub record ByNumbers (d : Done) : Type 1 where
  pub κs : Lifetimes.Lfts 0
  pub a : K.Dens {n = 0} κs numbers-k.ps
  pub r : (K.res_t numbers-k.r κs).Denot
  pub s : AtExit (K.ended_of 0 numbers-k.ps numbers-k.r) κs
  pub learnt : numbers-r.Learnt κs a r s
  pub commands : Commands
  pub statuses : Statuses
  pub is : d ≡ done (ask window_numbers)
      (state a.0 commands statuses)
      (told (numbers r.exp_cmd_sn r.max_cmd_sn)) (no_outputs)
      (state a.0 commands statuses)

-- A call of `next_stat_sn`: a are its arguments, r its result, s its parameters at exit.
pub record ByNext (d : Done) : Type 1 where
  pub κs : Lifetimes.Lfts 0
  pub a : K.Dens {n = 0} κs next-k.ps
  pub r : (K.res_t next-k.r κs).Denot
  pub s : AtExit (K.ended_of 0 next-k.ps next-k.r) κs
  pub learnt : next-r.Learnt κs a r s
  pub commands : Commands
  pub statuses : Statuses
  pub is : d ≡ done (ask (next_stat_sn a.1.0))
      (state a.0 commands statuses)
      (next_answer r) (no_outputs)
      (state a.0 commands statuses)

-- A call of `holder`: a are its arguments, r its result, s its parameters at exit. It is lent the tickets of the commands alone.
pub record ByHolder (d : Done) : Type 1 where
  pub κs : Lifetimes.Lfts 1
  pub a : K.Dens {n = 1} κs holder-k.ps
  pub r : (K.res_t holder-k.r κs).Denot
  pub s : AtExit (K.ended_of 1 holder-k.ps holder-k.r) κs
  pub learnt : holder-r.Learnt κs a r s
  pub headers : List ℕ
  pub statuses : Statuses
  pub is : d ≡ done (ask (holder a.1.1.0))
      (state a.0 (WA.commands headers a.1.0.now) statuses)
      (told (holding (holder_answer r))) (no_outputs)
      (state a.0 (WA.commands headers a.1.0.now) statuses)

-- A call of `whole_length`: a are its arguments, r its result, s its parameters at exit. It is given nothing of the session.
pub record ByLength (d : Done) : Type 1 where
  pub κs : Lifetimes.Lfts 1
  pub a : K.Dens {n = 1} κs length-k.ps
  pub r : (K.res_t length-k.r κs).Denot
  pub s : AtExit (K.ended_of 1 length-k.ps length-k.r) κs
  pub learnt : length-r.Learnt κs a r s
  pub left : State
  pub is : d ≡ done (ask (whole_length a.0.now)) left (length_reply (length_answer_of r)) (no_outputs) left

-- A question was put to its own function.
abbrev pub PutTo : Question → Done → Type 1
PutTo window_numbers d = ByNumbers d
PutTo (next_stat_sn c) d = ByNext d
PutTo (holder n) d = ByHolder d
PutTo (whole_length p) d = ByLength d

-- A transfer was put to its own function.
abbrev pub MovedBy : Transfer → Done → Type 1
MovedBy (data_in f a n o) d = ByDataIn d
MovedBy (r2t t n o) d = ByR2T d
MovedBy (data_out p) d = ByDataOut d
MovedBy (data_snack o p) d = ByDataSnack d

-- What was done was done by the function of its call: each case of `Call` has its own. The state before and after is the struct and the
-- arrays together; the arrays that a call does not borrow stay ("written by nobody else").
abbrev pub CalledBy : Call → Done → Type 1
CalledBy (offer c t p) d = ByOffer d
CalledBy (take o) d = ByTake d
CalledBy (logout c r) d = ByLogout d
CalledBy (opening c g) d = ByOpen d
CalledBy (send c t r x o) d = BySend d
CalledBy (acknowledge c e) d = ByAcknowledge d
CalledBy (snack c p) d = BySnack d
CalledBy (resend c n x o) d = ByResend d
CalledBy (transfer c x y) d = MovedBy y d
CalledBy (ask q) d = PutTo q d

abbrev pub Called : Done → Type 1
Called d = CalledBy d.call d

-- The contract that all calls share, of what was done.
abbrev pub DidIt : Done → Type 0
DidIt d = Did d.call d.before d.answer d.out d.after

pub put-did : (q : Question) (d : Done) → PutTo q d → DidIt d
put-did window_numbers d x = subst DidIt (sym x.is) (x.learnt x.commands x.statuses)
put-did (next_stat_sn c) d x = subst DidIt (sym x.is) (x.learnt x.commands x.statuses)
put-did (holder n) d x = subst DidIt (sym x.is) (x.learnt x.headers x.statuses)
put-did (whole_length p) d x = subst DidIt (sym x.is) (x.learnt x.left)

pub moved-did : (t : Transfer) (d : Done) → MovedBy t d → DidIt d
moved-did (data_in f a n o) d x = subst DidIt (sym x.is) (x.learnt x.commands x.statuses x.tags x.ends)
moved-did (r2t t n o) d x = subst DidIt (sym x.is) (x.learnt.0 x.commands x.statuses)
moved-did (data_out p) d x = subst DidIt (sym x.is) (x.learnt x.commands x.statuses)
moved-did (data_snack o p) d x = subst DidIt (sym x.is) (x.learnt x.commands x.statuses x.tags x.ends)

pub called-did : (c : Call) (d : Done) → CalledBy c d → DidIt d
called-did (offer c t p) d x = subst DidIt (sym x.is) (x.learnt x.statuses)
called-did (take o) d x = subst DidIt (sym x.is) (x.learnt x.statuses)
called-did (logout c r) d x = subst DidIt (sym x.is) (x.learnt x.commands x.statuses)
called-did (opening c g) d x = subst DidIt (sym x.is) (x.learnt x.commands x.statuses)
called-did (send c t r y o) d x = subst DidIt (sym x.is) (x.learnt x.commands x.tags x.ends)
called-did (acknowledge c e) d x = subst DidIt (sym x.is) (x.learnt x.commands x.statuses)
called-did (snack c p) d x = subst DidIt (sym x.is) (x.learnt x.commands x.statuses)
called-did (resend c n y o) d x = subst DidIt (sym x.is) (x.learnt x.commands x.tags x.ends)
called-did (transfer c y z) d x = moved-did z d x
called-did (ask q) d x = put-did q d x

-- "each on the state that the last left"
pub data Calls : State → List Event → State → Type 1 where
  end : {s : State} → Calls s [] s
  then : {s s' s'' : State} {c : Call} {a : Answer} {o : Outputs} {es : List Event} → Called (done c s a o s') → Calls s' es s''
      → Calls s (event c a o ∷ es) s''

-- Such a list as a history of contracts, over the same states and events.
abbrev pub as-ran : {s s' : State} {es : List Event} → Calls s es s' → Ran s es s'
as-ran end = Ran.done
as-ran (then {s = s} {s' = s'} {c = c} {a = a} {o = o} p r) = Ran.next (called-did c (done c s a o s') p) (as-ran r)

-- What stays, from any state at all, also one that stands for no book: a refused call leaves the struct, the arrays and what was lent,
-- and every call the length of what was lent and its bytes from 48 on.
pub stays : {s s' : State} {es : List Event} → (r : Calls s es s') → Each Stayed (as-ran r)
stays r = stayed (as-ran r)

-- A fresh session, as the contract of `fresh` has it: a is what it was given, w what it made.
module _ (κs : Lifetimes.Lfts 0) (a : K.Dens {n = 0} κs fresh-k.ps) (w : (K.res_t fresh-k.r κs).Denot) (e : AtExit (K.ended_of 0 fresh-k.ps fresh-k.r) κs)
    (p : fresh-r.Learnt κs a w e) {s : State} {es : List Event} (r : Calls (fresh_state w) es s) where
  -- "For every list of calls from a fresh session .. every answer is that of document 01's book": the answers and the lent
  -- outputs are the fresh book's, and the state after them stands for the book after them.
  pub booked : Booked (fresh_book a.0) es s
  booked = history (as-ran r) (fresh_book a.0) p.agrees

  -- Demand 3, sentence by sentence, which names no book.
  pub demand3 : Demand3 a.0 es
  demand3 = subst (Demand3 a.0) (sym booked.events) (demand3-booked a.0 (turns_of es))

  -- The data sentences of every task among them: its record was made from t, with immediate data of the length n, and each of its calls was given the
  -- record as it was last answered.
  pub data-sentences : (t : TaskGiven) (n : ℕ) {x y : Record} {ts : List T.Event} → making t n ≡ made x
      → OnTask a.0.level x es ts y → DataPhases t n ts
  data-sentences t n {x} {y} {ts} m o =
      tasks-booked a.0 (turns_of es) t n m (subst (λ (l : List Event). OnTask a.0.level x l ts y) booked.events o)
