-- Demand 3 of the functions that C links. `Learnt` is a function's contract as a caller learns it of one call, so a list of `Called` is one of
-- calls of these functions, each on the words that the last left.
use Prim.Native.Nat.{ℕ}
use mathlib.Core.List.{List, [], ◌∷◌}
use mathlib.Core.Path.{◌≡◌, refl, sym, ap, ap₂, subst}
use contract.Lifetimes
use borrow.Fn.Kinds as K
use denote.Triple.Clauses.{AtExit}
use Rattle.window.specs.Agree.{Commands, commands}
use Rattle.ledger.specs.Agree.{Statuses, statuses_in}
use Rattle.book.specs.declared.Given.{Given}
use Rattle.book.specs.Book.{Book, Outputs, outputs, no_outputs, Call, offer, take, logout, opening, send, acknowledge, snack, resend, Transfer, data_in, r2t, data_out, data_snack, transfer, ask, Question, window_numbers, next_stat_sn, holder, whole_length, fresh_book}
use Rattle.book.specs.Events.{Event, turns_of}
use Rattle.book.specs.Demand.{Demand3}
use Rattle.book.specs.Tasks.{OnTask}
use Rattle.task_book.specs.declared.TaskGiven.{TaskGiven}
use Rattle.task_book.specs.Record.{Record, making, made}
use Rattle.task_book.specs.History as T
use Rattle.task_book.specs.Sentences.{DataPhases}
use Rattle.book.proofs.Sentences.{demand3-booked}
use Rattle.book.proofs.Tasks.{tasks-booked}
use Rattle.response_words.specs.ResponseWords.{response_of}
use Rattle.session_state.specs.Agree.{Agrees}
use Rattle.session_state.specs.History.{Ran, history}
use Rattle.answer_words.specs.Answer.{packed}
use Rattle.task_words.specs.TaskWords.{task_words, record_in}
use Rattle.call_words.specs.Given.{opening_of, given_of}
use Rattle.call_words.specs.Session.{SessionWords, session_words, state_of, Asked, calls, sends_unfit, sends, SaidBy, LeavesWords}
use Rattle.call_words.specs.History.{answer_by, lent_by, AskedEvent, asked_event, Spoken, spoken, in_words, book_says, book_then, calls_in}
use Rattle.call_words.proofs.Asked.{words-by, step_by, next-by, left_by}
use Rattle.capi.proofs.calls.drawbevel_core_fresh.Reads as fresh-r
use Rattle.capi.proofs.calls.drawbevel_core_fresh.Kinds as fresh-k
use Rattle.capi.proofs.calls.drawbevel_core_offer.Reads as offer-r
use Rattle.capi.proofs.calls.drawbevel_core_offer.Kinds as offer-k
use Rattle.capi.proofs.calls.drawbevel_core_take.Reads as take-r
use Rattle.capi.proofs.calls.drawbevel_core_take.Kinds as take-k
use Rattle.capi.proofs.calls.drawbevel_core_logout.Reads as logout-r
use Rattle.capi.proofs.calls.drawbevel_core_logout.Kinds as logout-k
use Rattle.capi.proofs.calls.drawbevel_core_open.Reads as open-r
use Rattle.capi.proofs.calls.drawbevel_core_open.Kinds as open-k
use Rattle.capi.proofs.calls.drawbevel_core_send.Reads as send-r
use Rattle.capi.proofs.calls.drawbevel_core_send.Kinds as send-k
use Rattle.capi.proofs.calls.drawbevel_core_acknowledge.Reads as acknowledge-r
use Rattle.capi.proofs.calls.drawbevel_core_acknowledge.Kinds as acknowledge-k
use Rattle.capi.proofs.calls.drawbevel_core_snack.Reads as snack-r
use Rattle.capi.proofs.calls.drawbevel_core_snack.Kinds as snack-k
use Rattle.capi.proofs.calls.drawbevel_core_resend.Reads as resend-r
use Rattle.capi.proofs.calls.drawbevel_core_resend.Kinds as resend-k
use Rattle.capi.proofs.transfers.drawbevel_core_data_in.Reads as data-in-r
use Rattle.capi.proofs.transfers.drawbevel_core_data_in.Kinds as data-in-k
use Rattle.capi.proofs.transfers.drawbevel_core_r2t.Reads as r2t-r
use Rattle.capi.proofs.transfers.drawbevel_core_r2t.Kinds as r2t-k
use Rattle.capi.proofs.transfers.drawbevel_core_data_out.Reads as data-out-r
use Rattle.capi.proofs.transfers.drawbevel_core_data_out.Kinds as data-out-k
use Rattle.capi.proofs.transfers.drawbevel_core_data_snack.Reads as data-snack-r
use Rattle.capi.proofs.transfers.drawbevel_core_data_snack.Kinds as data-snack-k
use Rattle.capi.proofs.questions.drawbevel_core_window.Reads as window-r
use Rattle.capi.proofs.questions.drawbevel_core_window.Kinds as window-k
use Rattle.capi.proofs.questions.drawbevel_core_next.Reads as next-r
use Rattle.capi.proofs.questions.drawbevel_core_next.Kinds as next-k
use Rattle.capi.proofs.questions.drawbevel_core_holder.Reads as holder-r
use Rattle.capi.proofs.questions.drawbevel_core_holder.Kinds as holder-k
use Rattle.capi.proofs.questions.drawbevel_core_length.Reads as length-r
use Rattle.capi.proofs.questions.drawbevel_core_length.Kinds as length-k

-- What was asked of the words before, the words of its answer, what it lent, and the words after it.
pub record Done : Type 0 where
  pub asked : Asked
  pub before : SessionWords
  pub words : List ℕ
  pub out : Outputs
  pub after : SessionWords

abbrev pub done : Asked → SessionWords → List ℕ → Outputs → SessionWords → Done
done q s w o s' = record { asked = q; before = s; words = w; out = o; after = s' }

-- A call of `drawbevel_core_offer`: a are its arguments, r its result, s its parameters at exit.
pub record ByOffer (d : Done) : Type 1 where
  pub κs : Lifetimes.Lfts 5
  pub a : K.Dens {n = 5} κs offer-k.ps
  pub r : (K.res_t offer-k.r κs).Denot
  pub s : AtExit (K.ended_of 5 offer-k.ps offer-k.r) κs
  pub learnt : offer-r.Learnt κs a r s
  pub statuses_left : Statuses
  pub is : d ≡ done (calls (offer a.1.1.1.1.0 a.1.1.1.1.1.0 a.1.1.1.1.1.1.0.now))
      (session_words a.0.now a.1.0.now (commands a.1.1.0.now a.1.1.1.0.now) statuses_left) (packed r) no_outputs
      (session_words s.0.now s.1.0.now (commands s.1.1.0.now s.1.1.1.0.now) statuses_left)

-- A call of `drawbevel_core_take`: a are its arguments, r its result, s its parameters at exit.
pub record ByTake (d : Done) : Type 1 where
  pub κs : Lifetimes.Lfts 6
  pub a : K.Dens {n = 6} κs take-k.ps
  pub r : (K.res_t take-k.r κs).Denot
  pub s : AtExit (K.ended_of 6 take-k.ps take-k.r) κs
  pub learnt : take-r.Learnt κs a r s
  pub statuses_left : Statuses
  pub is : d ≡ done (calls (take (outputs a.1.1.1.1.0.now)))
      (session_words a.0.now a.1.0.now (commands a.1.1.0.now a.1.1.1.0.now) statuses_left)
      s.1.1.1.1.1.0.now (outputs s.1.1.1.1.0.now)
      (session_words s.0.now s.1.0.now (commands a.1.1.0.now a.1.1.1.0.now) statuses_left)

-- A call of `drawbevel_core_logout`: a are its arguments, r its result, s its parameters at exit.
pub record ByLogout (d : Done) : Type 1 where
  pub κs : Lifetimes.Lfts 3
  pub a : K.Dens {n = 3} κs logout-k.ps
  pub r : (K.res_t logout-k.r κs).Denot
  pub s : AtExit (K.ended_of 3 logout-k.ps logout-k.r) κs
  pub learnt : logout-r.Learnt κs a r s
  pub commands_left : Commands
  pub statuses_left : Statuses
  pub is : d ≡ done (calls (logout a.1.1.0 a.1.1.1.0))
      (session_words a.0.now a.1.0.now commands_left statuses_left) s.1.1.1.1.0.now no_outputs
      (session_words s.0.now s.1.0.now commands_left statuses_left)

-- A call of `drawbevel_core_open`: a are its arguments, r its result, s its parameters at exit.
pub record ByOpen (d : Done) : Type 1 where
  pub κs : Lifetimes.Lfts 2
  pub a : K.Dens {n = 2} κs open-k.ps
  pub r : (K.res_t open-k.r κs).Denot
  pub s : AtExit (K.ended_of 2 open-k.ps open-k.r) κs
  pub learnt : open-r.Learnt κs a r s
  pub commands_left : Commands
  pub statuses_left : Statuses
  pub is : d ≡ done (calls (opening a.1.1.0 (opening_of a.1.1.1.0)))
      (session_words a.0.now a.1.0.now commands_left statuses_left) (packed r) no_outputs
      (session_words s.0.now s.1.0.now commands_left statuses_left)

-- A call of `drawbevel_core_send`: a are its arguments, r its result, s its parameters at exit. tags and ends are the open R2Ts of the record, which it
-- isn't lent.
pub record BySend (d : Done) : Type 1 where
  pub κs : Lifetimes.Lfts 8
  pub a : K.Dens {n = 8} κs send-k.ps
  pub r : (K.res_t send-k.r κs).Denot
  pub s : AtExit (K.ended_of 8 send-k.ps send-k.r) κs
  pub learnt : send-r.Learnt κs a r s
  pub commands_left : Commands
  pub tags : List ℕ
  pub ends : List ℕ
  pub is : d ≡ done (sends (response_of a.1.1.1.1.1.1.1.1.0.now) a.1.1.1.1.1.1.0 a.1.1.1.1.1.1.1.0
      (record_in (task_words a.1.1.1.1.0.now a.1.1.1.1.1.0.now tags ends)) (outputs a.1.1.1.1.1.1.1.1.1.0.now))
      (session_words a.0.now a.1.0.now commands_left (statuses_in a.1.1.0.now a.1.1.1.0.now))
      (packed r) (outputs s.1.1.1.1.1.1.1.1.1.0.now)
      (session_words s.0.now s.1.0.now commands_left (statuses_in s.1.1.0.now s.1.1.1.0.now))

-- A call of `drawbevel_core_acknowledge`: a are its arguments, r its result, s its parameters at exit.
pub record ByAcknowledge (d : Done) : Type 1 where
  pub κs : Lifetimes.Lfts 2
  pub a : K.Dens {n = 2} κs acknowledge-k.ps
  pub r : (K.res_t acknowledge-k.r κs).Denot
  pub s : AtExit (K.ended_of 2 acknowledge-k.ps acknowledge-k.r) κs
  pub learnt : acknowledge-r.Learnt κs a r s
  pub commands_left : Commands
  pub statuses_left : Statuses
  pub is : d ≡ done (calls (acknowledge a.1.1.0 a.1.1.1.0))
      (session_words a.0.now a.1.0.now commands_left statuses_left) (packed r) no_outputs
      (session_words s.0.now s.1.0.now commands_left statuses_left)

-- A call of `drawbevel_core_snack`: a are its arguments, r its result, s its parameters at exit.
pub record BySnack (d : Done) : Type 1 where
  pub κs : Lifetimes.Lfts 4
  pub a : K.Dens {n = 4} κs snack-k.ps
  pub r : (K.res_t snack-k.r κs).Denot
  pub s : AtExit (K.ended_of 4 snack-k.ps snack-k.r) κs
  pub learnt : snack-r.Learnt κs a r s
  pub commands_left : Commands
  pub statuses_left : Statuses
  pub is : d ≡ done (calls (snack a.1.1.0 a.1.1.1.0.now))
      (session_words a.0.now a.1.0.now commands_left statuses_left) s.1.1.1.1.0.now no_outputs
      (session_words a.0.now a.1.0.now commands_left statuses_left)

-- A call of `drawbevel_core_resend`: a are its arguments, r its result, s its parameters at exit.
pub record ByResend (d : Done) : Type 1 where
  pub κs : Lifetimes.Lfts 7
  pub a : K.Dens {n = 7} κs resend-k.ps
  pub r : (K.res_t resend-k.r κs).Denot
  pub s : AtExit (K.ended_of 7 resend-k.ps resend-k.r) κs
  pub learnt : resend-r.Learnt κs a r s
  pub commands_left : Commands
  pub tags : List ℕ
  pub ends : List ℕ
  pub is : d ≡ done (calls (resend a.1.1.1.1.1.1.0 a.1.1.1.1.1.1.1.0
      (record_in (task_words a.1.1.1.1.0.now a.1.1.1.1.1.0.now tags ends)) (outputs a.1.1.1.1.1.1.1.1.0.now)))
      (session_words a.0.now a.1.0.now commands_left (statuses_in a.1.1.0.now a.1.1.1.0.now))
      (packed r) (outputs s.1.1.1.1.1.1.1.1.0.now)
      (session_words a.0.now a.1.0.now commands_left (statuses_in a.1.1.0.now a.1.1.1.0.now))

-- A call of `drawbevel_core_data_in`: a are its arguments, r its result, s its parameters at exit.
pub record ByDataIn (d : Done) : Type 1 where
  pub κs : Lifetimes.Lfts 5
  pub a : K.Dens {n = 5} κs data-in-k.ps
  pub r : (K.res_t data-in-k.r κs).Denot
  pub s : AtExit (K.ended_of 5 data-in-k.ps data-in-k.r) κs
  pub learnt : data-in-r.Learnt κs a r s
  pub commands_left : Commands
  pub statuses_left : Statuses
  pub tags : List ℕ
  pub ends : List ℕ
  pub is : d ≡ done (calls (transfer a.1.1.1.1.0 (record_in (task_words a.1.1.0.now a.1.1.1.0.now tags ends))
      (data_in a.1.1.1.1.1.0 a.1.1.1.1.1.1.0 a.1.1.1.1.1.1.1.0 (outputs a.1.1.1.1.1.1.1.1.0.now))))
      (session_words a.0.now a.1.0.now commands_left statuses_left) (packed r) (outputs s.1.1.1.1.1.1.1.1.0.now)
      (session_words a.0.now a.1.0.now commands_left statuses_left)

-- A call of `drawbevel_core_r2t`: a are its arguments, r its result, s its parameters at exit.
pub record ByR2T (d : Done) : Type 1 where
  pub κs : Lifetimes.Lfts 7
  pub a : K.Dens {n = 7} κs r2t-k.ps
  pub r : (K.res_t r2t-k.r κs).Denot
  pub s : AtExit (K.ended_of 7 r2t-k.ps r2t-k.r) κs
  pub learnt : r2t-r.Learnt κs a r s
  pub commands_left : Commands
  pub statuses_left : Statuses
  pub is : d ≡ done (calls (transfer a.1.1.1.1.1.1.0
      (record_in (task_words a.1.1.0.now a.1.1.1.0.now a.1.1.1.1.0.now a.1.1.1.1.1.0.now))
      (r2t a.1.1.1.1.1.1.1.0 a.1.1.1.1.1.1.1.1.0 (outputs a.1.1.1.1.1.1.1.1.1.0.now))))
      (session_words a.0.now a.1.0.now commands_left statuses_left) (packed r) (outputs s.1.1.1.1.1.1.1.1.1.0.now)
      (session_words a.0.now a.1.0.now commands_left statuses_left)

-- A call of `drawbevel_core_data_out`: a are its arguments, r its result, s its parameters at exit.
pub record ByDataOut (d : Done) : Type 1 where
  pub κs : Lifetimes.Lfts 8
  pub a : K.Dens {n = 8} κs data-out-k.ps
  pub r : (K.res_t data-out-k.r κs).Denot
  pub s : AtExit (K.ended_of 8 data-out-k.ps data-out-k.r) κs
  pub learnt : data-out-r.Learnt κs a r s
  pub commands_left : Commands
  pub statuses_left : Statuses
  pub is : d ≡ done (calls (transfer a.1.1.0
      (record_in (task_words a.1.1.1.1.0.now a.1.1.1.1.1.0.now a.1.1.1.1.1.1.0.now a.1.1.1.1.1.1.1.0.now))
      (data_out a.1.1.1.0.now)))
      (session_words a.0.now a.1.0.now commands_left statuses_left) s.1.1.1.1.1.1.1.1.0.now no_outputs
      (session_words a.0.now a.1.0.now commands_left statuses_left)

-- A call of `drawbevel_core_data_snack`: a are its arguments, r its result, s its parameters at exit.
pub record ByDataSnack (d : Done) : Type 1 where
  pub κs : Lifetimes.Lfts 6
  pub a : K.Dens {n = 6} κs data-snack-k.ps
  pub r : (K.res_t data-snack-k.r κs).Denot
  pub s : AtExit (K.ended_of 6 data-snack-k.ps data-snack-k.r) κs
  pub learnt : data-snack-r.Learnt κs a r s
  pub commands_left : Commands
  pub statuses_left : Statuses
  pub tags : List ℕ
  pub ends : List ℕ
  pub is : d ≡ done (calls (transfer a.1.1.0 (record_in (task_words a.1.1.1.1.0.now a.1.1.1.1.1.0.now tags ends))
      (data_snack a.1.1.1.1.1.1.0 a.1.1.1.0.now)))
      (session_words a.0.now a.1.0.now commands_left statuses_left) s.1.1.1.1.1.1.1.0.now no_outputs
      (session_words a.0.now a.1.0.now commands_left statuses_left)

-- A call of `drawbevel_core_window`: a are its arguments, r its result, s its parameters at exit.
pub record ByNumbers (d : Done) : Type 1 where
  pub κs : Lifetimes.Lfts 3
  pub a : K.Dens {n = 3} κs window-k.ps
  pub r : (K.res_t window-k.r κs).Denot
  pub s : AtExit (K.ended_of 3 window-k.ps window-k.r) κs
  pub learnt : window-r.Learnt κs a r s
  pub commands_left : Commands
  pub statuses_left : Statuses
  pub is : d ≡ done (calls (ask window_numbers))
      (session_words a.0.now a.1.0.now commands_left statuses_left) s.1.1.0.now no_outputs
      (session_words a.0.now a.1.0.now commands_left statuses_left)

-- A call of `drawbevel_core_next`: a are its arguments, r its result, s its parameters at exit.
pub record ByNext (d : Done) : Type 1 where
  pub κs : Lifetimes.Lfts 2
  pub a : K.Dens {n = 2} κs next-k.ps
  pub r : (K.res_t next-k.r κs).Denot
  pub s : AtExit (K.ended_of 2 next-k.ps next-k.r) κs
  pub learnt : next-r.Learnt κs a r s
  pub commands_left : Commands
  pub statuses_left : Statuses
  pub is : d ≡ done (calls (ask (next_stat_sn a.1.1.0)))
      (session_words a.0.now a.1.0.now commands_left statuses_left) (packed r) no_outputs
      (session_words a.0.now a.1.0.now commands_left statuses_left)

-- A call of `drawbevel_core_holder`: a are its arguments, r its result, s its parameters at exit. Of the commands it is lent the tickets alone.
pub record ByHolder (d : Done) : Type 1 where
  pub κs : Lifetimes.Lfts 4
  pub a : K.Dens {n = 4} κs holder-k.ps
  pub r : (K.res_t holder-k.r κs).Denot
  pub s : AtExit (K.ended_of 4 holder-k.ps holder-k.r) κs
  pub learnt : holder-r.Learnt κs a r s
  pub headers_left : List ℕ
  pub statuses_left : Statuses
  pub is : d ≡ done (calls (ask (holder a.1.1.1.0)))
      (session_words a.0.now a.1.0.now (commands headers_left a.1.1.0.now) statuses_left) s.1.1.1.1.0.now no_outputs
      (session_words a.0.now a.1.0.now (commands headers_left a.1.1.0.now) statuses_left)

-- A call of `drawbevel_core_length`: a are its arguments, r its result, s its parameters at exit. It is given nothing of the session.
pub record ByLength (d : Done) : Type 1 where
  pub κs : Lifetimes.Lfts 1
  pub a : K.Dens {n = 1} κs length-k.ps
  pub r : (K.res_t length-k.r κs).Denot
  pub s : AtExit (K.ended_of 1 length-k.ps length-k.r) κs
  pub learnt : length-r.Learnt κs a r s
  pub words_left : SessionWords
  pub is : d ≡ done (calls (ask (whole_length a.0.now))) words_left (packed r) no_outputs words_left

-- A question was put to its own function.
abbrev pub PutTo : Question → Done → Type 1
PutTo window_numbers d = ByNumbers d
PutTo (next_stat_sn c) d = ByNext d
PutTo (holder n) d = ByHolder d
PutTo (whole_length p) d = ByLength d

-- A transfer was asked of its own function.
abbrev pub MovedBy : Transfer → Done → Type 1
MovedBy (data_in f a n o) d = ByDataIn d
MovedBy (r2t t n o) d = ByR2T d
MovedBy (data_out p) d = ByDataOut d
MovedBy (data_snack o p) d = ByDataSnack d

-- What was asked was asked of its own function: each case of `Call` has one, and words that are no response go to that of a send. The arrays
-- that a function is not lent stay ("written by nobody else").
abbrev pub CalledBy : Call → Done → Type 1
CalledBy (offer c t p) d = ByOffer d
CalledBy (take o) d = ByTake d
CalledBy (logout c r) d = ByLogout d
CalledBy (opening c g) d = ByOpen d
CalledBy (send c t r x o) d = BySend d
CalledBy (acknowledge c e) d = ByAcknowledge d
CalledBy (snack c p) d = BySnack d
CalledBy (resend c n x o) d = ByResend d
CalledBy (transfer c x y) d = MovedBy y d
CalledBy (ask q) d = PutTo q d

abbrev pub AskedBy : Asked → Done → Type 1
AskedBy (calls c) d = CalledBy c d
AskedBy (sends_unfit c n o) d = BySend d

abbrev pub Called : Done → Type 1
Called d = AskedBy d.asked d

-- "each on the state that the last left"
pub data Calls : SessionWords → List Spoken → SessionWords → Type 1 where
  end : {s : SessionWords} → Calls s [] s
  then : {s s' s'' : SessionWords} {q : Asked} {w : List ℕ} {o : Outputs} {es : List Spoken}
      → Called (done q s w o s') → Calls s' es s'' → Calls s (spoken q w o ∷ es) s''

-- ---- what each call ensures

abbrev pub SaidIt : Done → Type 0
SaidIt d = SaidBy d.asked d.before d.words d.out d.after

by_send : (d : Done) → BySend d → SaidIt d
by_send d x = subst SaidIt (sym x.is) (x.learnt x.commands_left x.tags x.ends)

pub put-said : (q : Question) (d : Done) → PutTo q d → SaidIt d
put-said window_numbers d x = subst SaidIt (sym x.is) (x.learnt x.commands_left x.statuses_left)
put-said (next_stat_sn c) d x = subst SaidIt (sym x.is) (x.learnt x.commands_left x.statuses_left)
put-said (holder n) d x = subst SaidIt (sym x.is) (x.learnt x.headers_left x.statuses_left)
put-said (whole_length p) d x = subst SaidIt (sym x.is) (x.learnt x.words_left)

pub moved-said : (t : Transfer) (d : Done) → MovedBy t d → SaidIt d
moved-said (data_in f a n o) d x = subst SaidIt (sym x.is) (x.learnt x.commands_left x.statuses_left x.tags x.ends).said
moved-said (r2t t n o) d x = subst SaidIt (sym x.is) (x.learnt x.commands_left x.statuses_left).said
moved-said (data_out p) d x = subst SaidIt (sym x.is) (x.learnt x.commands_left x.statuses_left).said
moved-said (data_snack o p) d x = subst SaidIt (sym x.is) (x.learnt x.commands_left x.statuses_left x.tags x.ends).said

pub called-said : (c : Call) (d : Done) → CalledBy c d → SaidIt d
called-said (offer c t p) d x = subst SaidIt (sym x.is) (x.learnt x.statuses_left)
called-said (take o) d x = subst SaidIt (sym x.is) (x.learnt x.statuses_left)
called-said (logout c r) d x = subst SaidIt (sym x.is) (x.learnt x.commands_left x.statuses_left)
called-said (opening c g) d x = subst SaidIt (sym x.is) (x.learnt x.commands_left x.statuses_left)
called-said (send c t r y o) d x = by_send d x
called-said (acknowledge c e) d x = subst SaidIt (sym x.is) (x.learnt x.commands_left x.statuses_left)
called-said (snack c p) d x = subst SaidIt (sym x.is) (x.learnt x.commands_left x.statuses_left)
called-said (resend c n y o) d x = subst SaidIt (sym x.is) (x.learnt x.commands_left x.tags x.ends)
called-said (transfer c y z) d x = moved-said z d x
called-said (ask q) d x = put-said q d x

pub asked-said : (q : Asked) (d : Done) → AskedBy q d → SaidIt d
asked-said (calls c) d x = called-said c d x
asked-said (sends_unfit c n o) d x = by_send d x

-- ---- the answers of a list of calls

-- What was asked, with the answers themselves.
unfoldable pub answered : {s s' : SessionWords} {es : List Spoken} → Calls s es s' → List AskedEvent
answered end = []
answered (then {s = s} {s' = s'} {q = q} {w = w} {o = o} p r) = asked_event q (answer_by q s w o s' (asked-said q (done q s w o s') p)) o ∷ answered r

-- What C sees are the words of these answers.
pub spoken-words : {s s' : SessionWords} {es : List Spoken} (r : Calls s es s') → es ≡ in_words (answered r)
unfolding in_words answered
spoken-words end = refl
spoken-words (then {s = s} {s' = s'} {q = q} {w = w} {o = o} p r) =
    ap₂ ◌∷◌ (ap (λ (x : List ℕ). spoken q x o) (words-by q s w o s' (asked-said q (done q s w o s') p))) (spoken-words r)

-- ---- the book's answers

-- The answers are the book's, and the words after them stand for the book after them.
pub record BookedWords (b : Book) (es : List AskedEvent) (s : SessionWords) : Type 0 where
  pub answers : es ≡ book_says b es
  pub agrees : Agrees (state_of s) (book_then b es)

booked-from : {s s' : SessionWords} {es : List Spoken} (r : Calls s es s') (b : Book) → Agrees (state_of s) b → BookedWords b (answered r) s'
unfolding answered book_says book_then
booked-from end b g = record { answers = refl; agrees = g }
booked-from (then {s = s} {s' = s'} {q = q} {w = w} {o = o} p r) b g =
    let m = step_by q s w o s' (asked-said q (done q s w o s') p) b g in
    let rest = booked-from r _ m.agrees in
    record { answers = ap₂ ◌∷◌ (ap₂ (asked_event q) m.answer m.out) rest.answers; agrees = rest.agrees }

-- ---- the calls among them

as-ran : {s s' : SessionWords} {es : List Spoken} (r : Calls s es s') → Ran (state_of s) (calls_in (answered r)) (state_of s')
unfolding answered calls_in
as-ran end = Ran.done
as-ran (then {s = s} {s' = s'} {s'' = t} {q = q} {w = w} {o = o} p r) =
    next-by q s w o s' (asked-said q (done q s w o s') p) (calls_in (answered r)) (state_of t) (as-ran r)

-- ---- what a refusal leaves, from any words at all

-- At each refused event every word and byte after it is the one before it.
abbrev pub EachLeft : {s s' : SessionWords} {es : List Spoken} → Calls s es s' → Type 0
EachLeft end = Unit {0}
EachLeft (then {s = s} {s' = s'} {q = q} {w = w} {o = o} p r) =
    LeavesWords (answer_by q s w o s' (asked-said q (done q s w o s') p)) s s' (lent_by q) o × EachLeft r

pub refusals-leave : {s s' : SessionWords} {es : List Spoken} (r : Calls s es s') → EachLeft r
refusals-leave end = tt
refusals-leave (then {s = s} {s' = s'} {q = q} {w = w} {o = o} p r) = (left_by q s w o s' (asked-said q (done q s w o s') p), refusals-leave r)

-- ---- from a fresh session, as the contract of `drawbevel_core_fresh` has it: a is what it was given, e what it was lent, at exit

module _ (κs : Lifetimes.Lfts 6) (a : K.Dens {n = 6} κs fresh-k.ps) (w : (K.res_t fresh-k.r κs).Denot) (e : AtExit (K.ended_of 6 fresh-k.ps fresh-k.r) κs)
    (p : fresh-r.Learnt κs a w e) {s : SessionWords} {es : List Spoken}
    (r : Calls (session_words e.0.now e.1.0.now (commands e.1.1.0.now e.1.1.1.0.now)
    (statuses_in e.1.1.1.1.0.now e.1.1.1.1.1.0.now)) es s) where
  abbrev given : Given
  given = given_of a.1.1.1.1.1.1.0 a.1.1.1.1.1.1.1.0 a.1.1.1.1.1.1.1.1.0

  -- "every answer is that of document 01's book", in words, those to words that are no response too; and every lent output is the book's
  pub booked : BookedWords (fresh_book given) (answered r) s
  booked = booked-from r (fresh_book given) p.fresh.agrees

  -- Demand 3, sentence by sentence, which names no book
  pub demand3 : Demand3 given (calls_in (answered r))
  demand3 =
      let b = history (as-ran r) (fresh_book given) p.fresh.agrees in
      subst (Demand3 given) (sym b.events) (demand3-booked given (turns_of (calls_in (answered r))))

  -- The data sentences of every task among them. What a transfer leaves in the words of its record is the record that it answered (`SaidOn`).
  pub data-sentences : (t : TaskGiven) (n : ℕ) {x y : Record} {ts : List T.Event} → making t n ≡ made x
      → OnTask given.level x (calls_in (answered r)) ts y → DataPhases t n ts
  data-sentences t n {x} {y} {ts} m o =
      let b = history (as-ran r) (fresh_book given) p.fresh.agrees in
      tasks-booked given (turns_of (calls_in (answered r))) t n m (subst (λ (l : List Event). OnTask given.level x l ts y) b.events o)
