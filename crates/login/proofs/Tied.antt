-- Demand 2 of the login's function itself. `Learnt` is its contract as a caller learns it of one call, so a list of `Calls` is one of the function, and
-- what is proved of it breaks where the contract says less.
use mathlib.Core.List.{List, [], ◌∷◌}
use mathlib.Core.Path.{◌≡◌, refl, sym, ap, ◌∙◌, subst}
use contract.Lifetimes
use borrow.Fn.Kinds as K
use denote.Triple.Clauses.{AtExit}
use Rattle.login_book.specs.Book.{LoginBook, fresh_book}
use Rattle.login_book.specs.Login.{Outcome}
use Rattle.login_book.specs.Events.{Call, Event, event, step_of, events_of, calls_of, left_after}
use Rattle.login_book.specs.Demand.{Demand2}
use Rattle.login_book.proofs.Demand.{demand2-booked}
use Rattle.login_types.specs.declared.state.State.{State}
use Rattle.login_types.specs.Agree.{book_of, answer_of}
use Rattle.login_types.proofs.state.State.fresh.Reads as fresh-r
use Rattle.login_types.proofs.state.State.fresh.Kinds as fresh-k
use Rattle.login.proofs.request.login_request.Reads as request-r
use Rattle.login.proofs.request.login_request.Kinds as request-k

-- What a call of `login_request` is given; and of its result r, what it answers and leaves, with its parameters s at exit.
abbrev pub call_by : (κs : Lifetimes.Lfts 4) → K.Dens {n = 4} κs request-k.ps → Call
call_by κs a = record {
  pdu = a.1.0.now;
  live = a.1.1.0;
  new = a.1.1.1.0;
  ours = a.1.1.1.1.0.now;
  gather = a.1.1.1.1.1.0.now;
  text = a.1.1.1.1.1.1.0.now;
}

abbrev pub outcome_by : (κs : Lifetimes.Lfts 4) → (K.res_t request-k.r κs).Denot → AtExit (K.ended_of 4 request-k.ps request-k.r) κs → Outcome
outcome_by κs r s = record {
  book = book_of r.state;
  answer = answer_of r.answer s.1.1.1.1.1.1.0.now;
  gather = s.1.1.1.1.1.0.now;
  text = s.1.1.1.1.1.1.0.now;
}

-- A call on the login before, with the login after it.
pub record Called (before : State) (e : Event) (after : State) : Type 1 where
  pub κs : Lifetimes.Lfts 4
  pub a : K.Dens {n = 4} κs request-k.ps
  pub r : (K.res_t request-k.r κs).Denot
  pub s : AtExit (K.ended_of 4 request-k.ps request-k.r) κs
  pub learnt : request-r.Learnt κs a r s
  pub on : before ≡ a.0
  pub to : after ≡ r.state
  pub is : e ≡ event (call_by κs a) (outcome_by κs r s)

-- each on the login that the last left
pub data Calls : State → List Event → State → Type 1 where
  end : {l : State} → Calls l [] l
  then : {l l' l'' : State} {e : Event} {es : List Event} → Called l e l' → Calls l' es l'' → Calls l (e ∷ es) l''

-- the answers, the lent bytes and the login after each call are those of the rules from the book b; the login after all is l
pub record Booked (b : LoginBook) (es : List Event) (l : State) : Type 0 where
  pub events : es ≡ events_of b (calls_of es)
  pub left : book_of l ≡ left_after b es

called-event : (l l' : State) (e : Event) → Called l e l' → e ≡ event e.call (step_of (book_of l) e.call)
called-event l l' e c =
    let k = call_by c.κs c.a in
    subst (λ (x : Event). x ≡ event x.call (step_of (book_of l) x.call)) (sym c.is)
    (ap (event k) (c.learnt.outcome ∙ ap (λ (m : State). step_of (book_of m) k) (sym c.on)))

called-left : (l l' : State) (e : Event) → Called l e l' → book_of l' ≡ e.left
called-left l l' e c = ap book_of c.to ∙ sym (ap (λ (x : Event). x.left) c.is)

calls-booked : {l l' : State} {es : List Event} → Calls l es l' → Booked (book_of l) es l'
calls-booked end = record { events = refl; left = refl }
calls-booked (then {l = l} {l' = l'} {e = e} {es = es} c r) =
    let i = calls-booked r in
    let x = called-event l l' e c in
    let y = called-left l l' e c in
    record {
      events = ap (λ (z : List Event). e ∷ z) (i.events ∙ ap (λ (b : LoginBook). events_of b (calls_of es)) (y ∙ ap (λ (z : Event). z.left) x))
          ∙ ap (λ (z : Event). z ∷ events_of (step_of (book_of l) e.call).book (calls_of es)) x;
      left = i.left ∙ ap (λ (b : LoginBook). left_after b es) y;
    }

-- A fresh login, as the contract of `State::fresh` has it: f is what it made.
module _ (κs : Lifetimes.Lfts 0) (a : K.Dens {n = 0} κs fresh-k.ps) (f : (K.res_t fresh-k.r κs).Denot) (s : AtExit (K.ended_of 0 fresh-k.ps fresh-k.r) κs)
    (p : fresh-r.Learnt κs a f s) {l : State} {es : List Event} (r : Calls f es l) where
  -- every answer, every lent byte and the login after each call are those of paper 01's book of a login
  pub booked : Booked fresh_book es l
  booked = subst (λ (b : LoginBook). Booked b es l) p.book (calls-booked r)

  -- Demand 2, part by part, of every list of calls from a fresh login.
  pub demand2 : Demand2 es
  demand2 = subst Demand2 (sym booked.events) (demand2-booked (calls_of es))
