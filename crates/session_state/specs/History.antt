-- A history: a list of calls, each on the state that the last left, with its answers; that it is the book's, and what stays at each event.
use Rattle.std.specs.Prelude.{ℕ, ◌≡◌, refl, List, [], ◌∷◌}
use Rattle.std.proofs.Common.{ap₂, subst}
use Rattle.book.specs.Book.{Book, Outputs, lent, Call, Answer, refused, choice_of, book_step}
use Rattle.book.specs.Events.{Event, event, turns_of, booked, book_run, book_after}
use Rattle.session_state.specs.Agree.{State, Agrees, Stays, KeepsLent, Did}

-- Calls one after the other from a state to a state, each as its contract says; the events stand in the order of the calls.
pub data Ran : State → List Event → State → Type 0 where
  done : {s : State} → Ran s [] s
  next : {s s' s'' : State} {c : Call} {a : Answer} {o : Outputs} {es : List Event} → Did c s a o s' → Ran s' es s'' → Ran s (event c a o ∷ es) s''

-- The events of a history are the book's, and the state after it stands for the book after it.
pub record Booked (b : Book) (es : List Event) (s : State) : Type 0 where
  pub events : es ≡ book_run b (turns_of es)
  pub agrees : Agrees s (book_after b (turns_of es))

-- "every answer is that of document 01's book"
pub history : {s s' : State} {es : List Event} → Ran s es s' → (b : Book) → Agrees s b → Booked b es s'
unfolding book_run book_after turns_of booked
history done b g = record { events = refl; agrees = g }
history (next {c = c} {a = a} d r) b g =
    let m = d.meets b g in
    let rest = history r (book_step b c (choice_of a)).book m.agrees in
    record { events = ap₂ ◌∷◌ (ap₂ (event c) m.answer m.out) rest.events; agrees = rest.agrees }

-- ---- what stays, of any state

-- "A refusal returns its number .. and changes nothing": the struct, the arrays and what was lent are as before.
abbrev pub Unmoved : State → Event → State → Type 0
Unmoved s e s' = (n : ℕ) → e.answer ≡ refused n → (s' ≡ s) × (e.out ≡ lent e.call)

-- What stays at an event, s before it and s' after it: at a refusal all, and at every event the length of what was lent and its bytes
-- from 48 on.
pub record Stayed (s : State) (e : Event) (s' : State) : Type 0 where
  pub unmoved : Unmoved s e s'
  pub keeps : KeepsLent (lent e.call) e.out

-- P of each event of a history, with the state before it and the state after it.
abbrev pub Each : (State → Event → State → Type 0) → {s s' : State} {es : List Event} → Ran s es s' → Type 0
Each P done = Unit {0}
Each P (next {s = s} {s' = s'} {c = c} {a = a} {o = o} d r) = P s (event c a o) s' × Each P r

-- The state that a history begins with is any: it need stand for no book.
pub stayed : {s s' : State} {es : List Event} → (r : Ran s es s') → Each Stayed r
stayed done = tt
stayed (next {s = s} {s' = s'} {c = c} {a = a} {o = o} d r) =
    (record { unmoved = λ n q. subst (λ (x : Answer). Stays c x s s' (lent c) o) q d.stays; keeps = d.keeps }, stayed r)
