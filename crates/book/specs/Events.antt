-- A call with its answer, and what the book answers to a list of calls.
use Rattle.std.specs.Prelude.{List, [], ◌∷◌}
use Rattle.book.specs.Book.{Book, Outputs, Call, Answer, Choice, choice_of, book_step}

-- A call with "its whole result and the header it writes": the answer, and what it lent as it is after it.
pub record Event : Type 0 where
  pub call : Call
  pub answer : Answer
  pub out : Outputs

abbrev pub event : Call → Answer → Outputs → Event
event c a o = record { call = c; answer = a; out = o }

-- A call with what its answer chose: all that the book takes of an event.
pub record Turn : Type 0 where
  pub call : Call
  pub choice : Choice

abbrev pub turn : Call → Choice → Turn
turn c x = record { call = c; choice = x }

unfoldable pub turns_of : List Event → List Turn
turns_of [] = []
turns_of (e ∷ es) = turn e.call (choice_of e.answer) ∷ turns_of es

-- What the book answers to a call, and to a list of calls; and the book after them.
unfoldable pub booked : Book → Turn → Event
booked b t = event t.call (book_step b t.call t.choice).answer (book_step b t.call t.choice).out

unfoldable pub book_run : Book → List Turn → List Event
book_run b [] = []
book_run b (t ∷ ts) = booked b t ∷ book_run (book_step b t.call t.choice).book ts

unfoldable pub book_after : Book → List Turn → Book
book_after b [] = b
book_after b (t ∷ ts) = book_after (book_step b t.call t.choice).book ts
