-- A list of what C asks of a session, with the words of each answer; and what the book says to it.
use Rattle.std.specs.Prelude.{ℕ, List, [], ◌∷◌}
use Rattle.book.specs.Book.{Book, Outputs, lent, Answer, refused, Choice, choice_of, Step, book_step}
use Rattle.book.specs.Events.{Event, event}
use Rattle.answer_words.specs.Answer.{answer_words}
use Rattle.call_words.specs.Session.{SessionWords, unfit_step, Asked, calls, sends_unfit, SaidBy}

-- The book's step at each.
unfoldable pub asked_step : Book → Asked → Choice → Step
asked_step b (calls c) x = book_step b c x
asked_step b (sends_unfit c d o) x = unfit_step b c d o

-- What its contract says that it answers; and what it was lent.
abbrev pub answer_by : (q : Asked) (s : SessionWords) (w : List ℕ) (o : Outputs) (s' : SessionWords) → SaidBy q s w o s' → Answer
answer_by (calls c) s w o s' x = x.answer
answer_by (sends_unfit c n l) s w o s' x = refused x.number

abbrev pub lent_by : Asked → Outputs
lent_by (calls c) = lent c
lent_by (sends_unfit c n l) = l

-- What was asked, with the answer and what was lent as it is after it.
pub record AskedEvent : Type 0 where
  pub asked : Asked
  pub answer : Answer
  pub out : Outputs

abbrev pub asked_event : Asked → Answer → Outputs → AskedEvent
asked_event q a o = record { asked = q; answer = a; out = o }

-- The same with the answer in words, as C sees it.
pub record Spoken : Type 0 where
  pub asked : Asked
  pub words : List ℕ
  pub out : Outputs

abbrev pub spoken : Asked → List ℕ → Outputs → Spoken
spoken q w o = record { asked = q; words = w; out = o }

unfoldable pub in_words : List AskedEvent → List Spoken
in_words [] = []
in_words (e ∷ es) = spoken e.asked (answer_words e.answer) e.out ∷ in_words es

-- What the book answers to the same list, from its own entries and what was asked; and the book after it.
unfoldable pub book_says : Book → List AskedEvent → List AskedEvent
book_says b [] = []
book_says b (e ∷ es) =
    let s = asked_step b e.asked (choice_of e.answer) in
    asked_event e.asked s.answer s.out ∷ book_says s.book es

unfoldable pub book_then : Book → List AskedEvent → Book
book_then b [] = b
book_then b (e ∷ es) = book_then (asked_step b e.asked (choice_of e.answer)).book es

-- The calls of the book in the list: sends of words that are no response are left out, since they change nothing.
abbrev pub and_calls : Asked → Answer → Outputs → List Event → List Event
and_calls (calls c) a o es = event c a o ∷ es
and_calls (sends_unfit c d l) a o es = es

unfoldable pub calls_in : List AskedEvent → List Event
calls_in [] = []
calls_in (e ∷ es) = and_calls e.asked e.answer e.out (calls_in es)
