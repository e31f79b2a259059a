-- Paper 01's number and values of each answer, and the session after it.
use Rattle.std.specs.Prelude.{ℕ, Option, Some, None, Result, Ok, Err}
use Rattle.refusal.specs.declared.Refusal.{Refusal}
use Rattle.refusal.specs.Refusal.{number}
use Rattle.window.specs.Agree as WA
use Rattle.window_take.specs.declared.TakeStep.{TakeStep}
use Rattle.book.specs.Book as Book
use Rattle.book.specs.Book.{Answer, refused, immediate, from_window, denied, at_once, numbered}
use Rattle.session_state.specs.declared.Session.{Session}
use Rattle.session_state.specs.After.{after_window}
use Rattle.session_commands.specs.declared.Offered.{Offered}
use Rattle.session_commands.specs.declared.Offered.TheVariants as O
use Rattle.session_commands.specs.declared.OfferStep.{OfferStep}

-- of an offer that is not refused
abbrev pub offered_answer : Offered → Answer
offered_answer O.Immediate = immediate
offered_answer (O.Numbered a) = from_window (WA.offer_answer a)

abbrev pub offer_answer : Result OfferStep Refusal → Answer
offer_answer (Ok t) = offered_answer t.answer
offer_answer (Err f) = refused (number f)

abbrev pub after_offer : Session → Result OfferStep Refusal → Session
after_offer s (Ok t) = after_window s t.window
after_offer s (Err f) = s

abbrev pub take_answer : Result TakeStep Refusal → Answer
take_answer (Ok t) = from_window (WA.take_answer t.answer)
take_answer (Err f) = refused (number f)

abbrev pub after_take : Session → Result TakeStep Refusal → Session
after_take s (Ok t) = after_window s t.window
after_take s (Err f) = s

-- of the inner function: what is read of an offered PDU
abbrev pub offered_of : Result (Option ℕ) Refusal → Book.Offered
offered_of (Ok None) = at_once
offered_of (Ok (Some n)) = numbered n
offered_of (Err f) = denied (number f)
