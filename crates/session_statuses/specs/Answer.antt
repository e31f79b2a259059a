-- Paper 01's number and values of each answer, and the session after it.
use Rattle.std.specs.Prelude.{ℕ, Result, Ok, Err}
use Rattle.refusal.specs.Refusal.{number}
use Rattle.refusal.specs.declared.Refusal.{Refusal}
use Rattle.ledger.specs.declared.Released.{Released}
use Rattle.book.specs.Book.{Answer, refused, acknowledged, resent}
use Rattle.session_state.specs.declared.Session.{Session}
use Rattle.session_state.specs.After.{after_ledger}

abbrev pub acknowledge_answer : Result Released Refusal → Answer
acknowledge_answer (Err f) = refused (number f)
acknowledge_answer (Ok x) = acknowledged x.count

abbrev pub after_acknowledge : Session → ℕ → Result Released Refusal → Session
after_acknowledge s c (Err f) = s
after_acknowledge s c (Ok x) = after_ledger s c x.ledger

abbrev pub resend_answer : Result ℕ Refusal → Answer
resend_answer (Err f) = refused (number f)
resend_answer (Ok t) = resent t
