-- Paper 01's number and values of a send's answer, and the session after it.
use Rattle.std.specs.Prelude.{ℕ, Option, Some, None, Result, Ok, Err}
use Rattle.refusal.specs.Refusal.{number}
use Rattle.refusal.specs.declared.Refusal.{Refusal}
use Rattle.ledger.specs.declared.Ledger.{Ledger}
use Rattle.ledger.specs.declared.Sent.{Sent}
use Rattle.book.specs.Book.{Answer, refused, sent}
use Rattle.session_state.specs.declared.Session.{Session}
use Rattle.session_state.specs.After.{after_ledger}

abbrev pub send_answer : Result Sent Refusal → Answer
send_answer (Err f) = refused (number f)
send_answer (Ok x) = sent x.stat_sn

abbrev pub after_written : Session → ℕ → Option Ledger → Session
after_written s c None = s
after_written s c (Some l) = after_ledger s c l

abbrev pub after_send : Session → ℕ → Result Sent Refusal → Session
after_send s c (Err f) = s
after_send s c (Ok x) = after_written s c x.ledger
