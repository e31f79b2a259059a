-- Paper 01's number and values of each answer.
use Rattle.std.specs.Prelude.{Result, Ok, Err}
use Rattle.refusal.specs.declared.Refusal.{Refusal}
use Rattle.refusal.specs.Refusal.{number}
use Rattle.window.specs.Book as W
use Rattle.book.specs.Book.{Answer, refused, opened, window}
use Rattle.session_state.specs.declared.Conn.{Conn}
use Rattle.session_connections.specs.declared.LoggedOut.{LoggedOut}

abbrev pub open_answer : Result Conn Refusal → Answer
open_answer (Err f) = refused (number f)
open_answer (Ok k) = opened

abbrev pub logout_answer : Result LoggedOut Refusal → Answer
logout_answer (Err f) = refused (number f)
logout_answer (Ok l) = window (W.logged_out l.emptied l.voided)
