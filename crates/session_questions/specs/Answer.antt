-- What the answers of the code say.
use Rattle.std.specs.Prelude.{ℕ, Result, Ok, Err}
use Rattle.refusal.specs.declared.Refusal.{Refusal}
use Rattle.refusal.specs.Refusal.{number}
use Rattle.window.specs.Book as W
use Rattle.window.specs.Agree.{origin_of}
use Rattle.book.specs.Book.{Answer, refused, told, next_is}
use Rattle.session_questions.specs.declared.HolderAnswer.{HolderAnswer}
use Rattle.session_questions.specs.declared.HolderAnswer.TheVariants as H

abbrev pub next_answer : Result ℕ Refusal → Answer
next_answer (Ok n) = told (next_is n)
next_answer (Err f) = refused (number f)

abbrev pub holder_answer : HolderAnswer → W.Holder
holder_answer H.Free = W.free
holder_answer H.Void = W.heldVoid
holder_answer (H.By t o) = W.held_by t (origin_of o)
