use Rattle.book.specs.Book.{told, numbers}
use Rattle.call_words.proofs.Unchanged.{shown-said}
use Rattle.question_words.proofs.window.Goals as goal

pub returns : goal.returns
returns c k ss =
    let call = c.window_numbers-a in
    let r = call.result in
    shown-said (told (numbers r.exp_cmd_sn r.max_cmd_sn)) (rw c.load-s.ensures at (call.ensures k ss)) c.numbers.ensures
