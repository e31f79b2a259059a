use Rattle.request_header.specs.Request.{length_answer_of}
use Rattle.book.specs.Book.{length_reply}
use Rattle.call_words.specs.Session.{state_of}
use Rattle.call_words.proofs.Unchanged.{shown-said}
use Rattle.question_words.proofs.length.Goals as goal

pub returns : goal.returns
returns c s =
    let call = c.whole_length-a in
    shown-said (length_reply (length_answer_of call.result)) (call.ensures (state_of s)) c.length.ensures
