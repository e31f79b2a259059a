use Rattle.book.specs.Book.{told, holding}
use Rattle.session_questions.specs.Answer.{holder_answer}
use Rattle.call_words.proofs.Unchanged.{shown-said}
use Rattle.question_words.proofs.holder.Goals as goal

pub returns : goal.returns
returns c h ss =
    let call = c.holder-a in
    shown-said (told (holding (holder_answer call.result))) (rw c.load-s.ensures at (call.ensures h ss)) c.holder.ensures
