use Rattle.session_questions.specs.Answer.{next_answer}
use Rattle.call_words.proofs.Unchanged.{shown-said}
use Rattle.question_words.proofs.next.Goals as goal

pub returns : goal.returns
returns c k ss =
    let call = c.next_stat_sn-a in
    shown-said (next_answer call.result) (rw c.load-s.ensures at (call.ensures k ss)) c.next.ensures
