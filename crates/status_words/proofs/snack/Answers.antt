use Rattle.session_snack.specs.Answer.{snack_answer}
use Rattle.call_words.proofs.Unchanged.{shown-said}
use Rattle.status_words.proofs.snack.Goals as goal

pub returns : goal.returns
returns c k ss =
    let call = c.snack-a in
    shown-said (snack_answer call.result) (rw c.load-s.ensures at (call.ensures k ss)) c.run.ensures
