use Rattle.session_statuses.specs.Answer.{resend_answer}
use Rattle.call_words.proofs.Unchanged.{shown-said}
use Rattle.status_words.proofs.resend.Goals as goal

pub returns : goal.returns
returns c k tags ends =
    let call = c.resend-a in
    let s = c.load-s.ensures in
    let t = c.load-t.ensures in
    shown-said (resend_answer call.result) (rw (s, t) at (call.ensures k tags ends)) c.resent.ensures
