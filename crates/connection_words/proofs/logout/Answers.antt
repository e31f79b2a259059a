use Rattle.session_connections.specs.Answer.{logout_answer}
use Rattle.call_words.specs.Session.{by_logout}
use Rattle.call_words.proofs.Unchanged.{refused-said}
use Rattle.connection_words.proofs.logout.Goals as goal

pub returns-in-Err : goal.returns-in-Err
returns-in-Err c k ss =
    let load = c.load.ensures in
    let call = c.logout in
    let e = c.in-Err.is in
    refused-said (rw (load, e) at (call.ensures k ss)) c.refused.ensures

pub returns-in-Ok : goal.returns-in-Ok
returns-in-Ok c k ss =
    let load = c.load.ensures in
    let call = c.logout in
    let e = c.in-Ok.is in
    let shut = c.close.ensures in
    let kept = c.store_window.ensures in
    record {
      answer = logout_answer call.result;
      did = rw (shut.1, kept.2, ← load, e) (rw e at (call.ensures k ss));
      words = rw e c.logged_out.ensures;
      writes = rw (shut.0, kept.0, kept.1) (by_logout c.in-Ok.l.window _);
      stays = rw e tt;
    }
