use Rattle.session_statuses.specs.Answer.{acknowledge_answer}
use Rattle.call_words.specs.Session.{by_acknowledge}
use Rattle.call_words.proofs.Unchanged.{refused-said}
use Rattle.status_words.proofs.acknowledge.Goals as goal

pub returns-in-Err : goal.returns-in-Err
returns-in-Err c k ss =
    let load = c.load-s.ensures in
    let call = c.acknowledge in
    let e = c.in-Err.is in
    refused-said (rw (load, e) at (call.ensures k ss)) c.pack_refused.ensures

pub returns-in-Ok : goal.returns-in-Ok
returns-in-Ok c k ss =
    let load = c.load-s.ensures in
    let call = c.acknowledge in
    let e = c.in-Ok.is in
    let kept = c.store_ledger.ensures in
    record {
      answer = acknowledge_answer call.result;
      did = rw (kept.1, ← load, e) (rw e at (call.ensures k ss));
      words = rw e c.pack.ensures;
      writes = rw kept.0 (by_acknowledge _);
      stays = rw e tt;
    }
