use Rattle.session_connections.specs.Answer.{open_answer}
use Rattle.call_words.specs.Session.{by_opening}
use Rattle.call_words.proofs.Unchanged.{refused-said}
use Rattle.connection_words.proofs.open.Goals as goal

pub returns-in-Err : goal.returns-in-Err
returns-in-Err c k ss =
    let load = c.load.ensures in
    let call = c.open_connection in
    let e = c.in-Err.is in
    refused-said (rw (load, e) at (call.ensures k ss)) c.pack_refused.ensures

pub returns-in-Ok : goal.returns-in-Ok
returns-in-Ok c k ss =
    let load = c.load.ensures in
    let call = c.open_connection in
    let e = c.in-Ok.is in
    let kept = c.store_conn.ensures in
    record {
      answer = open_answer call.result;
      did = rw (kept.1, ← load, e) (rw e at (call.ensures k ss));
      words = rw e c.pack.ensures;
      writes = rw kept.0 (by_opening _);
      stays = rw e tt;
    }
