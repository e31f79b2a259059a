use mathlib.Core.Path.{ap, ◌∙◌}
use Rattle.std.specs.Prelude.{Ok}
use Rattle.session_send.specs.Answer.{send_answer}
use Rattle.call_words.specs.Session.{nothing, by_send}
use Rattle.call_words.proofs.Unchanged.{refused-said}
use Rattle.send_words.proofs.send_known.Goals as goal
use Rattle.send_words.proofs.send_known.Goals.{in-Some, in_default}

pub returns-in-Err : goal.returns-in-Err
returns-in-Err c k tags ends =
    let load = c.load-s.ensures in
    let call = c.send in
    let e = c.in-Err.is in
    refused-said (rw (load, e) at (call.ensures k tags ends)) c.pack_refused.ensures

pub returns-after-sent : goal.returns-after-sent
returns-after-sent c k tags ends =
    let load = c.load-s.ensures in
    let call = c.send in
    elim c.match-sent.branch [
      | in-Some w ↦
          let e = c.in-Ok.is in
          let kept = w.store_ledger.ensures in
          record {
            answer = send_answer call.result;
            did = rw (w.n-is, kept.1, ← load, e) (rw (e, w.in-Some.is) at (call.ensures k tags ends));
            words = rw e c.pack.ensures;
            writes = rw (w.n-is, kept.0) (by_send _);
            stays = rw e tt;
          }
      | in_default w ↦
          let e = c.in-Ok.is in
          record {
            answer = send_answer call.result;
            did = rw (w.n-is, ← load, e) (rw (e, w.in_default.is) at (call.ensures k tags ends));
            words = rw e c.pack.ensures;
            writes = rw w.n-is nothing;
            stays = rw e tt;
          }
    ]
