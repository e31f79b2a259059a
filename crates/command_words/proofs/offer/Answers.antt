use Rattle.session_commands.specs.Answer.{offered_answer}
use Rattle.call_words.specs.Session.{by_offer}
use Rattle.call_words.proofs.Unchanged.{refused-said, immediate-said, offered-moves}
use Rattle.command_words.proofs.offer.Goals as goal

pub returns-in-Immediate : goal.returns-in-Immediate
returns-in-Immediate c ss = immediate-said (rw (c.load-s.ensures, c.in-Immediate.is) at (c.in-Ok.ensures ss)) c.pack.ensures

pub returns-in-Numbered : goal.returns-in-Numbered
returns-in-Numbered c ss =
    let e = c.in-Numbered.is in
    let kept = c.store_window.ensures in
    record {
      answer = offered_answer c.in-Ok.step.answer;
      did = rw (kept.2, ← c.load-s.ensures, e) (rw e at (c.in-Ok.ensures ss));
      words = rw e c.placed.ensures;
      writes = rw (kept.0, kept.1) (by_offer c.in-Ok.step.window);
      stays = rw e (offered-moves c.in-Numbered.x _ _ _ _);
    }

pub returns-in-Err : goal.returns-in-Err
returns-in-Err c ss = refused-said (rw c.load-s.ensures at (c.in-Err.ensures ss)) c.pack_refused.ensures
