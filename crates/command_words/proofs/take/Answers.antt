use Rattle.window.specs.Agree as WA
use Rattle.book.specs.Book.{from_window}
use Rattle.call_words.specs.Session.{by_take}
use Rattle.call_words.proofs.Unchanged.{refused-said, taken-moves}
use Rattle.command_words.proofs.take.Goals as goal

pub returns-in-Ok : goal.returns-in-Ok
returns-in-Ok c ss =
    let kept = c.store_window.ensures in
    record {
      answer = from_window (WA.take_answer c.in-Ok.taken.answer);
      did = rw (kept.2, ← c.load-s.ensures) (c.in-Ok.ensures ss);
      words = c.handed_out.ensures;
      writes = rw (kept.0, kept.1) (by_take c.in-Ok.taken.window);
      stays = taken-moves c.in-Ok.taken.answer _ _ _ _;
    }

pub returns-in-Err : goal.returns-in-Err
returns-in-Err c ss = refused-said (rw c.load-s.ensures at (c.in-Err.ensures ss)) c.refused.ensures
