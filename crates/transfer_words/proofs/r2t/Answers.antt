use Rattle.transfer_words.proofs.Outcomes.{refused-moves, moved-moves, kept_record}
use Rattle.transfer_words.proofs.r2t.Goals as goal

pub returns-in-Err : goal.returns-in-Err
returns-in-Err c k ss =
    let s = c.load-s.ensures in
    let t = c.load-t.ensures in
    let e = c.in-Err.is in
    let stays = rw e at c.r2t.ensures.1 in
    rw (stays.0, stays.1) (refused-moves (rw (s, t, e) at (c.r2t.ensures.0 k ss)) c.pack_refused.ensures)

pub returns-in-Ok : goal.returns-in-Ok
returns-in-Ok c k ss =
    let s = c.load-s.ensures in
    let t = c.load-t.ensures in
    let kept = c.store_r2t.ensures in
    moved-moves (rw (s, t, c.in-Ok.is) at (c.r2t.ensures.0 k ss)) c.pack.ensures
    (kept_record c.r2t.new.tags c.r2t.new.ends kept)
