use Rattle.transfer_words.proofs.Outcomes.{refused-moves, moved-moves, kept_record}
use Rattle.transfer_words.proofs.data_in.Goals as goal

pub returns-in-Err : goal.returns-in-Err
returns-in-Err c k ss tags ends =
    let s = c.load-s.ensures in
    let t = c.load-t.ensures in
    refused-moves (rw (s, t, c.in-Err.is) at (c.data_in.ensures k ss tags ends)) c.pack_refused.ensures

pub returns-in-Ok : goal.returns-in-Ok
returns-in-Ok c k ss tags ends =
    let s = c.load-s.ensures in
    let t = c.load-t.ensures in
    let kept = c.store_data_in.ensures in
    moved-moves (rw (s, t, c.in-Ok.is) at (c.data_in.ensures k ss tags ends))
    c.pack.ensures
    (kept_record tags ends kept)
