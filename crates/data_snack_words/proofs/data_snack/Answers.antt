use mathlib.Core.Path.{refl}
use Rattle.transfer_words.proofs.Outcomes.{refused-moves, moved-moves, kept_record}
use Rattle.data_snack_words.proofs.data_snack.Goals as goal

pub returns-in-Refused : goal.returns-in-Refused
returns-in-Refused c k ss tags ends =
    let s = c.load-s.ensures in
    let t = c.load-t.ensures in
    refused-moves (rw (s, t, c.in-Refused.is) at (c.data_snack.ensures k ss tags ends)) c.refused_by.ensures

pub returns-in-Run : goal.returns-in-Run
returns-in-Run c k ss tags ends =
    let s = c.load-s.ensures in
    let t = c.load-t.ensures in
    moved-moves (rw (s, t, c.in-Run.is) at (c.data_snack.ensures k ss tags ends))
    c.data_run.ensures (kept_record tags ends refl)

pub returns-in-Acknowledged : goal.returns-in-Acknowledged
returns-in-Acknowledged c k ss tags ends =
    let s = c.load-s.ensures in
    let t = c.load-t.ensures in
    let kept = rw t at c.store_data_in.ensures in
    moved-moves (rw (s, t, c.in-Acknowledged.is) at (c.data_snack.ensures k ss tags ends))
    c.data_acknowledged.ensures (kept_record tags ends kept)

pub returns-in-Restarted : goal.returns-in-Restarted
returns-in-Restarted c k ss tags ends =
    let s = c.load-s.ensures in
    let t = c.load-t.ensures in
    let kept = c.store_data_in-in-Restarted.ensures in
    moved-moves (rw (s, t, c.in-Restarted.is) at (c.data_snack.ensures k ss tags ends))
    c.data_run-in-Restarted.ensures (kept_record tags ends kept)
