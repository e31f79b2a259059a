use mathlib.Core.Path.{refl}
use Rattle.transfer_words.proofs.Outcomes.{makes, kept_record}
use Rattle.transfer_words.proofs.make.Goals as goal

pub returns-in-Err : goal.returns-in-Err
returns-in-Err c tags ends =
    makes _ (rw c.in-Err.is at (c.make.ensures tags ends)) c.pack_refused.ensures refl

pub returns-in-Ok : goal.returns-in-Ok
returns-in-Ok c tags ends =
    makes _
    (rw c.in-Ok.is at (c.make.ensures tags ends))
    c.pack.ensures (kept_record tags ends c.store.ensures.2)
