-- Nothing was gathered, or the piece was joined to what was, and what stood there is put back where the block is refused.
use Rattle.login_gather.specs.Promises.{block_of}
use Rattle.login_gather.proofs.Area.{judged-own, judged-joined}
use native.Mathlib.Nat.{le_trans}
use borrow.Author.Tests.{eq-eqb}
use Rattle.login_gather.proofs.gather.judge_request.Goals as goal

pub returns-then-at-eq0 : goal.returns-then-at-eq0
unfolding block_of
returns-then-at-eq0 c =
    let e = eq-eqb _ 0 c.if-at-eq0.true in
    judged-own _ _ _ _ _ _ _ _ _ _ _ e (rw (c.block_of.ensures, e) at c.judge_text.ensures)

pub returns : goal.returns
returns c =
    let p = c.requires in
    judged-joined _ _ _ _ _ _ _ _ _ _ _ _ _ _ _ _ c.if-at-eq0.false (le_trans p.2 p.0) c.join-total.ensures c.block_of-2.ensures c.judge_text-j.ensures c.undo.ensures
