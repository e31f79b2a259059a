use Rattle.std.proofs.Common.{◌≡◌}
use native.Mathlib.Omega.{arith}
use Rattle.session_changes.specs.Changes.{shut_numbers}
use Rattle.session_changes.proofs.Kept.{all_closed}
use Rattle.session_changes.proofs.close.Goals as goal

pub returns-after-loop-c : goal.returns-after-loop-c
unfolding shut_numbers
returns-after-loop-c c =
    let a = c.args in
    let all : c.loop-c.c ≡ 4 = omega arith in
    let i = rw all at c.loop-c.invariant in
    (rw c.in-Session.is i, λ m. rw (c.in-Session.is, i) (all_closed a.conn a.n.now m c.told-n))
