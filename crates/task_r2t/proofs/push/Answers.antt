-- `task_r2t::push` meets its contract: eight places and fewer than eight R2Ts, so the place after the latest is free.
use Prim.Native.Nat.{◌+◌, ◌%◌}
use mathlib.Core.Path.{◌≡◌}
use native.Mathlib.Omega.{arith}
use borrow.Author.Rules.{rules}
use native.Mathlib.Numerals.{add-one}
use Rattle.task.proofs.Ring.{open-push}
use Rattle.task_r2t.specs.R2T.{Opened}
use Rattle.task_r2t.proofs.push.Goals as goal

pub returns : goal.returns
unfolding Opened
returns c =
    let a = c.args in
    let t = a.t in
    let place : (t.first_open % 8 + t.open_count) % 8 ≡ (t.first_open + t.open_count) % 8 = omega arith in
    rw (place, add-one t.open_count)
    (open-push a.tags.now a.ends.now t.first_open t.open_count a.tag _ (search rules) (search rules) c.requires.few)
