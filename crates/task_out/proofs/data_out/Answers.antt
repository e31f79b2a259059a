-- `task_out::data_out` meets its contract: the oldest open R2T lies at the first place, and those after it from the next place on.
use Prim.Native.Nat.{◌<◌}
use native.Mathlib.Omega.{arith}
use Rattle.task_out.proofs.Laws.{out-left, out-ends, out-goes-on}
use Rattle.task_out.proofs.data_out.Goals as goal
use Rattle.task_out.proofs.data_out.Goals.{then-p, else-p}

pub overflow_add-data_sn-else-p : goal.overflow_add-data_sn-else-p
overflow_add-data_sn-else-p c =
    let a = c.args in
    let ok = c.data_out_ok in
    record {
      fits = out-left a.t a.tags.now a.ends.now a.initiator_task_tag a.p a.length
          (omega (arith, c.if-count-eq0.false))
          ok.result (ok.ensures a.tags.now a.ends.now) c.if-not-data_out_ok.false;
    }

pub returns : goal.returns
returns c =
    let a = c.args in
    let ok = c.data_out_ok in
    let opened : 0 < a.t.open_count = omega (arith, c.if-count-eq0.false) in
    let told = ok.ensures a.tags.now a.ends.now in
    elim c.if-p.branch [
      | then-p w ↦ rw w.data_sn-is
          (out-ends a.t a.tags.now a.ends.now a.initiator_task_tag a.p a.length opened ok.result told c.if-not-data_out_ok.false w.if-p.true)
      | else-p w ↦ rw w.data_sn-is
          (out-goes-on a.t a.tags.now a.ends.now a.initiator_task_tag a.p a.length opened ok.result told c.if-not-data_out_ok.false w.if-p.false)
    ]
