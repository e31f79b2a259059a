-- `session_data_out::data_out` meets its contract: what judging says, and of a good one the step on the task's record.
use Rattle.task.specs.Agree.{record_of}
use Rattle.session_data_out.proofs.Outcomes.{data-out-refused}
use Rattle.session_data_out.proofs.data_out.Goals as goal

pub returns-then-f-ne0 : goal.returns-then-f-ne0
returns-then-f-ne0 c k ss =
    let a = c.args in
    let x = record_of a.t a.tags.now a.ends.now in
    rw (data-out-refused x a.pdu.now _ c.if-f-ne0.true) at (c.data_out_refusal-f.ensures.did x k ss)

pub returns : goal.returns
returns c k ss =
    let a = c.args in
    let x = record_of a.t a.tags.now a.ends.now in
    rw c.data_out_in.ensures (rw c.if-f-ne0.false at (c.data_out_refusal-f.ensures.did x k ss))
