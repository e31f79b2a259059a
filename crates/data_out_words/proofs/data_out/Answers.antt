use Rattle.task.specs.Agree.{record_of}
use Rattle.task_words.specs.TaskWords.{task_of}
use Rattle.session_data_out.proofs.Outcomes.{data-out-refused}
use Rattle.transfer_words.proofs.Outcomes.{refused-moves, moved-moves, kept_record}
use Rattle.data_out_words.proofs.data_out.Goals as goal

pub returns-then-f-ne0 : goal.returns-then-f-ne0
returns-then-f-ne0 c k ss =
    let a = c.args in
    let x = record_of (task_of a.task.now a.wide.now) a.tags.now a.ends.now in
    let f = data-out-refused x a.pdu.now _ c.if-f-ne0.true in
    refused-moves (rw (c.load-s.ensures, f) at (c.data_out_refusal-f.ensures.did x k ss)) c.refused_by.ensures

pub returns-in-Refused : goal.returns-in-Refused
returns-in-Refused c k ss =
    let a = c.args in
    let x = record_of (task_of a.task.now a.wide.now) a.tags.now a.ends.now in
    let d = rw (c.load-s.ensures, c.if-f-ne0.false) at (c.data_out_refusal-f.ensures.did x k ss) in
    let e = rw (c.load-t.ensures, c.in-Refused.is) at c.data_out_in.ensures in
    refused-moves (rw (← e) at d) c.refused_by-in-Refused.ensures

pub returns-in-Came : goal.returns-in-Came
returns-in-Came c k ss =
    let a = c.args in
    let x = record_of (task_of a.task.now a.wide.now) a.tags.now a.ends.now in
    let d = rw (c.load-s.ensures, c.if-f-ne0.false) at (c.data_out_refusal-f.ensures.did x k ss) in
    let e = rw (c.load-t.ensures, c.in-Came.is) at c.data_out_in.ensures in
    moved-moves (rw (← e) at d) c.came.ensures (kept_record a.tags.now a.ends.now c.store_data_out.ensures)
