-- `session_data_snack::data_snack` meets its contract: the outcomes of the connection, and on an open one the step on the task's record.
use mathlib.Core.Path.{refl, sym, ◌∙◌}
use Rattle.book.specs.Book.{no_outputs}
use Rattle.task.specs.Agree.{data_snack_step_of}
use Rattle.session_state.specs.Agree.{state}
use Rattle.session_state.proofs.Steps.{refusing, reach-refused, open_at, reach-open}
use Rattle.session_state.proofs.Transfers.{as-transferred}
use Rattle.session_data_snack.proofs.Outcomes.{data-snack-eq, data-snack-live}
use Rattle.session_data_snack.proofs.data_snack.Goals as goal

pub returns-in-Err : goal.returns-in-Err
returns-in-Err c k ss ts es =
    let a = c.args in
    rw c.from.ensures (refusing _ _ _ no_outputs refl (λ b g.
    data-snack-eq b _ _ _ _ _ ∙ reach-refused (state a.s k ss) b a.conn no_outputs _ _ g c.in-Err.ensures))

pub returns-in-Ok : goal.returns-in-Ok
returns-in-Ok c k ss ts es =
    let a = c.args in
    as-transferred _ _ (data_snack_step_of a.t ts es c.read_data_snack.result) no_outputs refl (λ b g.
    let v = open_at (state a.s k ss) b a.conn _ g c.in-Ok.ensures in
    data-snack-eq b _ _ _ _ _ ∙ reach-open b a.conn no_outputs _ v.book v.near v.is
    ∙ data-snack-live b v.book a.t ts es _ (v.agrees.limits ∙ sym c.limits_of-limits.ensures) _ a.pdu.now a.offset a.s.level
    c.read_data_snack.result g.level (c.read_data_snack.ensures ts es))
