-- `session_snack::snack` meets its contract: the ledger's run, of what the PDU asks for.
use mathlib.Core.Path.{refl, ◌∙◌}
use Rattle.std.proofs.lemmas.Result.{err_from_is_err_and}
use Rattle.book.specs.Book.{no_outputs}
use Rattle.session_state.proofs.Steps.{refusing, reach-refused}
use Rattle.session_snack.proofs.Outcomes.{snack-eq, asks_nothing, asks_none, asks_run}
use Rattle.session_snack.proofs.snack.Goals as goal

pub returns-in_err-l : goal.returns-in_err-l
returns-in_err-l c k ss =
    let a = c.args in
    let p = err_from_is_err_and c.from_residual.result c.from_residual.ensures.1 in
    rw (p.1, p.2) (refusing _ _ _ no_outputs refl (λ b g.
    snack-eq b a.conn a.pdu.now _ ∙ reach-refused _ b a.conn no_outputs _ _ g c.in_err-l.ensures))

pub returns-in_err-beg_run : goal.returns-in_err-beg_run
returns-in_err-beg_run c k ss =
    let a = c.args in
    let p = err_from_is_err_and c.from_residual-in_err-beg_run.result c.from_residual-in_err-beg_run.ensures.1 in
    rw (p.1, p.2) (asks_nothing a.s k ss a.conn a.pdu.now _ c.in_ok-l.ensures _ (rw c.limits_of.ensures at c.in_err-beg_run.ensures))

pub returns-in_default : goal.returns-in_default
returns-in_default c k ss =
    let a = c.args in
    let e = rw c.limits_of.ensures at c.in_ok-beg_run.ensures in
    asks_none a.s k ss a.conn a.pdu.now _ c.in_ok-l.ensures _ _ e (rw c.in_default.is at (c.run_of.ensures a.conn ss))

pub returns : goal.returns
returns c k ss =
    let a = c.args in
    let e = rw c.limits_of.ensures at c.in_ok-beg_run.ensures in
    asks_run a.s k ss a.conn a.pdu.now _ c.in_ok-l.ensures _ _ e _ _ (rw c.in-Some.is at (c.run_of.ensures a.conn ss))
