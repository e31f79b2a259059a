-- Each answer of reading, and each kind of request, is one case of what a PDU is to a login.
use Rattle.std.proofs.lemmas.Result.{err_from_is_err_and}
use Rattle.login.proofs.Answers.{read-refused, read-got}
use Rattle.login.proofs.request.read_login.Goals as goal

pub returns-in_err-p : goal.returns-in_err-p
returns-in_err-p c =
    let e = err_from_is_err_and c.from_residual.result c.from_residual.ensures.1 in
    rw (e.1, e.2) (read-refused _ _ _ c.in_err-p.ensures)

pub returns-in-Login : goal.returns-in-Login
returns-in-Login c = read-got _ _ _ c.in_ok-p.ensures _ c.in-Login.is c.if-new-eq0.false
