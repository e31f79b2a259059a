-- The definition, walked to the choice that the code takes.
use Rattle.text.proofs.Laws.{past, quiet}
use Rattle.login_book.specs.Login.{request_step}
use Rattle.login.proofs.Answers.{judged-step}
use mathlib.Core.Path.{refl, sym}
use borrow.Author.Tests.{ne_eqb}
use Rattle.login.proofs.request.request_step.Goals as goal

pub returns : goal.returns
unfolding request_step
returns c =
    let n = quiet _ _ refl c.in_default.ensures in
    let j = c.judge_request-j.ensures in
    judged-step _ c.args.l c.args.q c.args.new _ _ _ _ _ _ _ _ c.finish.ensures j
    (sym (past _ _ _ _ (ne_eqb _ _ c.requires.2) (past _ _ _ _ n (past _ _ _ _ c.if-q.false refl))))
