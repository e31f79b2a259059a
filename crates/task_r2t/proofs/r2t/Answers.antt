-- `task_r2t::r2t` meets its contract.
use mathlib.Core.Path.{sym, ◌∙◌}
use mathlib.Core.List.{[]}
use Rattle.task_r2t.specs.R2T.{R2TSent}
use Rattle.task_r2t.proofs.Laws.{code-fits}
use Rattle.task_r2t.proofs.r2t.Goals as goal

pub r2t_sent-sent-requires : goal.r2t_sent-sent-requires
r2t_sent-sent-requires c = code-fits _ _ _ _ (c.r2t_ok.ensures [] []) c.if-r2t_ok.true

pub push-requires : goal.push-requires
push-requires c =
    code-fits _ _ _ _ (c.r2t_ok.ensures [] []) c.if-r2t_ok.true

pub returns-then-r2t_ok : goal.returns-then-r2t_ok
unfolding R2TSent
returns-then-r2t_ok c =
    let ok = c.r2t_ok in
    let a = c.args in
    c.r2t_sent-sent.ensures a.tags.now a.ends.now _ _ (sym (ok.ensures a.tags.now a.ends.now) ∙ c.if-r2t_ok.true)
    c.push.ensures
