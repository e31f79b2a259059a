use Rattle.login_text.proofs.Written.{written-by}
use Rattle.login_text.proofs.verdict.judge_text.Goals as goal

pub returns : goal.returns
returns c =
    let p = c.put_answer-verdict.ensures in
    let j = c.judge_block-v in
    written-by _ _ _ _ c.args.s _ _ _ j.new.settled _ _ _ _ _ _ _ c.start_text-at.ensures.text j.ensures c.is_named.ensures p.0 p.1
    c.settled_after-settled.ensures
