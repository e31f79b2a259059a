-- Where a good pair's name and value end, and that each callee is given them.
use Rattle.std.proofs.Common.{◌≡◌, ℕ, ◌+◌, ◌≤◌, length, Ok, Err, refl, sym, ap, ◌∙◌, arith, rules}
use Rattle.std.proofs.lemmas.Result.{err_from_is_err_and}
use Rattle.text_block.specs.Block.{name_in, value_in}
use Rattle.text_block.proofs.Pairs.{cut-value, cut-start, name-short, good-whole}
use Rattle.key_table.specs.Table.{key_of}
use Rattle.keys.specs.Promises as Code
use Rattle.login_types.specs.Agree.{keys_of}
use Rattle.login_types.proofs.Agree.{keys-after}
use Rattle.key_replies.specs.Answer.{answer_text}
use Rattle.key_replies.proofs.Said.{said-length}
use Rattle.login_book.specs.Block.{judge_first}
use Rattle.login_block.proofs.Blocks.{ended, within}
use Rattle.login_block.proofs.block.judge_first.Goals as goal

said_fits : (r at n : ℕ) → r ≡ at + n → n ≤ 78 → r ≤ at + 78
said_fits r at n e h = omega arith

pub returns-in_err-j : goal.returns-in_err-j
returns-in_err-j c =
    let g = c.args in
    let b = g.by.now in
    let p = c.in-Some.ensures in
    let rest = g.rest.now in
    let j : Err c.in_err-j.field-0.0 ≡ judge_first b.stage b.leading b.ours.now (keys_of g.settled.now) rest =
    rw (← p.key, ← (cut-value rest p.name (ended _ _ p))) c.in_err-j.ensures in
    let e = err_from_is_err_and c.from_residual.result c.from_residual.ensures.1 in
    rw (e.1, e.2) (record { said = rw p.right (sym j); keys = refl; bytes = refl })

pub returns : goal.returns
unfolding answer_text
returns c =
    let g = c.args in
    let b = g.by.now in
    let p = c.in-Some.ensures in
    let rest = g.rest.now in
    let n = name_in rest in
    let s = g.settled.now in
    let said = c.in_ok-j.j in
    let j : Ok said ≡ judge_first b.stage b.leading b.ours.now (keys_of s) rest =
    rw (← p.key, ← (cut-value rest p.name (ended _ _ p))) c.in_ok-j.ensures in
    let a = rw (cut-start rest p.name (good-whole rest p.right)) at c.put_said-count.ensures in
    let u : Code.settled_of c.settle_pair.new.seen c.settle_pair.new.values ≡ Code.after s (key_of n) (Ok said) = rw (← p.key) c.settle_pair.ensures in
    let k : length s.seen ≡ 28 = search rules in
    let v : length s.parameters.values ≡ 12 = search rules in
    let t = rw (← j) at (keys-after s k v n ((keys_of s).came n) b.stage b.leading b.ours.now (value_in rest)) in
    record {
      judgement = said;
      said = rw p.right (sym j);
      settles = ap keys_of u ∙ t;
      text = a;
      few = said_fits _ _ _ a.count (said-length n (Ok said) (name-short rest p.right));
      ended = ended _ _ p;
      inside = within _ _ p;
    }
