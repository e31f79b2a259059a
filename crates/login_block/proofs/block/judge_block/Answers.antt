-- The invariant: what is left, judged after what is settled and answered, gives what the whole block gives, and has a good form if the
-- block has. The measure is what is left.
use Rattle.std.proofs.Common.{◌≡◌, ℕ, suc, zero-le, ◌+◌, ◌-◌, ◌≤◌, true, false, List, [], length, take, drop, refl, sym, ap, ◌∙◌, arith}
use mathlib.Core.Path.{ap₂, subst}
use lib.ListN.{length-drop}
use Rattle.text.proofs.Laws.{rest_part, past, here, appended-rest}
use Rattle.text_block.specs.Block.{formed, pairs, rest_of, empty}
use Rattle.login_types.specs.Agree.{keys_of}
use Rattle.login_book.specs.Block.{judge, stopped}
use Rattle.login_block.specs.Promises.{walked}
use Rattle.login_block.proofs.Blocks.{rest-is, pairs_end, formed_end, formed-long, form-on, judge-on, walk-on, walk-refused, status-refused, walk-none, walk-end, judged-as}
use Rattle.login_block.proofs.block.judge_block.Goals as goal

pub returns-then-left-eq0 : goal.returns-then-left-eq0
returns-then-left-eq0 c =
    let l = c.loop-rest in
    let i = l.invariant in
    let e = c.if-left-eq0.true in
    let f : formed 64 c.args.block.now ≡ false = sym i.form ∙ formed-long l.rest.now l.left (sym c.loop-rest-test.ensures) e in
    judged-as _ _ _ _ _ _ _ _ _ _ l.count (sym (walk-none _ _ _ _ _ _ l.left e) ∙ i.walked) (omega (arith, i.room)) i.behind (sym (past _ _ _ _ f refl)) zero-le

pub loop-rest-preserved : goal.loop-rest-preserved
loop-rest-preserved c =
    let l = c.loop-rest in
    let i = l.invariant in
    let x = c.args.by.now in
    let b = l.rest.now in
    let m = l.left - 1 in
    let f = c.in-Ok.ensures in
    let j = f.judgement in
    let s = keys_of l.settled in
    let t = take l.count l.out in
    let h : empty b ≡ false = sym c.loop-rest-test.ensures in
    let n : l.left ≡ suc m = omega (arith, c.if-left-eq0.false) in
    let e = c.in-Ok.f.end + 1 in
    let d : take (length b - e) (drop e b) ≡ drop e b = rest_part e b in
    let r : take (length b - e) (drop e b) ≡ rest_of b = d ∙ rest-is b c.in-Ok.f.end f.ended in
    record {
      within = subst (λ (z : List ℕ). length z ≤ length c.args.block.now) (sym d) (omega (arith, length-drop e b, i.within));
      room = omega (arith, f.few, i.room, n);
      form = form-on x.stage x.leading x.ours.now s t b j f.said h m f.settles f.text.text r ∙ rw n at i.form;
      judged = judge-on x.stage x.leading x.ours.now s t b j f.said h m f.settles f.text.text r ∙ rw n at i.judged;
      walked = walk-on x.stage x.leading x.ours.now s t b j f.said h m f.settles f.text.text r ∙ rw n at i.walked;
      behind = appended-rest _ f.text i.behind;
    }

pub returns-in-Err : goal.returns-in-Err
returns-in-Err c =
    let l = c.loop-rest in
    let i = l.invariant in
    let x = c.args.by.now in
    let b = l.rest.now in
    let f = c.in-Err.ensures in
    let s = keys_of l.settled in
    let t = take l.count l.out in
    let n : l.left ≡ suc (l.left - 1) = omega (arith, c.if-left-eq0.false) in
    let v = walk-refused x.stage x.leading x.ours.now s t b c.in-Err.status f.said l.left in
    let e = rw (← n) at (status-refused x.stage x.leading x.ours.now s t b c.in-Err.status f.said (sym c.loop-rest-test.ensures) (l.left - 1)) in
    judged-as _ _ _ _ _ _ _ _ _ _ l.count (ap₂ walked f.keys (ap (take l.count) f.bytes) ∙ sym v ∙ i.walked) (omega (arith, i.room, ap length f.bytes))
    (ap (drop l.count) f.bytes ∙ i.behind) (ap stopped c.pair_status.ensures ∙ rw (i.form, i.judged) at e) zero-le

pub returns : goal.returns
unfolding judge
returns c =
    let l = c.loop-rest in
    let i = l.invariant in
    let h : empty l.rest.now ≡ true = sym c.loop-rest-test.ensures in
    let e : pairs l.left l.rest.now ≡ [] = pairs_end l.rest.now l.left h in
    let f : formed 64 c.args.block.now ≡ true = sym i.form ∙ formed_end l.rest.now l.left h in
    let room : l.count ≤ length l.out = omega (arith, i.room) in
    judged-as _ _ _ _ _ _ _ _ _ _ l.count (sym (walk-end _ _ _ _ _ _ l.left h) ∙ i.walked) room i.behind (rw e at i.judged ∙ sym (here _ _ _ f)) room
