-- The invariant: what is left, judged after what is settled and answered, gives what the whole block gives, and has a good form if the
-- block has. The measure is what is left.
use Rattle.std.proofs.Common.{◌≡◌, ◌≤◌, ◌+◌, ◌*◌, length, take, drop}
use Rattle.text_block.specs.Block.{formed, pairs}
use Rattle.login_types.specs.Agree.{keys_of}
use Rattle.login_book.specs.Block.{judge}
use Rattle.login_block.specs.Promises.{walk}
use Rattle.login_block.proofs.block.judge_block.Given as goal

abbrev pub invariant-loop-rest : goal.invariant-loop-rest
invariant-loop-rest l = record {
  within : length l.rest ≤ length l.block;
  room : l.count + 78 * l.left ≤ length l.out;
  form : formed l.left l.rest ≡ formed 64 l.block;
  judged : judge l.by.stage l.by.leading l.by.ours.now (keys_of l.settled) (take l.count l.out) (pairs l.left l.rest)
      ≡ judge l.by.stage l.by.leading l.by.ours.now (keys_of l.initial.settled) (take l.start l.initial.out) (pairs 64 l.block);
  walked : walk l.left l.by.stage l.by.leading l.by.ours.now (keys_of l.settled) (take l.count l.out) l.rest
      ≡ walk 64 l.by.stage l.by.leading l.by.ours.now (keys_of l.initial.settled) (take l.start l.initial.out) l.block;
  behind : drop l.count l.out ≡ drop l.count l.initial.out;
}

abbrev pub decreases-loop-rest : goal.decreases-loop-rest
decreases-loop-rest l = length l.rest
