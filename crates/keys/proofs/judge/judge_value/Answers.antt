-- Only the first twelve keys are of the kinds that a row settles.
use Rattle.key_table.proofs.Tables.{code, in_table, number-place, place-few}
use Rattle.std.proofs.Common.{arith}
use Rattle.keys.proofs.judge.judge_value.Goals as goal

pub row_of-requires : goal.row_of-requires
unfolding code
row_of-requires c = rw number-place (in_table _ (place-few c.args.k) (rw (← c.requires) (grind arith)))
