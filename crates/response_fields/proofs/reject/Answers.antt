use Rattle.response_layout.specs.WholeNumbers.{own_bytes}
use Rattle.response_layout.proofs.Laid.{reject-laid}
use Rattle.response_fields.proofs.reject.Goals as goal

pub returns : goal.returns
unfolding own_bytes
returns c = λ n. rw (c.pair.ensures, c.four-first.ensures, c.pair-2.ensures) (reject-laid c.args.x n)
