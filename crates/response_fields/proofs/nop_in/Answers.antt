use Rattle.response_layout.specs.WholeNumbers.{own_bytes}
use Rattle.response_layout.proofs.Laid.{nop-in-laid}
use Rattle.response_fields.proofs.nop_in.Goals as goal

pub returns : goal.returns
unfolding own_bytes
returns c =
    λ n. rw (
      c.pair.ensures,
      c.four-first.ensures,
      c.low_three-length.ensures,
      c.pair-2.ensures,
    )
    (nop-in-laid c.args.x n)
