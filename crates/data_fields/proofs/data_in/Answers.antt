use Rattle.response_layout.specs.WholeNumbers.{own_bytes}
use Rattle.response_layout.proofs.Laid.{data-in-laid}
use Rattle.data_fields.proofs.data_in.Goals as goal

pub returns : goal.returns
unfolding own_bytes
returns c =
    λ n. rw (
      c.pair.ensures,
      c.four-first.ensures,
      c.weight.ensures.0,
      c.weight-2.ensures.0,
      c.low_three-length.ensures,
      c.pair-2.ensures,
      c.pair-3.ensures,
    )
    (data-in-laid c.args.x n)
