use Rattle.response_layout.specs.WholeNumbers.{own_bytes}
use Rattle.response_layout.proofs.Laid.{r2t-laid}
use Rattle.data_fields.proofs.r2t.Goals as goal

pub returns : goal.returns
unfolding own_bytes
returns c =
    λ n. rw (
      c.pair.ensures,
      c.four-first.ensures,
      c.pair-2.ensures,
      c.pair-3.ensures,
    )
    (r2t-laid c.args.x n)
