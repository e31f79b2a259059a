use Rattle.response_layout.specs.WholeNumbers.{own_bytes}
use Rattle.response_layout.proofs.Laid.{logout-response-laid}
use Rattle.status_fields.proofs.logout_response.Goals as goal

pub returns : goal.returns
unfolding own_bytes
returns c =
    λ n. rw (
      c.pair.ensures,
      c.four-first.ensures,
      c.pair-2.ensures,
      c.pair-3.ensures,
      c.two-times.ensures,
    )
    (logout-response-laid c.args.x n)
