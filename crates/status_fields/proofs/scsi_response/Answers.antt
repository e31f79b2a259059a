use Rattle.response_layout.specs.WholeNumbers.{own_bytes}
use Rattle.response_layout.proofs.Laid.{scsi-response-laid}
use Rattle.status_fields.proofs.scsi_response.Goals as goal

pub returns : goal.returns
unfolding own_bytes
returns c =
    λ n. rw (
      c.pair.ensures,
      c.four-first.ensures,
      c.weight.ensures.0,
      c.weight-2.ensures.0,
      c.low_three-length.ensures,
      c.pair-2.ensures,
      c.pair-3.ensures,
    )
    (scsi-response-laid c.args.x n)
