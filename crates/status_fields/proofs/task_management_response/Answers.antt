use Rattle.response_layout.specs.WholeNumbers.{own_bytes}
use Rattle.response_layout.proofs.Laid.{task-management-response-laid}
use Rattle.status_fields.proofs.task_management_response.Goals as goal

pub returns : goal.returns
unfolding own_bytes
returns c =
    λ n. rw (
      c.pair.ensures,
      c.four-first.ensures,
      c.pair-2.ensures,
    )
    (task-management-response-laid c.args.x n)
