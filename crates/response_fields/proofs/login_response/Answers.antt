use Rattle.response_layout.specs.WholeNumbers.{own_bytes}
use Rattle.response_layout.proofs.Laid.{login-response-laid}
use Prim.Native.Nat.{◌+◌, ◌*◌}
use Rattle.response_header.specs.Response.{weigh}
use Rattle.field.proofs.Laws.{bytes_cut}
use Rattle.response_fields.proofs.login_response.Goals as goal

pub returns : goal.returns
unfolding own_bytes
returns c =
    λ n. rw (
      c.pair.ensures,
      c.four-first.ensures,
      c.login_flags-flags.ensures,
      bytes_cut 1 (weigh c.args.x.transit 0x80 + c.args.x.csg * 4 + c.args.x.nsg),
      c.low_three-length.ensures,
      c.six_two.ensures,
      c.pair-2.ensures,
      c.four.ensures,
    )
    (login-response-laid c.args.x n)
