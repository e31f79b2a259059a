use native.Mathlib.Omega.{arith}
use Rattle.field.proofs.Laws.{bytes-join}
use Rattle.field.proofs.two.Goals as goal

pub returns : goal.returns
returns c = bytes-join 2 2 c.args.a c.args.b (omega arith)
