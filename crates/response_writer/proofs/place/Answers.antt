use Rattle.response_layout.proofs.Laid.{placed}
use Rattle.response_writer.proofs.place.Goals as goal

pub returns : goal.returns
returns c =
    let a = c.args in
    let numbers = rw c.stat_sn_in-stat_sn.ensures at c.pair-numbers.ensures in
    rw (
      c.put-6.ensures,
      c.put-5.ensures,
      c.put-4.ensures,
      c.put-3.ensures,
      c.put-2.ensures,
      c.put.ensures,
    )
    (placed a.out.now a.at a.o a.n _ _ c.requires numbers c.pair-last.ensures)
