use borrow.Author.Tests.{le-ltb}
use Rattle.response_writer.specs.Writing.{writing}
use Rattle.response_layout.specs.WholeNumbers.{own_bytes}
use Rattle.response_layout.proofs.Laid.{length-own, front}
use Rattle.response_writer.proofs.write.Goals as goal

pub returns : goal.returns
unfolding writing
returns c =
    let o = c.own_fields-o in
    let a = c.args in
    rw (
      le-ltb _ _ c.if-out-lt-HEADER_BYTES.false,
      ← c.in_ok-judge.ensures,
      c.place.ensures,
      front a.out.now (own_bytes o.result a.n) (length-own o.result a.n),
      ← o.ensures a.n,
    )
