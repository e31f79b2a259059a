use Rattle.field.proofs.Laws.{bytes-high_first}
use Rattle.field.proofs.put_four.Goals as goal

pub returns : goal.returns
returns c = rw (c.place.ensures, c.to_be_bytes.ensures, ← bytes-high_first 4 c.args.v)
