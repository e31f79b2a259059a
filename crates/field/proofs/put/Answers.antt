use Rattle.field.proofs.Laws.{bytes-high_first}
use Rattle.field.proofs.put.Goals as goal

pub returns : goal.returns
returns c = rw (c.place.ensures, c.to_be_bytes.ensures, ← bytes-high_first 8 c.args.v)
