use Rattle.key_names.proofs.Table.{name_at_key}
use Rattle.key_names.proofs.name_of.Goals as goal

pub returns : goal.returns
returns c = name_at_key c.args.k _
