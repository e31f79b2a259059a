use native.Mathlib.Omega.{arith}
use mathlib.Core.Path.{◌∙◌}
use borrow.Author.Rules.{rules}
use Rattle.std.proofs.lemmas.Slice.{put_mid-paste}
use Rattle.field.proofs.Laws.{paste-sets}
use Rattle.field.proofs.place.Goals as goal

pub returns : goal.returns
returns g c =
    let a = c.args in
    put_mid-paste a.at _ a.h.now _ a.bytes g.row.N c.copy_from_slice.ensures.after (omega arith) (search rules)
    ∙ paste-sets a.h.now a.at a.bytes g.row.N (search rules) c.requires
