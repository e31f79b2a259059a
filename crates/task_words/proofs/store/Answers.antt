use mathlib.Core.Path.{refl}
use Rattle.words.proofs.Flags.{as_word}
use Rattle.task_words.proofs.Kept.{kept}
use Rattle.task_words.proofs.store.Goals as goal

pub returns : goal.returns
returns c = rw (c.from.ensures, as_word) (refl, refl, kept c.args.t)
