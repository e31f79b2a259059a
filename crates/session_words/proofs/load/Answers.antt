use mathlib.Core.Path.{refl}
use mathlib.Core.List.{[]}
use Rattle.session_words.specs.State.{session_of}
use Rattle.session_words.proofs.load.Goals as goal

pub returns : goal.returns
returns c = rw (c.window_of.ensures, c.conns_of.ensures []) (unfold session_of in refl)
