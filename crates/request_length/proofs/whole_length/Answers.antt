-- `request_length::whole_length` meets its contract: what the header says the input says.
use mathlib.Core.Path.{◌∙◌}
use borrow.Author.Tests.{lt-ltb}
use Rattle.request_header.specs.Request.{length_asked}
use Rattle.request_header.proofs.Framing.{header-length}
use Rattle.request_length.proofs.whole_length.Goals as goal

pub returns-in_default : goal.returns-in_default
unfolding length_asked
returns-in_default c = rw (lt-ltb _ _ (rw c.in_default.is at c.first_chunk.ensures.cases))

pub returns : goal.returns
returns c =
    let h = rw c.in-Some.is at c.first_chunk.ensures.cases in
    c.length_of.ensures ∙ header-length _ _ h.enough h.same
