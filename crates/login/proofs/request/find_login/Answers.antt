-- The refusals in their order, then what the PDU is read as.
use Rattle.login.proofs.Answers.{found-small, found-closed, found-read}
use Rattle.login.proofs.request.find_login.Goals as goal

pub returns-then-gather-text : goal.returns-then-gather-text
returns-then-gather-text c = found-small _ _ _ _ _ c.if-gather-text.true

pub returns-then-over : goal.returns-then-over
returns-then-over c = found-closed _ _ _ _ _ c.if-gather-text.false c.if-over.true

pub returns : goal.returns
returns c = found-read _ _ _ _ _ c.if-gather-text.false c.if-over.false _ c.read_login.ensures
