-- `session_commands::take` meets its contract: BUFFER, else the window's step.
use mathlib.Core.Path.{refl, ◌∙◌}
use Rattle.book.specs.Book.{outputs}
use Rattle.session_state.proofs.Steps.{refusing, lend-short, lend-long, by-window}
use Rattle.session_commands.proofs.Outcomes.{take-eq}
use Rattle.session_commands.proofs.take.Goals as goal

pub returns-then-out-lt-HEADER_BYTES : goal.returns-then-out-lt-HEADER_BYTES
returns-then-out-lt-HEADER_BYTES c ss =
    let a = c.args in
    refusing _ _ 1 (outputs a.out.now) refl (λ b g. take-eq b (outputs a.out.now) _ ∙ lend-short b (outputs a.out.now) _ c.if-out-lt-HEADER_BYTES.true)

pub returns : goal.returns
returns c ss =
    let a = c.args in
    by-window _ _ a.s ss _ _ _ _ refl (λ k. tt) c.take.ensures (λ b g. take-eq b (outputs a.out.now) _ ∙ lend-long b (outputs a.out.now) _ c.if-out-lt-HEADER_BYTES.false)
