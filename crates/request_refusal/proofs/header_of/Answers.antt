-- `request_refusal::header_of` meets its contract: each return is the definition's number, by the length that the header states. What the header says the
-- input says.
use mathlib.Core.Path.{sym, ◌∙◌}
use borrow.Author.Tests.{lt-ltb}
use Rattle.std.proofs.lemmas.Result.{err_from_is_err_and}
use Rattle.request_header.specs.Verdicts.{refusal_before_field}
use Rattle.request_header.proofs.Framing.{unframed-before, framed-before, misframed-before, header-length}
use Rattle.request_refusal.proofs.header_of.Goals as goal

pub returns-in_default-clause-refusal : goal.returns-in_default-clause-refusal
unfolding refusal_before_field
returns-in_default-clause-refusal c = rw (lt-ltb _ _ (rw c.in_default.is at c.first_chunk.ensures.cases))

pub returns-in_err-whole-clause-refusal : goal.returns-in_err-whole-clause-refusal
returns-in_err-whole-clause-refusal c =
    let h = rw c.in-Some.is at c.first_chunk.ensures.cases in
    let p = err_from_is_err_and c.from_residual.result c.from_residual.ensures.1 in
    rw (p.1, p.2) (sym (unframed-before _ _ _ (sym (header-length _ _ h.enough h.same) ∙ sym c.in_err-whole.ensures)))

pub returns-then-input-whole-clause-refusal : goal.returns-then-input-whole-clause-refusal
returns-then-input-whole-clause-refusal c =
    let h = rw c.in-Some.is at c.first_chunk.ensures.cases in
    sym (misframed-before _ _ _ (sym (header-length _ _ h.enough h.same) ∙ sym c.in_ok-whole.ensures) c.if-input-whole.true)

pub returns-clause-header : goal.returns-clause-header
returns-clause-header c =
    let h = rw c.in-Some.is at c.first_chunk.ensures.cases in
    record {
      passed = framed-before _ _ _ (sym (header-length _ _ h.enough h.same) ∙ sym c.in_ok-whole.ensures) c.if-input-whole.false;
      first = h.same;
    }
