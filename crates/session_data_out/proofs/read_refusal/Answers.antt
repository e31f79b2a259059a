-- `session_data_out::read_refusal` meets its contract: reading's refusals pass through, and past those before FIELD only a Data-Out brings data.
use mathlib.Core.Path.{refl, sym, ap, ◌∙◌}
use native.Mathlib.Omega.{arith}
use borrow.Author.Tests.{eqb-false}
use Rattle.refusal.proofs.Laws.{number-positive}
use Rattle.request_header.proofs.FieldRules.{refused-before, long-past}
use Rattle.request_refusal.proofs.OneKind.{denied, granted}
use Rattle.session_data_out.specs.Reading.{data_out_read}
use Rattle.session_data_out.proofs.Outcomes.{data-out-refused, data-out-other, data-out-good}
use Rattle.session_data_out.proofs.read_refusal.Goals as goal

pub returns-in-Err : goal.returns-in-Err
returns-in-Err c =
    let a = c.args in
    let z = eqb-false _ 0 (number-positive c.in-Err.f) in
    let e = refused-before _ _ c.in-Err.ensures.refusal z in
    rw c.number_of.ensures (λ n. absurd (z n), λ x. data-out-refused x a.pdu.now _ z ∙ sym (ap (data_out_read x) e))

pub returns-then-header-data_out_ok : goal.returns-then-header-data_out_ok
returns-then-header-data_out_ok c =
    let a = c.args in (
      λ n. absurd (omega arith),
      λ x. rw c.number_of-then-header-data_out_ok.ensures (denied (data_out_read x) _ a.pdu.now 0x05 c.in-Ok.ensures.header (c.data_out_ok.ensures _)
          (λ o k h. data-out-other x a.pdu.now o h) _ refl c.if-header-data_out_ok.true),
    )

pub returns : goal.returns
returns c =
    let a = c.args in
    let h = c.in-Ok.ensures.header in (
      λ n. long-past _ a.pdu.now (sym h.passed) refl,
      λ x. data-out-good x a.pdu.now
          ∙ granted (data_out_read x) _ a.pdu.now 0x05 h (c.data_out_ok.ensures _) _ refl c.if-header-data_out_ok.false,
    )
