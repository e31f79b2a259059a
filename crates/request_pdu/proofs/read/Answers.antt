use mathlib.Core.Path.{refl, sym, ap, ap₂, ◌∙◌}
use borrow.Author.Tests.{eqb-false}
use Rattle.std.proofs.lemmas.Result.{err_from_is_err_and}
use Rattle.refusal.proofs.Laws.{number-positive}
use Rattle.request_header.proofs.FieldRules.{read-good, read-refused}
use Rattle.request_header.proofs.Header.{first-opcode, first-pdu}
use Rattle.request_pdu.proofs.read.Goals as goal

pub returns-in_err-header : goal.returns-in_err-header
returns-in_err-header c =
    let p = err_from_is_err_and c.from_residual.result c.from_residual.ensures.1 in
    let f = c.in_err-header.field-0.0 in
    rw (p.1, p.2) (sym (read-refused _ _ (c.in_err-header.ensures.refusal) (eqb-false _ 0 (number-positive f))))

pub returns : goal.returns
returns c =
    let s = c.args.input.now in
    let h = c.in_ok-header.ensures.header in
    rw (read-good _ s (sym h.good) refl, c.pdu.ensures, h.first, first-opcode s, first-pdu s)
