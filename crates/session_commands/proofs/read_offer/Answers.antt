-- `session_commands::read_offer` meets its contract: reading's refusals pass through, and past those before FIELD `offered-as` decides.
use mathlib.Core.Path.{sym, ap, ◌∙◌}
use borrow.Author.Tests.{eqb-false}
use Rattle.std.proofs.lemmas.Result.{err_from_is_err_and}
use Rattle.refusal.proofs.Laws.{number-positive}
use Rattle.request_header.proofs.FieldRules.{refused-before}
use Rattle.book.specs.Book.{offered_as}
use Rattle.session_commands.proofs.Requests.{offered-as}
use Rattle.session_commands.proofs.read_offer.Goals as goal

pub returns-in_err-header : goal.returns-in_err-header
returns-in_err-header c =
    let p = err_from_is_err_and c.from_residual.result c.from_residual.ensures.1 in
    let f = c.in_err-header.field-0.0 in
    rw (p.1, p.2) (sym (ap offered_as (refused-before _ _ c.in_err-header.ensures.refusal (eqb-false _ 0 (number-positive f)))))

pub returns-then-not-is_offered : goal.returns-then-not-is_offered
returns-then-not-is_offered c = offered-as _ _ c.in_ok-header.ensures.header c.is_offered.ensures c.if-not-is_offered.true

pub returns-then-flag : goal.returns-then-flag
returns-then-flag c =
    let o = offered-as _ _ c.in_ok-header.ensures.header c.is_offered.ensures c.if-not-is_offered.false in
    rw (sym c.flag.ensures ∙ c.if-flag.true) at o

pub returns-else-flag : goal.returns-else-flag
returns-else-flag c =
    let o = offered-as _ _ c.in_ok-header.ensures.header c.is_offered.ensures c.if-not-is_offered.false in
    rw c.be32.ensures (rw (sym c.flag.ensures ∙ c.if-flag.false) at o)
