-- `request_verdict::snack_header` meets its contract: reading's refusals pass through, and past those before FIELD only a SNACK is not FIELD.
use mathlib.Core.Path.{◌≡◌, refl, sym, ap}
use mathlib.Core.Bool.{true}
use mathlib.Core.List.{List}
use Prim.Native.Nat.{ℕ}
use borrow.Author.Tests.{eqb-false}
use Rattle.std.proofs.lemmas.Result.{err_from_is_err_and}
use Rattle.refusal.proofs.Laws.{number-positive}
use Rattle.request_header.specs.Request.{known, got, refused, pdu_of}
use Rattle.request_header.specs.Verdicts.{snack_only}
use Rattle.request_header.proofs.FieldRules.{refused-before}
use Rattle.request_refusal.proofs.OneKind.{denied, granted, not-snack}
use Rattle.request_verdict.proofs.snack_header.Goals as goal

other : (s : List ℕ) (o : ℕ) → known o ≡ true → (o ≡ 0x10 → ⊥) → snack_only (got (pdu_of o s)) ≡ refused 3
unfolding pdu_of
other s o k h = not-snack s (refused 3) (λ q. got (pdu_of o s)) o k h

pub returns-in_err-header-clause-refusal : goal.returns-in_err-header-clause-refusal
returns-in_err-header-clause-refusal c =
    let p = err_from_is_err_and c.from_residual.result c.from_residual.ensures.1 in
    let f = c.in_err-header.field-0.0 in
    rw (p.1, p.2) (ap snack_only (refused-before _ _ c.in_err-header.ensures.refusal (eqb-false _ 0 (number-positive f))))

pub returns-then-header-snack_ok-clause-refusal : goal.returns-then-header-snack_ok-clause-refusal
returns-then-header-snack_ok-clause-refusal c =
    sym (denied snack_only _ _ 0x10 c.in_ok-header.ensures.header (c.snack_ok.ensures _) (other _) _ refl c.if-header-snack_ok.true)

pub returns-clause-header : goal.returns-clause-header
returns-clause-header c =
    let h = c.in_ok-header.ensures.header in
    record {
      good = sym (granted (λ a. a) _ _ 0x10 h (c.snack_ok.ensures _) _ refl c.if-header-snack_ok.false);
      first = h.first;
    }
