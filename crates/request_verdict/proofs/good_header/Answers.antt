use mathlib.Core.Path.{◌≡◌, refl, sym, ap, ap₂, ◌∙◌}
use mathlib.Core.List.{List}
use Prim.Native.Nat.{ℕ}
use borrow.Author.Tests.{eqb-false}
use lib.ListN.{take}
use Rattle.std.proofs.lemmas.Result.{err_from_is_err_and}
use Rattle.refusal.proofs.Laws.{number-positive}
use Rattle.request_header.specs.declared.Limits.{Limits}
use Rattle.request_header.specs.Request.{opcode_of, known}
use Rattle.request_header.specs.Verdicts.{fields_ok}
use Rattle.request_header.proofs.Header.{first-opcode, first-fields-ok}
use Rattle.request_header.proofs.FieldRules.{first-before-field, first-by-fields, known_past}
use Rattle.request_verdict.proofs.good_header.Goals as goal

-- the field rules of a header are those of its input
alike : (m : Limits) (s h : List ℕ) → h ≡ take 48 s → fields_ok m (opcode_of h) h ≡ fields_ok m (opcode_of s) s
alike m s h e = rw (e, first-opcode s) (first-fields-ok s m (opcode_of s))

pub returns-in_err-header-clause-refusal : goal.returns-in_err-header-clause-refusal
returns-in_err-header-clause-refusal c =
    let p = err_from_is_err_and c.from_residual.result c.from_residual.ensures.1 in
    let f = c.in_err-header.field-0.0 in
    rw (p.1, p.2) (first-before-field _ _ c.in_err-header.ensures.refusal (eqb-false _ 0 (number-positive f)))

pub fields_ok-requires : goal.fields_ok-requires
fields_ok-requires c =
    let h = c.in_ok-header.ensures.header in
    let s = c.args.input.now in
    ap (λ (x : List ℕ). known (opcode_of x)) h.first ∙ ap known (first-opcode s) ∙ known_past _ s (sym h.passed) refl

pub returns-then-fields_ok-clause-header : goal.returns-then-fields_ok-clause-header
returns-then-fields_ok-clause-header c =
    let h = c.in_ok-header.ensures.header in
    record {
      good = sym (first-by-fields _ _ (sym h.passed) refl (c.fields_ok.ensures ∙ alike _ _ _ h.first) c.if-fields_ok.true);
      first = h.first;
    }

pub returns-else-fields_ok-clause-refusal : goal.returns-else-fields_ok-clause-refusal
returns-else-fields_ok-clause-refusal c =
    let h = c.in_ok-header.ensures.header in
    first-by-fields _ _ (sym h.passed) refl (c.fields_ok.ensures ∙ alike _ _ _ h.first) c.if-fields_ok.false
