use mathlib.Core.Path.{refl, sym, ◌∙◌}
use Rattle.login_words.proofs.Kept.{unmoved, areas-left}
use Rattle.login_request_words.proofs.request.Goals as goal

pub returns-then-changes_nothing : goal.returns-then-changes_nothing
returns-then-changes_nothing c =
    let r = c.login_request-step in
    let l = c.load-l.ensures in
    let e = sym c.changes_nothing.ensures ∙ c.if-changes_nothing.true in
    let u = unmoved r.result.answer c.load-l.result r.result.state r.ensures.stays e in
    record {
      answer = r.result.answer;
      words = c.answer_in_words.ensures;
      outcome = rw (u, l) at r.ensures.outcome;
      stays = rw (u, l) at r.ensures.stays;
      kept = rw e refl;
      areas = areas-left _ _ _ r.result.answer _ _ r.ensures.outcome;
    }
