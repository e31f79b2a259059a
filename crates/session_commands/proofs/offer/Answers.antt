-- `session_commands::offer` meets its contract: each way through the code is one outcome of the book; what is numbered is the window's step.
use mathlib.Core.Path.{sym, refl, ◌∙◌}
use mathlib.Core.List.{[]}
use lib.ListN.{take}
use Rattle.std.proofs.lemmas.Result.{err_from_is_err_and}
use Rattle.window.specs.Book as W
use Rattle.book.specs.Book.{no_outputs}
use Rattle.book.proofs.Small.{offered-number}
use Rattle.session_state.proofs.Steps.{met, as_lent, refusing, reach-refused, by-window}
use Rattle.session_commands.proofs.Outcomes.{offer-eq, offer-open, offer-refused, offer-immediate, offer-numbered, numbered-long}
use Rattle.session_commands.proofs.offer.Goals as goal

pub returns-in_err-reach : goal.returns-in_err-reach
returns-in_err-reach c ss =
    let a = c.args in
    let p = err_from_is_err_and c.from_residual.result c.from_residual.ensures.1 in
    rw (p.1, p.2)
    (refusing _ _ _ no_outputs refl (λ b g. offer-eq b a.conn a.ticket a.pdu.now _ ∙ reach-refused _ b a.conn no_outputs _ _ g c.in_err-reach.ensures))

pub returns-in_err-n : goal.returns-in_err-n
returns-in_err-n c ss =
    let a = c.args in
    let p = err_from_is_err_and c.from_residual-in_err-n.result c.from_residual-in_err-n.ensures.1 in
    let n = rw c.limits_of.ensures at c.in_err-n.ensures in
    rw (p.1, p.2) (refusing _ _ _ no_outputs refl (λ b g.
    offer-open _ b a.conn a.ticket a.pdu.now _ _ _ g c.in_ok-reach.ensures n
    ∙ offer-refused b a.conn a.ticket _ a.pdu.now))

pub returns-in_default : goal.returns-in_default
returns-in_default c ss =
    let a = c.args in
    let n = rw (c.in_default.is, c.limits_of.ensures) at c.in_ok-n.ensures in
    record {
      meets = λ b g.
          met _ _ _ _ _ b b
          (offer-open _ b a.conn a.ticket a.pdu.now _ _ _ g c.in_ok-reach.ensures n
          ∙ offer-immediate b a.conn a.ticket a.pdu.now) g;
      stays = refl;
      keeps = as_lent refl;
    }

pub offer-step-requires : goal.offer-step-requires
offer-step-requires c =
    let i = c.in_ok-reach.ensures in
    let n = rw c.in-Some.is at c.in_ok-n.ensures in
    (i.near, numbered-long _ _ _ n)

pub returns : goal.returns
returns c ss =
    let a = c.args in
    let n = rw (c.in-Some.is, c.limits_of.ensures) at c.in_ok-n.ensures in
    by-window _ (W.offer _ a.ticket a.conn (take 48 a.pdu.now)) a.s ss _ _ _ [] refl
    (λ k. rw (offered-number _ a.pdu.now _ (sym n)) at k) c.offer-step.ensures (λ b g.
    offer-open _ b a.conn a.ticket a.pdu.now _ _ _ g c.in_ok-reach.ensures n
    ∙ offer-numbered b a.conn a.ticket _ a.pdu.now)
