-- `ledger_held::acknowledge` meets its contract: it is good where the ExpStatSN is no further from the oldest than the count held.
use Prim.Native.Nat.{ℕ, ◌-◌, ◌≤◌}
use mathlib.Core.Path.{◌≡◌, refl, ap, ◌∙◌}
use native.Mathlib.Omega.{arith}
use borrow.Author.Tests.{le-leb}
use lib.ListN.{length}
use Rattle.ledger.specs.Book.{place, is_good}
use Rattle.ledger.specs.Answer.{acknowledged, acknowledging}
use Rattle.ledger.proofs.Laws.{release-agrees}
use Rattle.ledger_held.proofs.acknowledge.Goals as goal

pub returns : goal.returns
unfolding acknowledging is_good
returns c k ss b g =
    let a = c.args in
    let e : c.place_of-count.result ≡ place b a.exp_stat_sn = c.place_of-count.ensures k ss b g in
    let left : (c.place_of-count.result ≤ a.l.held) × (c.in_ok-held.held ≡ a.l.held - c.place_of-count.result) = c.in_ok-held.ensures in
    let le : place b a.exp_stat_sn ≤ length b.held = omega (arith, g.held, left) in
    record {
      answer = rw (le-leb _ _ le) (ap acknowledged e);
      agrees = release-agrees k a.l _ ss b a.exp_stat_sn g le refl (left.1 ∙ ap (λ (x : ℕ). a.l.held - x) e);
    }
