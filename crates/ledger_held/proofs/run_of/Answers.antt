-- `ledger_held::run_of` meets its contract: one outcome of the run for each way through the code.
use mathlib.Core.Path.{ap₂}
use borrow.Author.Tests.{eq-eqb, ne_eqb, le-leb, lt-leb}
use Rattle.ledger.specs.Book.{run_of}
use Rattle.ledger.specs.Answer.{run}
use Rattle.ledger.proofs.Laws.{run-far, run-near}
use Rattle.ledger_held.proofs.run_of.Goals as goal
use Rattle.ledger_held.proofs.run_of.Goals.{then-run_length-eq0, else-run_length-eq0}

pub returns-then-beg_run-run_length : goal.returns-then-beg_run-run_length
unfolding run_of
returns-then-beg_run-run_length c k ss b g = rw c.if-beg_run-run_length.true (ap₂ run (c.oldest.ensures k ss b g) g.held)

pub returns-then-held-place : goal.returns-then-held-place
returns-then-held-place c k ss b g =
    let a = c.args in
    let p = c.place_of-place in
    run-far b a.beg_run a.run_length p.result a.l.held (p.ensures k ss b g) g.held c.if-beg_run-run_length.false c.if-held-place.true

pub returns-then-count-left : goal.returns-then-count-left
returns-then-count-left c k ss b g =
    let a = c.args in
    let p = c.place_of-place in
    let i = c.if-run_length-eq0 in
    rw (le-leb _ _ c.if-count-left.true) at
    (run-near b a.beg_run a.run_length p.result a.l.held (p.ensures k ss b g) g.held c.if-beg_run-run_length.false
    c.if-held-place.false i.count (elim i.branch [
      | then-run_length-eq0 w ↦ rw (eq-eqb a.run_length 0 w.if-run_length-eq0.true) w.count-is
      | else-run_length-eq0 w ↦ rw (ne_eqb a.run_length 0 w.if-run_length-eq0.false) w.count-is
    ]))

pub returns-else-count-left : goal.returns-else-count-left
returns-else-count-left c k ss b g =
    let a = c.args in
    let p = c.place_of-place in
    let i = c.if-run_length-eq0 in
    rw (lt-leb _ _ c.if-count-left.false) at
    (run-near b a.beg_run a.run_length p.result a.l.held (p.ensures k ss b g) g.held c.if-beg_run-run_length.false
    c.if-held-place.false i.count (elim i.branch [
      | then-run_length-eq0 w ↦ rw (eq-eqb a.run_length 0 w.if-run_length-eq0.true) w.count-is
      | else-run_length-eq0 w ↦ rw (ne_eqb a.run_length 0 w.if-run_length-eq0.false) w.count-is
    ]))
