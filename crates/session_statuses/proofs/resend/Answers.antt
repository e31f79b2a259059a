-- `session_statuses::resend` meets its contract: what the ledger shows, on a connection that is open and at a level above 0.
use Prim.Native.Nat.{ℕ}
use mathlib.Core.Path.{ap₂}
use Rattle.ledger.specs.declared.Renewal.{Renewal}
use Rattle.ledger.specs.Agree.{statuses_in}
use Rattle.task_book.specs.declared.Numbering.{Numbering}
use Rattle.task.specs.Agree.{record_of}
use Rattle.session_statuses.proofs.Outcomes.{resends}
use Rattle.session_statuses.proofs.resend.Goals as goal

abbrev renews : Numbering → ℕ → ℕ → Renewal
renews n e m = record { exp_cmd_sn = e; max_cmd_sn = m; numbering = n }

pub returns : goal.returns
returns c k ts es =
    let a = c.args in
    rw c.ok_or.ensures.value
    (resends a.s k (statuses_in a.statuses.now a.status_tickets.now) a.conn a.stat_sn (record_of a.t ts es) _ c.in_ok-l.ensures
    a.out.now c.if-out-lt-HEADER_BYTES.false c.if-s-eq0.false _
    (λ b g. ap₂ (renews a.t.numbering) (c.exp_cmd_sn.ensures k b.window g.window) (c.max_cmd_sn.ensures k b.window g.window))
    c.resend-ticket.new.out c.resend-ticket.result c.resend-ticket.ensures)
