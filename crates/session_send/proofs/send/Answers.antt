-- `session_send::send` meets its contract: what the ledger did, on a connection that is open.
use mathlib.Core.Path.{refl}
use Rattle.ledger.specs.Agree.{statuses_in}
use Rattle.task.specs.Agree.{record_of}
use Rattle.session_send.proofs.Outcomes.{sends}
use Rattle.session_send.proofs.send.Goals as goal

pub returns : goal.returns
returns c k ts es =
    let a = c.args in
    let y = record_of a.t ts es in
    sends a.s k (statuses_in a.statuses.now a.status_tickets.now) a.conn a.ticket a.r y _ c.in_ok-l.ensures
    c.completed-whole.result (c.completed-whole.ensures y refl) c.is_due-due.result (c.is_due-due.ensures y refl refl)
    c.longest_of-longest.result c.longest_of-longest.ensures
    c.exp_cmd_sn-e.result c.max_cmd_sn-m.result (c.exp_cmd_sn-e.ensures k) (c.max_cmd_sn-m.ensures k)
    a.out.now c.if-out-lt-HEADER_BYTES.false c.send.new.out (statuses_in c.send.new.headers c.send.new.tickets) c.send.result c.send.ensures
