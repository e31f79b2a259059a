-- `session_statuses::acknowledge` meets its contract: what the ledger released, on a connection that is open.
use Rattle.session_statuses.proofs.Outcomes.{acknowledges}
use Rattle.session_statuses.proofs.acknowledge.Goals as goal

pub returns : goal.returns
returns c k ss =
    let a = c.args in
    rw c.ok_or.ensures.value (acknowledges a.s k ss a.conn a.exp_stat_sn _ c.in_ok-l.ensures c.acknowledge.result (c.acknowledge.ensures a.conn ss))
