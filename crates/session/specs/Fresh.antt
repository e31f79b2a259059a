-- The state that a fresh session is made with.
use Rattle.window.specs.Agree.{commands}
use Rattle.ledger.specs.Agree.{statuses_in}
use Rattle.session_state.specs.Agree.{State, state}
use Rattle.session.specs.declared.FreshSession.{FreshSession}

abbrev pub fresh_state : FreshSession → State
fresh_state r = state r.session (commands r.headers r.tickets) (statuses_in r.statuses r.status_tickets)
