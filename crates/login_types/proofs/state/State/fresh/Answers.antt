use Rattle.login_types.specs.Agree.{fresh_login}
use Rattle.login_types.proofs.Agree.{is-fresh}
use Rattle.login_types.proofs.state.State.fresh.Goals as goal

pub returns : goal.returns
unfolding fresh_login
returns c = is-fresh _ (rw c.fresh.ensures)
