-- `session_commands::is_offered` meets its contract. The check finds these two alone too, but gives up on the wrong code of the edits `data_out_offered` and
-- `login_offered` at a limit, where these say that it is false.
use Rattle.request_header.proofs.FieldRules.{and-true}
use Rattle.session_commands.proofs.Requests.{not-offered}
use Rattle.session_commands.proofs.is_offered.Goals as goal
use Rattle.request_header.specs.Request.{request_of}

pub returns-in-6 : goal.returns-in-6
unfolding request_of
returns-in-6 c = rw (c.in-6.is, and-true) (c.logout_ok.ensures _)

pub returns-in_default : goal.returns-in_default
returns-in_default c = let n = c.in_default.in_default-own.rest in not-offered _ c.args.s.now _ n.0.0.0.1 n.0.0.1 n.0.1 n.1
