-- `request_verdict::fields_ok` meets its contract: each arm is its kind's rules, and the last is SNACK, the one opcode left.
use Rattle.request_header.proofs.FieldRules.{known-last}
use Rattle.request_verdict.proofs.fields_ok.Goals as goal

pub returns-in_default : goal.returns-in_default
returns-in_default c =
    let n = c.in_default.in_default-own.rest in
    rw
    (known-last _ c.requires
    n.0.0.0.0.0.1 n.0.0.0.0.1 n.0.0.0.1 n.0.0.1 n.0.1 n.1)
    (c.snack_ok.ensures _)
