-- `pdu_words::read` meets its contract: past the refusals before FIELD each arm is its kind's, and the last is SNACK, the one opcode left.
use mathlib.Core.Path.{refl, sym, ap, ◌∙◌}
use Rattle.request_header.specs.Request.{known, opcode_of}
use Rattle.request_header.proofs.FieldRules.{known-last, known_past}
use Rattle.request_header.proofs.Header.{first-opcode}
use Rattle.request_words.proofs.Reading.{kind_decides}
use Rattle.pdu_words.proofs.read.Goals as goal

pub returns-in-0 : goal.returns-in-0
returns-in-0 c = kind_decides _ _ _ _ c.in-Ok.ensures.header c.in-0.is (c.nop_out.ensures _)

pub returns-in-1 : goal.returns-in-1
returns-in-1 c = kind_decides _ _ _ _ c.in-Ok.ensures.header c.in-1.is (c.scsi_command.ensures _)

pub returns-in-3 : goal.returns-in-3
returns-in-3 c = kind_decides _ _ _ _ c.in-Ok.ensures.header c.in-3.is (c.login.ensures _)

pub returns-in-5 : goal.returns-in-5
returns-in-5 c = kind_decides _ _ _ _ c.in-Ok.ensures.header c.in-5.is (c.data_out.ensures _)

pub returns-in-6 : goal.returns-in-6
returns-in-6 c = kind_decides _ _ _ _ c.in-Ok.ensures.header c.in-6.is (c.logout.ensures _)

pub returns-in_default : goal.returns-in_default
returns-in_default c =
    let h = c.in-Ok.ensures.header in
    let n = c.in_default.in_default-own.rest in
    let k = ap (λ x. known (opcode_of x)) h.first ∙ ap known (first-opcode c.args.input.now) ∙ known_past _ c.args.input.now (sym h.passed) refl in
    kind_decides _ _ _ _ h
    (known-last _ k n.0.0.0.0.0.1 n.0.0.0.0.1 n.0.0.0.1 n.0.0.1 n.0.1 n.1)
    (c.snack.ensures _)
