-- `session_questions::holder_in` meets its contract: a command's ticket lies in the slot of its number.
use Rattle.std.proofs.Common.{sym, ◌∙◌, arith}
use Rattle.window.specs.Agree.{commands, held_bit, void_bit}
use Rattle.window.proofs.Steps.{difference, distance_is}
use Rattle.session_questions.proofs.Holders.{bit-at, slot_is, place-held}
use Rattle.session_questions.proofs.holder_in.Goals as goal

pub returns : goal.returns
returns c h b g =
    let a = c.args in
    let k = commands h a.tickets.now in
    rw (← (slot_is a.w a.number (omega arith)))
    (place-held b a.number _ (distance_is b a.w a.number g.next) k _ _
    (λ z. c.if-bit-eq0.false (sym (bit-at _ _ _ held_bit b.held g.held c.bit.ensures) ∙ z))
    (λ z. c.if-bit-eq1.false (sym (bit-at _ _ _ void_bit b.held g.voided c.bit-2.ensures) ∙ z))
    (g.in_slots (difference a.w a.number)) (c.origin_at-origin.ensures k b g))
