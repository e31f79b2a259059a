-- `window_offer::offer` meets its contract.
use Rattle.std.proofs.Common.{◌≡◌, ℕ, ◌+◌, ◌*◌, ◌<◌, List, ◌++◌, get_or, sym, refl, ap, ◌∙◌, arith, length-take-le, take-take}
use lib.ListN as ListN
use lib.Seq.{paste}
use Rattle.window.specs.PlaceSlot.{slot_of}
use Rattle.place_map.specs.Bit.{bit_at}
use Rattle.place_map.proofs.Bits.{bit-lt}
use Rattle.window.specs.Book.{empty}
use Rattle.window.specs.Agree.{commands, Puts}
use Rattle.window.proofs.Steps.{met, held_none, difference}
use Rattle.window_offer.proofs.Steps.{ahead-is, offer-at, step-duplicate, step_kept, place-bit, keep-agrees}
use Rattle.window_offer.proofs.offer.Goals as goal

paste-front : (d s : List ℕ) (at : ℕ) → paste d at s 48 ≡ paste d at (ListN.take 48 s) 48
paste-front d s at = ap (λ (r : List ℕ). ListN.take at d ++ r ++ ListN.drop (at + 48) d) (sym (take-take 48 48 s (omega arith)))

zero_bit : (n d r : ℕ) → r ≡ bit_at n d → (r ≡ 1 → ⊥) → r ≡ 0
zero_bit n d r e h = omega (arith, bit-lt n d)

pub returns-then-bit-eq1 : goal.returns-then-bit-eq1
returns-then-bit-eq1 c =
    let a = c.args in
    record {
      meets = λ b g.
          met _ _ _ _ _ b b
          (offer-at a.w a.number a.ticket a.conn _ b g.next
          ∙ step-duplicate b _ _ (omega (arith, g.share)) (place-bit a.w _ b _ 1 g (sym c.if-bit-eq1.true ∙ c.bit.ensures))) g;
      stays = refl;
      out_size = refl;
      out_rest = refl;
    }

pub returns : goal.returns
unfolding Puts
returns c =
    let slot = c.slot_of-slot in
    let bit = c.bit in
    let a = c.args in
    let d = difference a.w a.number in
    let cs = commands a.headers.now a.tickets.now in
    let header = ListN.take 48 a.pdu.now in
    let at : slot.result ≡ slot_of a.w d = slot.ensures.0 in
    let put = c.put.ensures ∙ paste-front a.headers.now a.pdu.now (slot.result * 48) in
    record {
      meets = λ b g.
          let low : d < b.share = omega (arith, g.share) in
          let none : get_or b.held d empty ≡ empty =
          held_none (get_or b.held d empty)
          (place-bit a.w cs b d bit.result g bit.ensures
          ∙ zero_bit a.w.held d bit.result bit.ensures c.if-bit-eq1.false) in
          rw (put, at) (met _ _ _ _ _ b _
          (offer-at a.w a.number a.ticket a.conn header b g.next ∙ step_kept b d _ low none)
          (keep-agrees a.w _ cs b d a.ticket a.conn header g low none (length-take-le 48 a.pdu.now (omega arith)) (omega arith)
          c.entered-after.ensures));
      stays = rw (ahead-is a.w a.number (omega arith), ← at) (put, refl);
      out_size = refl;
      out_rest = refl;
    }
