-- `window_take::take` meets its contract: the first bits of the maps say which of the three answers it is.
use Rattle.std.proofs.Common.{◌≡◌, ◌*◌, ◌≤◌, ◌++◌, length, drop, refl, arith, length-drop}
use lib.Seq.{length-paste, drop-paste}
use Rattle.store.specs.Slot.{in_slot}
use Rattle.window.specs.Book.{handed_on}
use Rattle.window.specs.PlaceSlot.{slot_of}
use Rattle.window.specs.Agree.{commands}
use Rattle.window.proofs.Steps.{met}
use Rattle.window_take.proofs.Steps.{take-void, take-command}
use Rattle.window_take.proofs.take.Goals as goal

pub returns-then-w-eq1 : goal.returns-then-w-eq1
returns-then-w-eq1 c =
    let a = c.args in
    record {
      meets = λ b g. met _ _ _ _ _ b (handed_on b) (take-void a.w (commands a.headers.now a.tickets.now) b a.out.now g c.if-w-eq1.true)
          (c.handed_on-after.ensures _ b g);
      stays = refl;
      out_size = refl;
      out_rest = refl;
    }

pub returns : goal.returns
returns c =
    let got = c.get in
    let slot = c.slot_of-slot in
    let is_whole = c.if-w-eq1.false in
    let on = c.handed_on-after in
    let is_held_lem = c.if-w-eq0.false in
    let a = c.args in
    let h = a.headers.now in
    let cs = commands h a.tickets.now in
    let e : got.new.out ≡ in_slot h slot.result ++ drop 48 a.out.now = unfold in_slot in got.ensures in
    let at : slot.result ≡ slot_of a.w 0 = slot.ensures.0 in
    let room : 48 ≤ length (drop (slot.result * 48) h) = rw length-drop (omega (arith, slot.ensures.1)) in
    record {
      meets = λ b g.
          rw (e, at) (met _ _ _ _ _ b (handed_on b)
          (take-command a.w cs b _ a.out.now g is_held_lem is_whole (c.origin_at-origin.ensures cs b g))
          (on.ensures cs b g));
      stays = tt;
      out_size = rw got.ensures (length-paste a.out.now 0 (drop (slot.result * 48) h) 48 (omega arith) room);
      out_rest = rw got.ensures (drop-paste a.out.now 0 (drop (slot.result * 48) h) 48 (omega arith) room);
    }
