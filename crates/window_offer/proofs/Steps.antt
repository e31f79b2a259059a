-- An offer of the code against the book's: a duplicate, one that is kept, and agreement with a command more.
use Rattle.std.proofs.Common.{◌≡◌, ℕ, ◌*◌, ◌^◌, ◌<◌, false, List, [], length, get_or, set, sym, refl, ap, ◌∙◌, arith, length-set, get_or-set_other, get_or-set_same, lt-ltb}
use native.Mathlib.Decide.{ℕ_discrete, dec_lt}
use borrow.Author.Tests.{tests}
use lib.ListN.{get_or-eq_default}
use lib.Seq.{paste, length-paste}
use Rattle.store.specs.Slot.{in_slot}
use Rattle.store.proofs.Slots.{slot_same, slot-other}
use Rattle.place_map.specs.Bit.{bit_at, with_bit}
use Rattle.window.specs.declared.Window.{Window}
use Rattle.window.specs.PlaceSlot.{slot_of}
use Rattle.window.specs.Book.{connection, Command, Place, empty, holds, Book, next, offer, kept, duplicate, step, keeping, offer_at, offer_step, book_step, one-if, is_from}
use Rattle.window.specs.Agree.{Commands, commands, state, held_bit, void_bit, origin_bit, Maps, SlotHas, Agrees, Enters, ahead}
use Rattle.window.proofs.PlaceSlot.{slot-fits, slot_apart, slot-stays}
use Rattle.window.proofs.Bits.{maps-set, maps-keep}
use Rattle.window.proofs.Steps.{difference, distance_is}

module _ (w : Window) (n t c : ℕ) (h : List ℕ) where
  abbrev pub offered : Command
  offered = record { header = h; ticket = t; origin = connection c; void = false }

  pub offer-at : (b : Book) → w.next ≡ next b → book_step b (offer n t c h) ≡ offer_step b (difference w n) offered
  unfolding book_step
  offer-at b e = ap (λ (x : ℕ). offer_step b x offered) (distance_is b w n e)

module _ (b : Book) (d : ℕ) (e : Command) where
  pub step-duplicate : d < b.share → held_bit (get_or b.held d empty) ≡ 1 → offer_step b d e ≡ step duplicate [] b
  unfolding offer_step held_bit offer_at
  step-duplicate l h = grind (arith, tests)

  pub step_kept : d < b.share → get_or b.held d empty ≡ empty → offer_step b d e ≡ step kept [] (keeping b d e)
  unfolding offer_step offer_at
  step_kept l h = rw (lt-ltb d b.share l, h)

slot_kept : (cs cs' : Commands) (j : ℕ) (p : Place) → in_slot cs'.headers j ≡ in_slot cs.headers j → get_or cs'.tickets j 0 ≡ get_or cs.tickets j 0
    → SlotHas cs j p → SlotHas cs' j p
unfolding SlotHas
slot_kept cs cs' j p e q s = grind arith

from-other : (c cn : ℕ) → (c ≡ cn → ⊥) → one-if (is_from c (connection cn)) ≡ 0
unfolding is_from
from-other c cn l = grind (arith, tests)

from-same : (cn : ℕ) → one-if (is_from cn (connection cn)) ≡ 1
unfolding is_from
from-same cn = grind (arith, tests)

pub place-bit : (w : Window) (cs : Commands) (b : Book) (d r : ℕ) → Agrees (state w cs) b → r ≡ bit_at w.held d → held_bit (get_or b.held d empty) ≡ r
unfolding Maps
place-bit w cs b d r g e = sym (g.held d) ∙ sym e

-- a command put at an empty place
pub keep-agrees : (w w' : Window) (cs : Commands) (b : Book) (d tk cn : ℕ) (hd : List ℕ) → Agrees (state w cs) b → d < b.share
    → get_or b.held d empty ≡ empty → length hd ≡ 48
    → cn < 4 → Enters w d cn w'
    → Agrees (state w' (commands (paste cs.headers (slot_of w d * 48) hd 48) (set cs.tickets (slot_of w d) tk)))
    (keeping b d (record { header = hd; ticket = tk; origin = connection cn; void = false }))
unfolding keeping origin_bit next
keep-agrees w w' cs b d tk cn hd g l em lh m n = record {
  origins_size = ap length n.origins ∙ length-set w.origins cn (with_bit (get_or w.origins cn 0) d) ∙ g.origins_size;
  next = n.next ∙ g.next;
  handed = n.handed ∙ g.handed;
  share = g.share;
  size = length-set b.held d (holds e) ∙ g.size;
  headers_size = length-paste cs.headers (i * 48) hd 48 (omega (arith, g.headers_size, slot-fits w d)) (omega arith) ∙ g.headers_size;
  tickets_size = length-set cs.tickets i tk ∙ g.tickets_size;
  held = rw n.held (with-bit held_bit w.held (unfold held_bit in refl) g.held);
  voided = rw n.voided (same_bit void_bit w.voided (unfold void_bit in refl) g.voided);
  origins = λ c. own c (ℕ_discrete c cn);
  in_slots = λ j. rw (slot-stays w w' j n.next) (at j (ℕ_discrete j d) (dec_lt j b.share));
}
  where
    e : Command
    e = record { header = hd; ticket = tk; origin = connection cn; void = false }

    i : ℕ
    i = slot_of w d

    cs' : Commands
    cs' = commands (paste cs.headers (i * 48) hd 48) (set cs.tickets i tk)

    with-bit : (f : Place → ℕ) (m : ℕ) → f (holds e) ≡ 1 → Maps m f b.held → Maps (with_bit m d) f (set b.held d (holds e))
    with-bit f m o k = maps-set f m d (holds e) b.held k (omega (arith, g.size)) o

    same_bit : (f : Place → ℕ) (m : ℕ) → f (holds e) ≡ f empty → Maps m f b.held → Maps m f (set b.held d (holds e))
    same_bit f m o k = maps-keep f m d (holds e) b.held k (omega (arith, g.size)) (o ∙ ap f (sym em))

    own : (c : ℕ) → Dec (c ≡ cn) → Maps (get_or w'.origins c 0) (origin_bit c) (set b.held d (holds e))
    own c (yes q) =
        rw (n.origins, q, get_or-set_same w.origins cn (with_bit (get_or w.origins cn 0) d) 0 (omega (arith, g.origins_size)))
        (with-bit (origin_bit cn) (get_or w.origins cn 0) (from-same cn) (g.origins cn))
    own c (no q) =
        rw (n.origins, get_or-set_other w.origins cn c (with_bit (get_or w.origins cn 0) d) 0 q)
        (same_bit (origin_bit c) (get_or w.origins c 0) (from-other c cn q) (g.origins c))

    at : (j : ℕ) → Dec (j ≡ d) → Dec (j < b.share) → SlotHas cs' (slot_of w j) (get_or (set b.held d (holds e)) j empty)
    at j (yes q) u =
        rw (q, get_or-set_same b.held d (holds e) empty (omega (arith, g.size)))
        (unfold SlotHas in (
          slot_same cs.headers hd i (omega (arith, g.headers_size, slot-fits w d)) lh,
          get_or-set_same cs.tickets i tk 0 (omega (arith, g.tickets_size, slot-fits w d)),
        ))
    at j (no q) (yes u) =
        let apart : slot_of w j ≡ i → ⊥ = λ x. q (slot_apart w j d (omega (arith, g.share)) (omega (arith, g.share)) x) in
        rw (get_or-set_other b.held d j (holds e) empty q)
        (slot_kept cs cs' (slot_of w j) (get_or b.held j empty)
        (slot-other cs.headers hd i (slot_of w j) (omega (arith, g.headers_size, slot-fits w d)) (omega (arith, g.headers_size, slot-fits w j)) lh apart)
        (get_or-set_other cs.tickets i (slot_of w j) tk 0 apart)
        (g.in_slots j))
    at j (no q) (no u) =
        rw (get_or-eq_default (set b.held d (holds e)) empty {n = j} (rw length-set (omega (arith, g.size)))) (unfold SlotHas in tt)

-- ---- where a number lies

pub ahead-is : (w : Window) (n : ℕ) → w.next < 2 ^ 32 → ahead w n ≡ difference w n
unfolding ahead
ahead-is w n l = omega arith
