-- A take of the code against the book's: a void hand-out, that of a command, and agreement after it.
use Rattle.std.proofs.Common.{◌≡◌, ℕ, suc, ◌+◌, ◌/◌, ◌%◌, ◌^◌, min, List, ◌++◌, length, get_or, drop, sym, ◌∙◌, arith, length-append, length-drop}
use Rattle.store.specs.Slot.{in_slot}
use Rattle.place_map.proofs.Bits.{bit-zero}
use Rattle.window.specs.declared.Window.{Window}
use Rattle.window.specs.PlaceSlot.{slot_of}
use Rattle.window.specs.Book.{Origin, Place, empty, holds, Book, next, take, command, void, step, handed_on, take_step, first_place, book_step}
use Rattle.window.specs.Agree.{Commands, state, held_bit, void_bit, origin_bit, Maps, SlotHas, Agrees, OriginAt}
use Rattle.window.proofs.PlaceSlot.{slot_next}
use Rattle.window.proofs.Bits.{maps-shift, shifted}
use Rattle.window.proofs.Steps.{false-of-none}

pub shift-agrees : (w w' : Window) (cs : Commands) (b : Book) → Agrees (state w cs) b → w'.next ≡ (w.next + 1) % 2 ^ 32
    → w'.handed ≡ min (w.handed + 1) (2 ^ 31) → w'.held ≡ w.held / 2 → w'.voided ≡ w.voided / 2
    → length w'.origins ≡ 4 → ((c : ℕ) → get_or w'.origins c 0 ≡ get_or w.origins c 0 / 2) → Agrees (state w' cs) (handed_on b)
unfolding handed_on next
shift-agrees w w' cs b g en eh ed ev el ef = record {
  origins_size = el;
  next = omega (arith, g.next);
  handed = omega (arith, g.handed);
  share = g.share;
  size = rw (length-append, length-drop) (omega (arith, g.size, g.share));
  headers_size = g.headers_size;
  tickets_size = g.tickets_size;
  held = rw ed (maps-shift held_bit w.held b.held g.held);
  voided = rw ev (maps-shift void_bit w.voided b.held g.voided);
  origins = λ c. rw (ef c) (maps-shift (origin_bit c) (get_or w.origins c 0) b.held (g.origins c));
  in_slots = λ d. rw (slot_next w w' d en, shifted b.held d) (g.in_slots (suc d));
}

pub first_bit : (w : Window) (cs : Commands) (b : Book) → Agrees (state w cs) b → w.held % 2 ≡ held_bit (first_place b)
unfolding first_place Maps
first_bit w cs b g = sym (bit-zero w.held) ∙ g.held 0

first-void : (w : Window) (cs : Commands) (b : Book) → Agrees (state w cs) b → w.voided % 2 ≡ void_bit (first_place b)
unfolding first_place Maps
first-void w cs b g = sym (bit-zero w.voided) ∙ g.voided 0

pub take-void : (w : Window) (cs : Commands) (b : Book) (o : List ℕ) → Agrees (state w cs) b → w.voided % 2 ≡ 1
    → book_step b (take o) ≡ step (void w.next) o (handed_on b)
unfolding book_step take_step void_bit
take-void w cs b o g v = grind (arith, first-void w cs b g, g.next)

pub take-command : (w : Window) (cs : Commands) (b : Book) (a : Origin) (o : List ℕ) → Agrees (state w cs) b → (w.held % 2 ≡ 0 → ⊥)
    → (w.voided % 2 ≡ 1 → ⊥) → OriginAt a (get_or b.held 0 empty)
    → book_step b (take o) ≡ step (command w.next (get_or cs.tickets (slot_of w 0) 0) a) (in_slot cs.headers (slot_of w 0) ++ drop 48 o) (handed_on b)
unfolding book_step first_place take_step SlotHas OriginAt held_bit void_bit
take-command w cs b a o g n v u =
    go (first_place b) (first_bit w cs b g) (first-void w cs b g) u (g.in_slots 0)
  where
    go : (p : Place) → w.held % 2 ≡ held_bit p → w.voided % 2 ≡ void_bit p → OriginAt a p → SlotHas cs (slot_of w 0) p
        → take_step p b o ≡ step (command w.next (get_or cs.tickets (slot_of w 0) 0) a) (in_slot cs.headers (slot_of w 0) ++ drop 48 o) (handed_on b)
    go empty e q u s = absurd (n e)
    go (holds x) e q u s = rw (false-of-none x.void (λ y. v (q ∙ y)), u, ← s.0, ← s.1, g.next)
