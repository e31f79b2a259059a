-- Who holds a number, by the bits and the slot of its place.
use Rattle.std.proofs.Common.{◌≡◌, ℕ, ◌%◌, ◌^◌, ◌<◌, List, get_or, sym, refl, ap, ◌∙◌, arith}
use Rattle.place_map.specs.Bit.{bit_at}
use Rattle.window.specs.declared.Window.{Window}
use Rattle.window.specs.Book.{Origin, Place, empty, holds, Book, distance, held_by, holder_at, holder_of}
use Rattle.window.specs.PlaceSlot.{slot_of}
use Rattle.window.specs.Agree.{Commands, Maps, held_bit, void_bit, SlotHas, OriginAt}
use Rattle.window.proofs.Steps.{difference, false-of-none}

-- ---- a bit of a map

pub bit-at : (n r d : ℕ) (f : Place → ℕ) (l : List Place) → Maps n f l → r ≡ bit_at n d → f (get_or l d empty) ≡ r
unfolding Maps
bit-at n r d f l m e = sym (m d) ∙ sym e

-- ---- a number's place

pub slot_is : (w : Window) (n : ℕ) → w.next < 2 ^ 32 → slot_of w (difference w n) ≡ n % 64
unfolding slot_of
slot_is w n l = omega arith

module _ (b : Book) (n d : ℕ) (e : distance b n ≡ d) where
  pub at_place : holder_of b n ≡ holder_at (get_or b.held d empty)
  unfolding holder_of
  at_place = ap (λ (x : ℕ). holder_at (get_or b.held x empty)) e

  pub place-held : (k : Commands) (j : ℕ) (o : Origin) → (held_bit (get_or b.held d empty) ≡ 0 → ⊥) → (void_bit (get_or b.held d empty) ≡ 1 → ⊥)
      → SlotHas k j (get_or b.held d empty) → OriginAt o (get_or b.held d empty) → held_by (get_or k.tickets j 0) o ≡ holder_of b n
  unfolding held_bit void_bit SlotHas OriginAt holder_at
  place-held k j o h v s u = sym (at_place ∙ go (get_or b.held d empty) h v s u)
    where
      go : (p : Place) → (held_bit p ≡ 0 → ⊥) → (void_bit p ≡ 1 → ⊥) → SlotHas k j p → OriginAt o p → holder_at p ≡ held_by (get_or k.tickets j 0) o
      go empty h v s u = absurd (h refl)
      go (holds x) h v s u = rw (false-of-none x.void v, s.1, u)
