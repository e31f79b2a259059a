-- All that is used of the slots of places: each is one of the 64, different places have different slots, handing on keeps a
-- place's slot, and a window with the same R has the same slots.
use Rattle.std.proofs.Common.{◌≡◌, ℕ, suc, ◌+◌, ◌%◌, ◌^◌, ◌<◌, ap, arith}
use Rattle.window.specs.declared.Window.{Window}
use Rattle.window.specs.PlaceSlot.{slots, slot_of}

pub slot-fits : (w : Window) (d : ℕ) → slot_of w d < slots
unfolding slot_of
slot-fits w d = omega arith

pub slot_apart : (w : Window) (j d : ℕ) → j < slots → d < slots → slot_of w j ≡ slot_of w d → j ≡ d
unfolding slot_of
slot_apart w j d l m e = omega arith

pub slot_next : (w w' : Window) (d : ℕ) → w'.next ≡ (w.next + 1) % 2 ^ 32 → slot_of w' d ≡ slot_of w (suc d)
unfolding slot_of
slot_next w w' d e = omega arith

pub slot-stays : (w w' : Window) (d : ℕ) → w'.next ≡ w.next → slot_of w' d ≡ slot_of w d
unfolding slot_of
slot-stays w w' d e = ap (λ (x : ℕ). (x + d) % 64) e
