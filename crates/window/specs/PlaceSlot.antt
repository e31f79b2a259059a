-- Follows the code: where the header and the ticket of a place lie in the lent arrays.
use Rattle.std.specs.Prelude.{ℕ, ◌+◌, ◌%◌}
use Rattle.window.specs.declared.Window.{Window}

-- The slots of the lent arrays.
abbrev pub slots : ℕ
slots = 64

-- The slot of the place d from R on. What else is said of it is in proofs/PlaceSlot.
unfoldable pub slot_of : Window → (d : ℕ) → ℕ
slot_of w d = (w.next + d) % slots
