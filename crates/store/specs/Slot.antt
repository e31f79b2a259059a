-- Follows the code: a slot is where one header lies in an array of headers one after the other.
use Rattle.std.specs.Prelude.{ℕ, ◌*◌, List}
use Rattle.std.proofs.Math.ListN as ListN

-- The bytes of a header.
abbrev pub header_size : ℕ
header_size = 48

-- What the slot j of an array holds.
unfoldable pub in_slot : List ℕ → ℕ → List ℕ
in_slot headers j = ListN.take header_size (ListN.drop (j * header_size) headers)
