-- What the look-up of a name compares it with. This follows the code; the rules are in key_names' Candidates and key_table's Table.
use Rattle.std.specs.Prelude.{ℕ, List, ◌≡◌, get_or, Option}
use Rattle.key_table.specs.Table.{place_of_key, place_of_found}
use Rattle.key_table.specs.declared.table.Key.{Key}

-- a key, and perhaps a second one, are the first two of these places
pub record AreFirstTwo (places : List ℕ) (two : Key × Option Key) : Type 0 where
  pub first : place_of_key two.0 ≡ get_or places 0 28
  pub second : place_of_found two.1 ≡ get_or places 1 28
