-- The table is what the definitions compute for each key.
use Rattle.std.proofs.Common.{◌≡◌}
use Rattle.std.specs.List.{range_with_len}
use Rattle.std.proofs.lemmas.List.FromFn.{get_or-map-range_with_len}
use mathlib.Core.List.{map}
use mathlib.Core.Path.{refl}
use denote.Enum.Declared.{tag_of}
use lib.ListN.{get_or}
use native.Mathlib.Omega.{arith}
use Rattle.field.specs.Field.{be_at}
use Rattle.key_table.specs.Table.{known, name_at, key_at, place_of_key}
use Rattle.key_table.specs.declared.table.Key.{Key}
use Rattle.key_table.proofs.Tables.{number-place, place-few}
use Rattle.key_table.specs.contracts.table.Key.{the_type}
use Rattle.key_names.specs.Candidates.{shares, candidates, candidates_of}
use Rattle.key_names.specs.Spelling.{middle_at, spelt}
use Rattle.key_names.specs.declared.KnownName.{KnownName}
use Rattle.key_names.specs.declared.TheConstants.{NAMES}

names : NAMES ≡ map spelt (range_with_len 0 28)
unfolding spelt name_at key_at known candidates_of candidates shares middle_at be_at
names = refl

pub name_at_key : (k : Key) (d : KnownName) → get_or NAMES (tag_of the_type k) d ≡ spelt (place_of_key k)
name_at_key k d = rw (names, number-place k) (get_or-map-range_with_len spelt 0 28 (place_of_key k) (place_of_key k) d (place-few k) (omega arith))
