-- A known name in the numbers with which a name is compared. This follows the code; the rules are in Candidates and key_table's Table.
use Rattle.std.specs.Prelude.{ℕ, ◌-◌, ltb, length, get_or}
use Rattle.field.specs.Field.{be_at}
use Rattle.text.specs.Text.{pick}
use Rattle.key_table.specs.Table.{name_at, key_at}
use Rattle.key_names.specs.Candidates.{candidates_of}
use Rattle.key_names.specs.declared.KnownName.{KnownName}

-- where the middle eight bytes of a name of n bytes begin: the first eight, these and the last eight are all bytes of a name of 8 to 24
unfoldable pub middle_at : ℕ → ℕ
middle_at n = pick (ltb n 16) (n - 8) 8

-- the name of key k
unfoldable pub spelt : ℕ → KnownName
spelt k = record {
  length = length (name_at k);
  letter = get_or (name_at k) 0 0;
  second = key_at (get_or (candidates_of (name_at k)) 1 28);
  head = be_at (name_at k) 0 8;
  middle = be_at (name_at k) (middle_at (length (name_at k))) 8;
  tail = be_at (name_at k) (length (name_at k) - 8) 8;
}
