-- The keys of a login by their names: which came, and what value of each is in force.
use Rattle.std.specs.Prelude.{ℕ, Bool, false, ◌&&◌, ◌||◌, List, eqb, Result, Ok, Err}
use Rattle.text.specs.Text.{pick, bytes, same}
use Rattle.key_table.specs.Table.{key_of, row_at}
use Rattle.key_values.specs.declared.value.Judgement.{Judgement}
use Rattle.key_values.specs.declared.value.Judgement.TheVariants as J

pub record Keys : Type 0 where
  pub came : List ℕ → Bool
  pub value : List ℕ → ℕ

-- "A key's standard value belongs to that key and holds until it is settled": before any key came every standard value is in force.
unfoldable pub none_came : Keys
none_came = record { came = λ (n : List ℕ). false; value = λ (n : List ℕ). (row_at (key_of n)).standard }

-- both names came
unfoldable pub named : Keys → Bool
named s = s.came (bytes "InitiatorName") && s.came (bytes "TargetName")

-- the key of this name came
abbrev pub marked : Keys → List ℕ → Keys
marked s n = record { came = λ (m : List ℕ). same m n || s.came m; value = s.value }

-- the key of this name came, and has this value
abbrev pub settled : Keys → List ℕ → ℕ → Keys
settled s n x = record { came = λ (m : List ℕ). same m n || s.came m; value = λ (m : List ℕ). pick (same m n) x (s.value m) }

-- after a known key's judgement: a refused pair changes nothing, any other came, and its value is in force if it has one now
abbrev pub after_known : Keys → List ℕ → Result Judgement ℕ → Keys
after_known s n (Err status) = s
after_known s n (Ok (J.Said r)) = marked s n
after_known s n (Ok (J.Settles x r)) = settled s n x

-- after a pair of this name; a name that is not known changes nothing
unfoldable pub after : Keys → List ℕ → Result Judgement ℕ → Keys
after s n j = pick (eqb (key_of n) 28) s (after_known s n j)
