-- What the code's struct of settled keys holds after a judged pair, for its contracts. This follows the code; the rules are in Judge, and
-- by the keys' names in login_book's Keys.
use Rattle.std.specs.Prelude.{ℕ, Bool, true, List, set, eqb, Result, Ok, Err}
use Rattle.text.specs.Text.{pick}
use Rattle.key_values.specs.Settle.{valued}
use Rattle.key_values.specs.declared.value.Judgement.{Judgement}
use Rattle.key_values.specs.declared.value.Judgement.TheVariants as J
use Rattle.key_table.specs.declared.parameters.Settled.{Settled}

-- these keys came, and these values are in force
abbrev pub settled_of : List Bool → List ℕ → Settled
settled_of seen values = record { seen = seen; parameters = record { values = values } }

-- key k came
abbrev pub marked : Settled → ℕ → Settled
marked s k = record { seen = set s.seen k true; parameters = s.parameters }

-- what is settled after a known key's judgement: the key came, and its value if it has one now
abbrev pub after_key : Settled → ℕ → Result Judgement ℕ → Settled
after_key s k (Err status) = s
after_key s k (Ok (J.Said r)) = marked s k
after_key s k (Ok (J.Settles n r)) = record { seen = set s.seen k true; parameters = valued s.parameters k n }

unfoldable pub after : Settled → ℕ → Result Judgement ℕ → Settled
after s k j = pick (eqb k 28) s (after_key s k j)
