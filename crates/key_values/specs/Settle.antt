-- What the value of a key of the table settles, and how it is answered.
use Rattle.std.specs.Prelude.{ℕ, ◌≤◌, ◌&&◌, ◌||◌, List, set, eqb, ltb, Option, Some, None}
use Rattle.text.specs.Text.{pick, bytes, same}
use Rattle.text_number.specs.Number.{number_of}
use Rattle.key_table.specs.Table.{is_bool}
use Rattle.key_table.specs.declared.table.Rule.{Rule}
use Rattle.key_table.specs.declared.table.Rule.TheVariants as R
use Rattle.key_table.specs.declared.table.Row.{Row}
use Rattle.key_values.specs.declared.value.Reply.{Reply}
use Rattle.key_values.specs.declared.value.Reply.TheVariants as A
use Rattle.key_values.specs.declared.value.Judgement.{Judgement}
use Rattle.key_values.specs.declared.value.Judgement.TheVariants as J
use Rattle.key_table.specs.declared.parameters.Parameters.{Parameters}

-- Yes is 1 and No is 0
unfoldable pub bool_of : List ℕ → Option ℕ
bool_of v = pick (same v (bytes "Yes")) (Some 1) (pick (same v (bytes "No")) (Some 0) None)

-- good where it is a number within the range
abbrev pub ranged : ℕ → ℕ → Option ℕ → Option ℕ
ranged a b None = None
ranged a b (Some n) = pick (ltb n a) None (pick (ltb b n) None (Some n))

-- the offered value of a key of the table
unfoldable pub offered : Row → List ℕ → Option ℕ
offered row v = ranged row.low row.high (pick (is_bool row.rule) (bool_of v) (number_of v))

-- least, greatest, or, and of the offer and ours; the offer itself where it is declared
abbrev pub settled_by : Rule → ℕ → ℕ → ℕ
settled_by R.Least a b = pick (ltb a b) a b
settled_by R.Greatest a b = pick (ltb a b) b a
settled_by R.Or a b = pick (eqb a 1 || eqb b 1) 1 0
settled_by R.And a b = pick (eqb a 1 && eqb b 1) 1 0
settled_by R.Declared a b = a

-- Good declarations get no answer; a boolean is answered Yes or No, a number as a number.
abbrev pub yes_no : ℕ → Reply
yes_no n = pick (eqb n 1) A.Yes A.No

abbrev pub reply_for : Rule → ℕ → Reply
reply_for R.Least n = A.Number n
reply_for R.Greatest n = A.Number n
reply_for R.Or n = yes_no n
reply_for R.And n = yes_no n
reply_for R.Declared n = A.Silent

-- A bad or out-of-range value is answered Reject and changes nothing.
abbrev pub settling_offer : Row → Option ℕ → Judgement
settling_offer row None = J.Said A.Reject
settling_offer row (Some a) = J.Settles (settled_by row.rule a row.ours) (reply_for row.rule (settled_by row.rule a row.ours))

unfoldable pub settling : Row → List ℕ → Judgement
settling row v = settling_offer row (offered row v)

-- the parameters with the value n for key k
abbrev pub valued : Parameters → ℕ → ℕ → Parameters
valued p k n = record { values = set p.values k n }

-- n lies in a range
pub record In (low high n : ℕ) : Type 0 where
  pub least : low ≤ n
  pub most : n ≤ high
