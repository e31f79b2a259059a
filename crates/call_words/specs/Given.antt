-- What C gives at an opening, as the book has it.
use Rattle.std.specs.Prelude.{ℕ}
use Rattle.book.specs.declared.Given.{Given}
use Rattle.book.specs.declared.Opening.{Opening}

abbrev pub opening_of : (stat_sn_of : ℕ) → Opening
opening_of s = record { stat_sn = s }

abbrev pub given_of : (first stat_sn_of level : ℕ) → Given
given_of f s v = record { first = f; level = v; opening = opening_of s }
