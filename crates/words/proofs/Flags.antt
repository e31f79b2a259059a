-- A bit is its word's.
use mathlib.Core.Path.{◌≡◌, refl}
use mathlib.Core.Bool.{Bool, true, false}
use mir.Val.{bool_byte}
use Rattle.words.specs.Words.{is_set, flag_word}

-- as the code has it
pub as_word : (b : Bool) → bool_byte b ≡ flag_word b
as_word true = refl
as_word false = refl

pub flag-back : (b : Bool) → is_set (flag_word b) ≡ b
flag-back true = refl
flag-back false = refl
