-- Four bytes are the number's that they make.
use mathlib.Core.Path.{◌≡◌, refl}
use mathlib.Core.List.{[], ◌∷◌}
use Prim.Native.Nat.{ℕ, ◌%◌, ◌<◌}
use native.Mathlib.Omega.{arith}
use borrow.Author.Rules.{rules}
use Rattle.std.proofs.lemmas.Nat.{be_bytes_4}
use Rattle.field.specs.Field.{bytes_of}
use Rattle.field.proofs.Laws.{bytes-high_first}
use Rattle.field.proofs.four.Goals as goal

one : (a : ℕ) → a < 256 → bytes_of 1 a ≡ a ∷ []
unfolding bytes_of
one a h = let e : a % 256 ≡ a = omega arith in rw e refl

pub returns : goal.returns
returns c =
    let x = c.args in
    let n = c.from_be_bytes.result in
    rw (one x.a (omega arith), one x.b (omega arith), one x.c (omega arith), one x.d (omega arith), ← bytes-high_first 4 n)
    (be_bytes_4 (x.a ∷ x.b ∷ x.c ∷ x.d ∷ []) n refl (search rules) c.from_be_bytes.ensures)
