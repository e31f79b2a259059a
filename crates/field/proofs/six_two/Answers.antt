use native.Mathlib.Omega.{arith}
use mathlib.Core.Path.{◌∙◌, ap}
use Rattle.field.specs.Field.{bytes_of}
use mathlib.Core.List.{List, ◌++◌}
use Prim.Native.Nat.{ℕ, ◌%◌, ◌^◌}
use Rattle.field.proofs.Laws.{bytes-join, bytes_cut}
use Rattle.field.proofs.six_two.Goals as goal

pub returns : goal.returns
returns c =
    let a = c.args.a in
    let b = c.args.b in
    bytes-join 6 2 (a % 256 ^ 6) b (omega arith) ∙ ap (λ (r : List ℕ). r ++ bytes_of 2 b) (bytes_cut 6 a)
