use native.Mathlib.Omega.{arith}
use mathlib.Core.Path.{◌≡◌, ◌∙◌, ap}
use Rattle.field.specs.Field.{bytes_of}
use mathlib.Core.List.{List, ◌++◌}
use Prim.Native.Nat.{ℕ, ◌+◌, ◌*◌, ◌%◌, ◌^◌}
use Rattle.field.proofs.Laws.{bytes-join, bytes_cut}
use Rattle.field.proofs.low_three.Goals as goal

pub returns : goal.returns
returns c =
    let v = c.args.v in
    let e : v % 256 ^ 3 ≡ 0 * 256 ^ 3 + v % 256 ^ 3 = omega arith in
    ap (bytes_of 4) e ∙ bytes-join 1 3 0 (v % 256 ^ 3) (omega arith) ∙ ap (λ (r : List ℕ). bytes_of 1 0 ++ r) (bytes_cut 3 v)
