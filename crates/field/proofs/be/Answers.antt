use mathlib.Core.Path.{◌≡◌, refl}
use mathlib.Core.List.{List}
use Prim.Native.Nat.{ℕ, ◌+◌, ◌≤◌, ◌<◌, ◌-◌, ◌^◌}
use native.Mathlib.Omega.{arith}
use native.Mathlib.Nat.{pow-le-pow_right, pow-suc}
use native.Mathlib.Numerals.{add-one}
use lib.Dec.{lit≤}
use lib.ListN.{length, get_or, take, drop}
use Rattle.std.proofs.lemmas.List.Edits.{length-between, get_or-between}
use Rattle.field.specs.Field.{be_at}
use Rattle.field.proofs.Laws.{be-suc}
use Rattle.field.proofs.be.Goals as goal

small : (i : ℕ) → i ≤ 7 → 256 ^ i ≤ 256 ^ 7
small i h = pow-le-pow_right {n = 256} (lit≤ tt) h

-- how many bytes are looked at, and byte i of them
count : (s : List ℕ) (at n : ℕ) → at + n ≤ length s → length (take (at + n - at) (drop at s)) ≡ n
count s at n h = omega (arith, length-between s at (at + n) h)

here : (s : List ℕ) (at n i : ℕ) → i < n → get_or (take (at + n - at) (drop at s)) i 0 ≡ get_or s (at + i) 0
here s at n i h = get_or-between s at (at + n) i 0 (omega arith)

pub loop-b-init : goal.loop-b-init
unfolding be_at
loop-b-init c = (refl, omega arith)

pub overflow_mul-v : goal.overflow_mul-v
overflow_mul-v c =
    let a = c.args in
    omega (arith, count a.s.now a.at a.n c.requires.1, small c.loop-b.b-index (omega (arith, count a.s.now a.at a.n c.requires.1)))

pub overflow_add-v : goal.overflow_add-v
overflow_add-v c =
    let a = c.args in
    let i = c.loop-b.b-index in
    let h : i < a.n = omega (arith, count a.s.now a.at a.n c.requires.1) in
    omega (arith, small i (omega arith), here a.s.now a.at a.n i h, c.type_inv.s (a.at + i))

pub loop-b-preserved : goal.loop-b-preserved
loop-b-preserved c =
    let a = c.args in
    let i = c.loop-b.b-index in
    let h : i < a.n = omega (arith, count a.s.now a.at a.n c.requires.1) in
    let b = c.type_inv.s (a.at + i) in
    rw (here a.s.now a.at a.n i h) (rw (be-suc, ← c.loop-b.invariant.0), rw (add-one, pow-suc) (omega (arith, b)))
