-- One more byte pasted.
use mathlib.Core.Path.{◌≡◌}
use Prim.Native.Nat.{suc, ◌+◌}
use native.Mathlib.Omega.{arith}
use native.Mathlib.Numerals.{add-one}
use lib.ListN.{length-set, set, get_or}
use lib.Seq.{paste, paste-suc}
use Rattle.text.proofs.slice.append.Goals as goal

pub loop-i-preserved : goal.loop-i-preserved
loop-i-preserved c =
    let l = c.loop-i in
    let g = c.args in
    let q : set (paste g.out.now g.at g.b.now l.i) (g.at + l.i) (get_or g.b.now l.i 0) ≡ paste g.out.now g.at g.b.now (suc l.i) =
    paste-suc g.out.now g.at g.b.now l.i 0 (omega arith) (omega arith) in
    (simp length-set (omega arith), rw (l.invariant.1, add-one) q)
