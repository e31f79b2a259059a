-- The gather area: what is joined, judged and put back.
use mathlib.Core.Path.{◌≡◌, ap, ◌∙◌}
use mathlib.Core.List.{List, ◌++◌, append_assoc}
use Prim.Native.Nat.{ℕ, ◌+◌, ◌≤◌}
use native.Mathlib.Omega.{arith}
use borrow.Author.Tests.{ne_eqb}
use lib.ListN.{length, drop, take, length-append, length-drop, take-append-drop}
use lib.Seq.{take_at, drop_at, length-take-le, take-add}
use Rattle.login_book.specs.Login.{joined}
use Rattle.login_gather.specs.Promises.{block_of, Joined}

module _ (g : List ℕ) (at : ℕ) (d : List ℕ) (fit : at + length d ≤ length g) where
  front : length (take at g ++ d) ≡ at + length d
  front = length-append (take at g) d ∙ ap (λ (n : ℕ). n + length d) (length-take-le at g (omega arith))

  joined-block : take (at + length d) (joined g at d) ≡ take at g ++ d
  joined-block = take_at (take at g ++ d) (drop (at + length d) g) (at + length d) front

  joined-rest : drop (at + length d) (joined g at d) ≡ drop (at + length d) g
  joined-rest = drop_at (take at g ++ d) (drop (at + length d) g) (at + length d) front

  joined-start : take at (joined g at d) ≡ take at g
  joined-start = ap (take at) (append_assoc (take at g) d (drop (at + length d) g)) ∙ take_at (take at g) (d ++ drop (at + length d) g) at (length-take-le at g (omega arith))

  module _ (new kept : List ℕ) (r : ℕ) (j : Joined g at d new kept r) where
    -- what is judged then
    pub block-is : (at ≡ 0 → ⊥) → block_of d new r ≡ take at g ++ d
    unfolding block_of
    block-is z = rw (j.count, j.area, ne_eqb (at + length d) 0 (λ q. z (omega arith))) joined-block

    -- what was kept, put back
    pub back : joined new at (take (length d) kept) ≡ g
    back =
        let n : length (take (length d) (drop at g)) ≡ length d = length-take-le (length d) (drop at g) (rw length-drop (omega arith)) in
        rw (j.old, j.area, joined-start, n, joined-rest, ← (take-add at (length d) g)) (take-append-drop (at + length d) g)
