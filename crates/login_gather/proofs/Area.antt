-- The gather area beside the verdict on a block.
use Rattle.std.specs.Prelude as Std
use Rattle.std.specs.Prelude.{Ok, Err}
use mathlib.Core.Path.{◌≡◌, refl, ap, ◌∙◌}
use mathlib.Core.Bool.{Bool, true}
use mathlib.Core.List.{List}
use Prim.Native.Nat.{ℕ, ◌+◌, ◌≤◌}
use borrow.Author.Tests.{ne_eqb}
use lib.Dec.{eqb}
use lib.ListN.{length, take}
use Rattle.key_table.specs.declared.parameters.Settled.{Settled}
use Rattle.login_book.specs.Keys.{Keys}
use Rattle.login_book.specs.Login.{joined}
use Rattle.login_book.specs.Block.{Result, stopped, went}
use Rattle.login_types.specs.Agree.{keys_of}
use Rattle.login_block.specs.Promises.{result_of}
use Rattle.login_block.specs.declared.block.Judged.{Judged}
use Rattle.login_text.specs.Promises.{block_result, Written}
use Rattle.login_gather.specs.Promises.{block_of, Joined, undone, area_of, JudgedIn}
use Rattle.login_gather.proofs.Pieces.{block-is, back}

area-is : (s : Keys) (v : Std.Result ℕ ℕ) (t g h k : List ℕ) (at : ℕ) (r : Result) → result_of v s t ≡ r → joined h at k ≡ g → undone v h at k ≡ area_of r g h
area-is s (Err x) t g h k at r w e = e ∙ ap (λ (y : Result). area_of y g h) w
area-is s (Ok n) t g h k at r w e = ap (λ (y : Result). area_of y g h) w

area-either : (r : Result) (g : List ℕ) → g ≡ area_of r g g
area-either (stopped s) g = refl
area-either (went s a) g = refl

-- nothing was gathered
module _ (judged : Bool) (stage : ℕ) (leading : Bool) (ours : List ℕ) (s : Settled) (n : ℕ) (d : List ℕ) (j : Judged) (g t : List ℕ) where
  pub judged-own : (t' : List ℕ) → eqb n 0 ≡ true → Written (block_result judged stage leading ours (keys_of s) d) s j t t'
      → JudgedIn judged stage leading ours s n d j g t g t'
  judged-own t' e w = record { written = rw e w; area = rw e (area-either (block_result judged stage leading ours (keys_of s) d) g) }

  -- something was: the piece was joined to it, and what stood there was put back where the block is refused
  pub judged-joined : (g' t' new kept : List ℕ) (r : ℕ) (b : List ℕ) → (n ≡ 0 → ⊥) → n + length d ≤ length g
      → Joined g n d new kept r → b ≡ block_of d new r
      → Written (block_result judged stage leading ours (keys_of s) b) s j t t' → g' ≡ undone j.verdict new n (take (length d) kept)
      → JudgedIn judged stage leading ours s n d j g t g' t'
  judged-joined g' t' new kept r b some fit x e w u =
      let w' = rw (e ∙ block-is g n d fit new kept r x some) at w in
      let a = u ∙ area-is (keys_of j.settled) j.verdict t' g new (take (length d) kept) n _ w'.result (back g n d fit new kept r x) in
      record { written = rw (ne_eqb n 0 some) w'; area = rw (ne_eqb n 0 some, ← x.area) a }
