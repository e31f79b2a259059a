-- What the code holds of the gather area, for its contracts. This follows the code; the rules are in login_book's Login.
use Rattle.std.specs.Prelude as Std
use Rattle.std.specs.Prelude.{ℕ, ◌+◌, Bool, ◌≡◌, List, ◌++◌, length, take, drop, eqb, Ok, Err}
use Rattle.text.specs.Text.{pick}
use Rattle.key_table.specs.declared.parameters.Settled.{Settled}
use Rattle.login_types.specs.Agree.{keys_of}
use Rattle.login_book.specs.Login.{joined}
use Rattle.login_book.specs.Block.{Result, stopped, went}
use Rattle.login_block.specs.declared.block.Judged.{Judged}
use Rattle.login_text.specs.Promises.{block_result, Written}

-- The block judged is the request's own data if nothing was gathered, and the gathered bytes otherwise.
unfoldable pub block_of : List ℕ → List ℕ → ℕ → List ℕ
block_of d g n = pick (eqb n 0) d (take n g)

-- d was joined to the first `at` bytes of the area g, and what stood there was kept
pub record Joined (g : List ℕ) (at : ℕ) (d new kept : List ℕ) (r : ℕ) : Type 0 where
  pub count : r ≡ at + length d
  pub area : new ≡ joined g at d
  pub old : take (length d) kept ≡ take (length d) (drop at g)

-- what is put back into the area g: the bytes k at `at`, where the block is refused
abbrev pub undone : Std.Result ℕ ℕ → List ℕ → ℕ → List ℕ → List ℕ
undone (Err s) g at k = joined g at k
undone (Ok n) g at k = g

-- the block that is judged after n gathered bytes of the area g, and the area then
abbrev pub judged_block : ℕ → List ℕ → List ℕ → List ℕ
judged_block n d g = pick (eqb n 0) d (take n g ++ d)

abbrev pub judged_area : ℕ → List ℕ → List ℕ → List ℕ
judged_area n d g = pick (eqb n 0) g (joined g n d)

abbrev pub area_of : Result → List ℕ → List ℕ → List ℕ
area_of (stopped s) g h = g
area_of (went s a) g h = h

pub record JudgedIn (judged : Bool) (stage : ℕ) (leading : Bool) (ours : List ℕ) (s : Settled) (n : ℕ) (d : List ℕ)
    (j : Judged) (g t g' t' : List ℕ) : Type 0 where
  pub written : Written (block_result judged stage leading ours (keys_of s) (judged_block n d g)) s j t t'
  pub area : g' ≡ area_of (block_result judged stage leading ours (keys_of s) (judged_block n d g)) g (judged_area n d g)
