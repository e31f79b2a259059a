-- What the code holds of a judged block and of the text output, for its contracts. This follows the code; the rules are in
-- login_book's Login.
use Rattle.std.specs.Prelude as Std
use Rattle.std.specs.Prelude.{ℕ, ◌≤◌, Bool, not, ◌&&◌, ◌≡◌, List, ◌++◌, length, take, drop, Ok, Err}
use Rattle.text.specs.Text.{pick}
use Rattle.key_table.specs.declared.parameters.Settled.{Settled}
use Rattle.login_book.specs.Keys.{Keys, named}
use Rattle.login_types.specs.Agree.{keys_of}
use Rattle.login_book.specs.Login.{start_text}
use Rattle.login_book.specs.Block.{Result, stopped, went, judge_block}
use Rattle.login_block.specs.Promises.{result_of, count_of}
use Rattle.login_block.specs.declared.block.Judged.{Judged}

-- if the first judged block lacks either name it is 0x0207, after its pairs
abbrev pub with_names : Bool → Result → Result
with_names judged (stopped s) = stopped s
with_names judged (went s a) = pick (not judged && not (named s)) (stopped 0x0207) (went s a)

unfoldable pub block_result : Bool → ℕ → Bool → List ℕ → Keys → List ℕ → Result
block_result judged stage leading ours s b = with_names judged (judge_block stage leading ours s (start_text judged) b)

abbrev pub verdict_after : Bool → Std.Result ℕ ℕ → Std.Result ℕ ℕ
verdict_after named (Err s) = Err s
verdict_after named (Ok n) = pick named (Ok n) (Err 0x0207)

-- the text output t after a verdict on the answer o
abbrev pub text_after : Std.Result ℕ ℕ → List ℕ → List ℕ → List ℕ
text_after (Err s) o t = t
text_after (Ok n) o t = take n o ++ drop (length (take n o)) t

abbrev pub text_of : Result → List ℕ → List ℕ
text_of (stopped s) t = t
text_of (went s a) t = a ++ drop (length a) t

-- what is settled after a verdict: t, and where the block is refused s, as before it
abbrev pub settled_after : Std.Result ℕ ℕ → Settled → Settled → Settled
settled_after (Err status) s t = s
settled_after (Ok n) s t = t

-- the verdict on a block, what is settled after it and the text output then say what the result is; a refusal leaves what was settled, and the output
pub record Written (r : Result) (s : Settled) (j : Judged) (old new : List ℕ) : Type 0 where
  pub result : result_of j.verdict (keys_of j.settled) new ≡ r
  pub few : count_of j.verdict ≤ length new
  pub stays : j.settled ≡ settled_after j.verdict s j.settled
  pub text : new ≡ text_of r old
