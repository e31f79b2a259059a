-- The pairs of a block, judged left to right: the first refusal decides.
use Rattle.std.specs.Prelude as Std
use Rattle.std.specs.Prelude.{ℕ, Bool, List, [], ◌∷◌, ◌++◌, Ok, Err}
use Rattle.text.specs.Text.{pick}
use Rattle.text_block.specs.Block.{name_in, value_in, formed, pairs}
use Rattle.text_block.specs.Block as Text
use Rattle.key_table.specs.Table.{key_of}
use Rattle.keys.specs.Judge.{judge_named}
use Rattle.key_replies.specs.Answer.{said_text}
use Rattle.key_values.specs.declared.value.Judgement.{Judgement}
use Rattle.login_book.specs.Keys.{Keys, after}

-- a judged block: a status refuses it, or this is settled and answered
pub data Result : Type 0 where
  stopped : ℕ → Result
  went : Keys → List ℕ → Result

-- a refused pair decides, and after any other the rest does
abbrev pub onward : Std.Result Judgement ℕ → Result → Result
onward (Err status) r = stopped status
onward (Ok j) r = r

-- what is said of a pair, after what is settled so far
abbrev pub judge_pair : ℕ → Bool → List ℕ → Keys → Text.Pair → Std.Result Judgement ℕ
judge_pair stage leading ours s p = judge_named (s.came p.name) stage leading ours (key_of p.name) p.value

-- the pairs, after what is settled and the answer t so far; answers stand in offer order
unfoldable pub judge : ℕ → Bool → List ℕ → Keys → List ℕ → List Text.Pair → Result
judge stage leading ours s t [] = went s t
judge stage leading ours s t (p ∷ ps) =
    onward (judge_pair stage leading ours s p)
    (judge stage leading ours (after s p.name (judge_pair stage leading ours s p)) (t ++ said_text p.name (judge_pair stage leading ours s p)) ps)

-- what is said of the first pair of a text
abbrev pub judge_first : ℕ → Bool → List ℕ → Keys → List ℕ → Std.Result Judgement ℕ
judge_first stage leading ours s rest = judge_named (s.came (name_in rest)) stage leading ours (key_of (name_in rest)) (value_in rest)

-- A breach of the block's form is 0x0200 before a pair is judged.
abbrev pub judge_block : ℕ → Bool → List ℕ → Keys → List ℕ → List ℕ → Result
judge_block stage leading ours s t b = pick (formed 64 b) (judge stage leading ours s t (pairs 64 b)) (stopped 0x0200)
