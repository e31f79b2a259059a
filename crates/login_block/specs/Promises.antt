-- What the code's answers on a pair and on a block hold, for its contracts. This follows the code; the rules are in login_book's Block.
use Rattle.std.specs.Prelude as Std
use Rattle.std.specs.Prelude.{ℕ, zero, suc, ◌+◌, ◌≤◌, ◌<◌, Bool, true, false, ◌≡◌, List, ◌++◌, length, take, drop, Option, Some, None, Ok, Err}
use Rattle.text.specs.Text.{pick, Appended}
use Rattle.text_block.specs.Block.{name_in, value_in, end_in, rest_of, good_first}
use Rattle.key_table.specs.Table.{key_of, place_of_found}
use Rattle.key_replies.specs.Answer.{said_text}
use Rattle.key_values.specs.declared.value.Judgement.{Judgement}
use Rattle.login_book.specs.Keys.{Keys, after}
use Rattle.login_block.specs.declared.block.First.{First}
use Rattle.login_block.specs.declared.block.Pair.{Pair}
use Rattle.login_book.specs.Block.{Result, stopped, went, judge_first, judge_block}

-- a first pair of a good form: its key if its name is known, and where its name and its value end
pub record PairIs (rest : List ℕ) (r : Pair) : Type 0 where
  pub right : good_first rest ≡ true
  pub key : place_of_found r.key ≡ key_of (name_in rest)
  pub name : r.eq ≡ length (name_in rest)
  pub value : r.end ≡ end_in rest

abbrev pub PairOf : List ℕ → Option Pair → Type 0
PairOf rest (Some r) = PairIs rest r
PairOf rest None = good_first rest ≡ false

-- what is said of a first pair, after the keys s; one whose form is not good is 0x0200
abbrev pub first_of : ℕ → Bool → List ℕ → Keys → List ℕ → Std.Result Judgement ℕ
first_of stage leading ours s rest = pick (good_first rest) (judge_first stage leading ours s rest) (Err 0x0200)

-- what the code makes of a first pair that is not refused, after the keys s: the keys are t then, and it is answered
pub record FirstGood (s : Keys) (stage : ℕ) (leading : Bool) (ours rest old : List ℕ) (at : ℕ) (r : First) (t : Keys) (new : List ℕ) : Type 0 where
  pub judgement : Judgement
  pub said : first_of stage leading ours s rest ≡ Ok judgement
  pub settles : t ≡ after s (name_in rest) (Ok judgement)
  pub text : Appended old at (said_text (name_in rest) (Ok judgement)) new r.count
  pub few : r.count ≤ at + 78
  pub ended : r.end ≡ length (name_in rest) + 1 + length (value_in rest)
  pub inside : r.end < length rest

-- and of one that is: nothing
pub record FirstRefused (s : Keys) (stage : ℕ) (leading : Bool) (ours rest old : List ℕ) (status : ℕ) (t : Keys) (new : List ℕ) : Type 0 where
  pub said : first_of stage leading ours s rest ≡ Err status
  pub keys : t ≡ s
  pub bytes : new ≡ old

abbrev pub FirstOf : Keys → ℕ → Bool → List ℕ → List ℕ → List ℕ → ℕ → Std.Result First ℕ → Keys → List ℕ → Type 0
FirstOf s stage leading ours rest old at (Ok r) t new = FirstGood s stage leading ours rest old at r t new
FirstOf s stage leading ours rest old at (Err status) t new = FirstRefused s stage leading ours rest old status t new

-- the keys, and the text of the output, after the pairs that the code judged
pub record Walked : Type 0 where
  pub keys : Keys
  pub text : List ℕ

-- these keys, and this text
abbrev pub walked : Keys → List ℕ → Walked
walked s t = record { keys = s; text = t }

-- the first where a pair is not refused, the second where it is
abbrev pub if_goes : Std.Result Judgement ℕ → Walked → Walked → Walked
if_goes (Ok j) a b = a
if_goes (Err status) a b = b

-- The pairs of a text, after the keys s and the text t, at most n of them: up to the first whose form is not good or that is refused, which leaves
-- all as it was.
unfoldable pub walk : ℕ → ℕ → Bool → List ℕ → Keys → List ℕ → List ℕ → Walked
walk zero stage leading ours s t b = walked s t
walk (suc n) stage leading ours s t b =
    if_goes (first_of stage leading ours s b)
    (walk n stage leading ours (after s (name_in b) (first_of stage leading ours s b)) (t ++ said_text (name_in b) (first_of stage leading ours s b)) (rest_of b))
    (walked s t)

-- the code's answer on a block, as a result: the status, or the keys and the first n bytes of the output
abbrev pub result_of : Std.Result ℕ ℕ → Keys → List ℕ → Result
result_of (Err s) t out = stopped s
result_of (Ok n) t out = went t (take n out)

-- how many bytes are answered
abbrev pub count_of : Std.Result ℕ ℕ → ℕ
count_of (Err s) = 0
count_of (Ok n) = n

-- The verdict on a block, after the keys s and the text a of the output, is that of the rules; whatever it is, the keys are then, and the output
-- holds, what the judged pairs leave, and bytes behind that text stay.
pub record JudgedAs (stage : ℕ) (leading : Bool) (ours : List ℕ) (s : Keys) (a block old : List ℕ) (v : Std.Result ℕ ℕ) (t : Keys) (new : List ℕ) : Type 0 where
  pub result : result_of v t new ≡ judge_block stage leading ours s a block
  pub few : count_of v ≤ length new
  pub keys : t ≡ (walk 64 stage leading ours s a block).keys
  pub bytes : new ≡ (walk 64 stage leading ours s a block).text ++ drop (length (walk 64 stage leading ours s a block).text) old
