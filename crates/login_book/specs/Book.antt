-- A login between requests: its book.
use Rattle.std.specs.Prelude.{ℕ, Bool, false, ◌&&◌, ◌||◌, eqb}
use Rattle.login_book.specs.Keys.{Keys, none_came}

-- where a step begins: at the start, or in a stage (security 0, operational 1, full feature 3)
pub data Stage : Type 0 where
  start : Stage
  in_stage : ℕ → Stage

-- Permitted steps: start to 0 or 1; 0 to 1 or 3; 1 to 3.
unfoldable pub permitted : Stage → ℕ → Bool
permitted start to = eqb to 0 || eqb to 1
permitted (in_stage from) to = (eqb from 0 && (eqb to 1 || eqb to 3)) || (eqb from 1 && eqb to 3)

-- how far a login is: at the start, or after a first request that was not refused, in a stage, with that request's ISID, TSIH and CID
pub data Phase : Type 0 where
  at_start : Phase
  begun : ℕ → ℕ → ℕ → ℕ → Phase

abbrev pub stage_of : Phase → Stage
stage_of at_start = start
stage_of (begun stage isid tsih cid) = in_stage stage

-- over: refused, or in full feature phase; judged: a block was judged; gathered: how many bytes of the lent gather area count ("Gathered bytes
-- are read as the lent area holds them at the call")
pub record LoginBook : Type 0 where
  pub over : Bool
  pub phase : Phase
  pub judged : Bool
  pub keys : Keys
  pub gathered : ℕ

-- before the first request
unfoldable pub fresh_book : LoginBook
fresh_book = record { over = false; phase = at_start; judged = false; keys = none_came; gathered = 0 }
