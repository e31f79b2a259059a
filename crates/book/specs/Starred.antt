-- The starred cases of paper 01, 'Sequences worked through', in one table. That the definitions give each answer is one claim,
-- `starred` in proofs/Starred.antt.
use Rattle.std.specs.Prelude.{ℕ, List, [], ◌∷◌, ◌++◌, replicate}
use Rattle.field.specs.Field.{bytes_of}
use Rattle.response_header.specs.declared.Response.TheVariants as R
use Rattle.task_book.specs.Record.{fresh_record}
use Rattle.window.specs.Book as W
use Rattle.book.specs.Book.{Book, fresh_book, outputs, Call, offer, take, send, snack, ask, window_numbers, Answer, window, run, told, numbers, Choice}
use Rattle.book.specs.Events.{Event, Turn, turn, book_run, book_after}

-- A case: the calls that come before it on a session fresh at 0xfffffffe with connection 0's first StatSN 0xfffffffe and level
-- 1, the calls of the case, and their answers.
pub record Case : Type 0 where
  pub before : List Call
  pub calls : List Call
  pub answers : List Answer

abbrev case : List Call → List Call → List Answer → Case
case b c a = record { before = b; calls = c; answers = a }

-- A NOP-Out of this CmdSN, and a status SNACK of this run.
offers : (cmd_sn_of : ℕ) → Call
offers n = offer 0 7 (0x00 ∷ 0x80 ∷ replicate 22 0 ++ bytes_of 4 n ++ replicate 20 0)

asks : (begRun runLength : ℕ) → Call
asks b n = snack 0 (0x10 ∷ 0x81 ∷ replicate 14 0 ++ replicate 8 0xff ++ replicate 16 0 ++ bytes_of 4 b ++ bytes_of 4 n)

takes : Call
takes = take (outputs (replicate 48 0))

-- A Reject, as a status, with the record of some task, which it doesn't look at.
sends : Call
sends = send 0 7 (R.Reject (record { reason = 4 })) (fresh_record (record {
  initiator_task_tag = 0;
  lun = 0;
  transfer_tag = 0xffffffff;
  max_burst_length = 262144;
  max_outstanding_r2t = 1;
}) 0) (outputs (replicate 48 0))

three_held : List Call
three_held = sends ∷ sends ∷ sends ∷ []

unfoldable pub table : List Case
unfolding offers asks takes sends three_held
table =
    -- MaxCmdSN 0x3d
    case [] (ask window_numbers ∷ []) (told (numbers 0xfffffffe 0x3d) ∷ [])
    -- offer 0x3d kept
    ∷ case [] (offers 0x3d ∷ []) (window W.kept ∷ [])
    -- 0x3e beyond
    ∷ case (offers 0x3d ∷ []) (offers 0x3e ∷ []) (window W.beyond ∷ [])
    -- 0 kept, ExpCmdSN unmoved
    ∷ case (offers 0x3d ∷ offers 0x3e ∷ []) (offers 0 ∷ ask window_numbers ∷ []) (window W.kept ∷ told (numbers 0xfffffffe 0x3d) ∷ [])
    -- then 0xfffffffe kept, ExpCmdSN 0xffffffff
    ∷ case (offers 0x3d ∷ offers 0x3e ∷ offers 0 ∷ []) (offers 0xfffffffe ∷ ask window_numbers ∷ []) (window W.kept ∷ told (numbers 0xffffffff 0x3d) ∷ [])
    -- Take; offer 0xfffffffe passed
    ∷ case (offers 0x3d ∷ offers 0x3e ∷ offers 0 ∷ offers 0xfffffffe ∷ takes ∷ []) (offers 0xfffffffe ∷ []) (window W.passed ∷ [])
    -- 0xfffffffd beyond
    ∷ case (offers 0x3d ∷ offers 0x3e ∷ offers 0 ∷ offers 0xfffffffe ∷ takes ∷ []) (offers 0xfffffffd ∷ []) (window W.beyond ∷ [])
    -- Ledger holding 0xfffffffe, 0xffffffff, 0: run (0,0) is three
    ∷ case three_held (asks 0 0 ∷ []) (run 0xfffffffe 3 ∷ [])
    -- (0,1) is one
    ∷ case three_held (asks 0 1 ∷ []) (run 0 1 ∷ [])
    -- (0xffffffff,0) two
    ∷ case three_held (asks 0xffffffff 0 ∷ []) (run 0xffffffff 2 ∷ [])
    ∷ []

-- What the book answers to a case.
unfoldable pub answers_of : List Event → List Answer
answers_of [] = []
answers_of (e ∷ es) = e.answer ∷ answers_of es

unfoldable pub fresh : Book
fresh = fresh_book (record { first = 0xfffffffe; level = 1; opening = record { stat_sn = 0xfffffffe } })

-- Calls that leave nothing to the program.
unfoldable pub turns : List Call → List Turn
turns [] = []
turns (c ∷ cs) = turn c Choice.none ∷ turns cs

unfoldable pub found : List Case → List (List Answer)
found [] = []
found (c ∷ cs) = answers_of (book_run (book_after fresh (turns c.before)) (turns c.calls)) ∷ found cs

unfoldable pub expected : List Case → List (List Answer)
expected [] = []
expected (c ∷ cs) = c.answers ∷ expected cs
