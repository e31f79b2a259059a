-- The answer number of each refusal, and the status of a refused login.
use Rattle.std.specs.Prelude.{ℕ, List, ◌++◌, Result, Ok, Err, codes}
use Rattle.std.specs.Fmt.{decimal}
use Rattle.refusal.specs.declared.Refusal.{Refusal}
use Rattle.refusal.specs.declared.Refusal.TheVariants as F

-- the table of answer numbers
abbrev pub number : Refusal → ℕ
number F.Buffer = 1
number F.Opcode = 2
number F.Field = 3
number F.Length = 4
number F.TooLong = 5
number (F.Login s) = 6
number F.NoConn = 7
number F.Closed = 8
number F.Open = 9
number F.Full = 10
number F.Stale = 11
number F.Snack = 12

-- an answer's number: 0, or that of the refusal
abbrev pub answer_number : {T : Type 0} → Result T Refusal → ℕ
answer_number (Ok _) = 0
answer_number (Err f) = number f

-- "6 also the status"; 0 for every other
abbrev pub status : Refusal → ℕ
status F.Buffer = 0
status F.Opcode = 0
status F.Field = 0
status F.Length = 0
status F.TooLong = 0
status (F.Login s) = s
status F.NoConn = 0
status F.Closed = 0
status F.Open = 0
status F.Full = 0
status F.Stale = 0
status F.Snack = 0

-- what the programs write of a refusal
abbrev pub written_out : Refusal → List ℕ
written_out f = codes "refused " ++ decimal (number f)
