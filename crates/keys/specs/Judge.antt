-- A pair of a block, judged: what refuses it, and what it is answered.
use Rattle.std.specs.Prelude.{ℕ, Bool, true, false, not, ◌&&◌, List, length, eqb, Result, Ok, Err}
use Rattle.text.specs.Text.{pick, bytes, same, listed, within}
use Rattle.key_table.specs.Table.{kind_at, row_at}
use Rattle.key_values.specs.Settle.{settling}
use Rattle.key_table.specs.declared.table.Kind.{Kind}
use Rattle.key_table.specs.declared.table.Kind.TheVariants as K
use Rattle.key_values.specs.declared.value.Reply.TheVariants as A
use Rattle.key_values.specs.declared.value.Judgement.{Judgement}
use Rattle.key_values.specs.declared.value.Judgement.TheVariants as J

-- InitiatorName and TargetName: 1 to 223 bytes, else 0x0200
abbrev pub good_length : List ℕ → Bool
good_length v = within 1 223 (length v)

unfoldable pub initiator_name : List ℕ → Result Judgement ℕ
initiator_name v = pick (good_length v) (Ok (J.Said A.Silent)) (Err 0x0200)

-- a TargetName not ours is 0x0203
unfoldable pub target_name : List ℕ → List ℕ → Result Judgement ℕ
target_name ours v = pick (good_length v) (pick (same v ours) (Ok (J.Said A.Silent)) (Err 0x0203)) (Err 0x0200)

-- Normal; Discovery is 0x0209, any other 0x0200
unfoldable pub session_type : List ℕ → Result Judgement ℕ
session_type v = pick (same v (bytes "Normal")) (Ok (J.Said A.Silent)) (pick (same v (bytes "Discovery")) (Err 0x0209) (Err 0x0200))

-- Digests: None if the comma list has it, else Reject
unfoldable pub digest : List ℕ → Result Judgement ℕ
digest v = pick (listed (bytes "None") v) (Ok (J.Said A.None)) (Ok (J.Said A.Reject))

-- TaskReporting likewise with RFC3720
unfoldable pub task_reporting : List ℕ → Result Judgement ℕ
task_reporting v = pick (listed (bytes "RFC3720") v) (Ok (J.Said A.Rfc3720)) (Ok (J.Said A.Reject))

-- AuthMethod as digests, but 0x0201 for Reject
unfoldable pub auth_method : List ℕ → Result Judgement ℕ
auth_method v = pick (listed (bytes "None") v) (Ok (J.Said A.None)) (Err 0x0201)

-- the value v of key k, which is of this kind; our target name is given
abbrev pub judge_by : Kind → ℕ → List ℕ → List ℕ → Result Judgement ℕ
judge_by K.Negotiated k ours v = Ok (settling (row_at k) v)
judge_by K.Declared k ours v = Ok (settling (row_at k) v)
judge_by K.Digest k ours v = digest v
judge_by K.TaskReporting k ours v = task_reporting v
judge_by K.AuthMethod k ours v = auth_method v
judge_by K.InitiatorName k ours v = initiator_name v
judge_by K.TargetName k ours v = target_name ours v
judge_by K.SessionType k ours v = session_type v
judge_by K.InitiatorAlias k ours v = Ok (J.Said A.Silent)
judge_by K.Marker k ours v = Ok (J.Said A.Reject)
judge_by K.Refused k ours v = Err 0x0200

-- The table's keys, the digests and TaskReporting are operational (1); AuthMethod is for security (0); the others may come in either.
abbrev pub stands : Kind → ℕ → Bool
stands K.Negotiated stage = eqb stage 1
stands K.Declared stage = eqb stage 1
stands K.Digest stage = eqb stage 1
stands K.TaskReporting stage = eqb stage 1
stands K.AuthMethod stage = eqb stage 0
stands K.InitiatorName stage = true
stands K.TargetName stage = true
stands K.SessionType stage = true
stands K.InitiatorAlias stage = true
stands K.Marker stage = true
stands K.Refused stage = true

-- leading login only: TaskReporting and the table's keys other than MaxRecvDataSegmentLength
abbrev pub leading_only : Kind → Bool
leading_only K.Negotiated = true
leading_only K.Declared = false
leading_only K.Digest = false
leading_only K.TaskReporting = true
leading_only K.AuthMethod = false
leading_only K.InitiatorName = false
leading_only K.TargetName = false
leading_only K.SessionType = false
leading_only K.InitiatorAlias = false
leading_only K.Marker = false
leading_only K.Refused = false

-- a known key: the wrong stage, leading login only and twice come before its value
unfoldable pub judge_key : Bool → ℕ → Bool → List ℕ → ℕ → List ℕ → Result Judgement ℕ
judge_key seen stage leading ours k v =
    pick (not (stands (kind_at k) stage)) (Err 0x0200)
    (pick (leading_only (kind_at k) && not leading) (Err 0x0200)
    (pick seen (Err 0x0200)
    (judge_by (kind_at k) k ours v)))

-- a pair of key k, which came before in this login or not; other keys (28) are NotUnderstood
unfoldable pub judge_named : Bool → ℕ → Bool → List ℕ → ℕ → List ℕ → Result Judgement ℕ
judge_named came stage leading ours k v = pick (eqb k 28) (Ok (J.Said A.NotUnderstood)) (judge_key came stage leading ours k v)
