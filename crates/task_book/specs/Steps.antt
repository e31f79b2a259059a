-- Request L1: the calls that move data, on a task's record. Each comes after the refusals of the connection and those of reading or writing; what is
-- stated here is FIELD, of a data SNACK also SNACK, and else the answer and the record after it. Every record, also one that no call made, gets
-- its answer.
use Rattle.std.specs.Prelude.{ℕ, ◌+◌, ◌-◌, Bool, true, false, not, ◌&&◌, ◌||◌, List, [], ◌∷◌, ◌++◌, eqb, leb, ltb, length}
use Rattle.field.specs.Field.{pick, none}
use Rattle.request_header.specs.declared.DataOut.{DataOut}
use Rattle.request_header.specs.declared.Snack.{Snack}
use Rattle.response_header.specs.declared.DataIn.{DataIn}
use Rattle.response_header.specs.declared.R2t.{R2t}
use Rattle.task_book.specs.declared.Numbering.{Numbering}
use Rattle.task_book.specs.Record.{OpenR2T, Record, open_places, last_number, offset_end}

-- What a call on a record answers: a refusal's number; the header that is written; the place and length of data that came and how many R2Ts are open
-- then; a run of numbers; how many numbers are newly acknowledged.
pub data Answer : Type 0 where
  refused : ℕ → Answer
  data_in : DataIn → Answer
  r2t : R2t → Answer
  came : (offset count opened : ℕ) → Answer
  run : (first count : ℕ) → Answer
  acknowledged : (count : ℕ) → Answer

-- The answer, and the record after it.
pub record Step : Type 0 where
  pub answer : Answer
  pub after : Record

abbrev pub step : Answer → Record → Step
step a x = record { answer = a; after = x }

-- "a refusal returns it unchanged"
abbrev pub refuse : ℕ → Record → Step
refuse n x = step (refused n) x

-- ---- parts of a record

-- One Data-In or R2T more; i: it is a Data-In.
unfoldable pub numbered : Numbering → (i : Bool) → Numbering
numbered n i = record { sent = n.sent + 1; acknowledged = n.acknowledged; any_data_in = n.any_data_in || i; snack_tag = n.snack_tag }

-- ---- Data-In

-- "FIELD: the burst with this PDU passes MaxBurstLength; the offset isn't below 2^32, or offset and length together pass 2^32; the count sent is
-- 2^32 - 1; A with a transfer tag of 0xffffffff."
unfoldable pub data_in_ok : Record → (acknowledge : Bool) → (len : ℕ) → Bool
data_in_ok x a n =
    ((leb (x.data_in.burst + n) x.given.max_burst_length
    && (ltb x.data_in.offset offset_end && leb (x.data_in.offset + n) offset_end))
    && ltb x.numbering.sent last_number)
    && not (a && eqb x.given.transfer_tag none)

-- "writes the header with the next number as DataSN, the next offset, the record's ITT; with A the record's LUN and transfer tag, without A LUN 0
-- and TTT 0xffffffff (RFC 7143: reserved)"
unfoldable pub data_in_header : Record → (final acknowledge : Bool) → (len : ℕ) → DataIn
data_in_header x f a n = record {
  is_final = f;
  acknowledge = a;
  data_segment_length = n;
  lun = pick a x.given.lun 0;
  initiator_task_tag = x.given.initiator_task_tag;
  target_transfer_tag = pick a x.given.transfer_tag none;
  data_sn = x.numbering.sent;
  buffer_offset = x.data_in.offset;
}

-- "F ends the burst: the next one starts at 0 bytes."
unfoldable pub after_data_in : Record → (final : Bool) → (len : ℕ) → Record
after_data_in x f n = record {
  given = x.given;
  numbering = numbered x.numbering true;
  data_in = record { offset = x.data_in.offset + n; burst = pick f 0 (x.data_in.burst + n) };
  data_out = x.data_out;
  open_r2ts = x.open_r2ts;
}

unfoldable pub data_in_step : Record → (final acknowledge : Bool) → (len : ℕ) → Step
data_in_step x f a n = pick (data_in_ok x a n) (step (data_in (data_in_header x f a n)) (after_data_in x f n)) (refuse 3 x)

-- ---- R2T

-- "FIELD: tag 0xffffffff; length 0 or above MaxBurstLength; offset and length together pass 2^32; MaxOutstandingR2T are open; the count sent is
-- 2^32 - 1." A record holds eight open ones at most.
unfoldable pub r2t_ok : Record → (tag len : ℕ) → Bool
r2t_ok x t n =
    (((not (eqb t none) && (ltb 0 n && leb n x.given.max_burst_length))
    && leb (x.data_out.asked + n) offset_end)
    && (ltb (length x.open_r2ts) x.given.max_outstanding_r2t && ltb (length x.open_r2ts) open_places))
    && ltb x.numbering.sent last_number

-- "writes the header with the next number as R2TSN, .., the record's ITT and LUN, the offset up to which was asked"
unfoldable pub r2t_header : Record → (tag len : ℕ) → R2t
r2t_header x t n = record {
  lun = x.given.lun;
  initiator_task_tag = x.given.initiator_task_tag;
  target_transfer_tag = t;
  r2t_sn = x.numbering.sent;
  buffer_offset = x.data_out.asked;
  desired_data_transfer_length = n;
}

unfoldable pub after_r2t : Record → (tag len : ℕ) → Record
after_r2t x t n = record {
  given = x.given;
  numbering = numbered x.numbering false;
  data_in = x.data_in;
  data_out = record { asked = x.data_out.asked + n; came = x.data_out.came; data_sn = x.data_out.data_sn };
  open_r2ts = x.open_r2ts ++ record { tag = t; end = x.data_out.asked + n } ∷ [];
}

unfoldable pub r2t_step : Record → (tag len : ℕ) → Step
r2t_step x t n = pick (r2t_ok x t n) (step (r2t (r2t_header x t n)) (after_r2t x t n)) (refuse 3 x)

-- ---- Data-Out

-- A Data-Out that answers the R2T q. "FIELD: .. ITT not the record's; .. TTT not the oldest open one's tag; DataSN not the one due .., or the one due
-- is 2^32 - 1; Buffer Offset not where the data came up to; its end past the R2T's end; F set before the R2T's end, or clear at it."
unfoldable pub data_out_ok : Record → OpenR2T → (initiatorTaskTag : ℕ) → DataOut → (len : ℕ) → Bool
data_out_ok x q i p n =
    ((eqb i x.given.initiator_task_tag && eqb p.target_transfer_tag q.tag)
    && (eqb p.data_sn x.data_out.data_sn && ltb x.data_out.data_sn last_number))
    && (eqb p.buffer_offset x.data_out.came
    && pick p.is_final (eqb (x.data_out.came + n) q.end) (ltb (x.data_out.came + n) q.end))

-- With F its R2T is answered whole, and DataSN starts anew: "0 at the start of each R2T's burst, then one more for each".
unfoldable pub after_data_out : Record → (rest : List OpenR2T) → (final : Bool) → (len : ℕ) → Record
after_data_out x rest f n = record {
  given = x.given;
  numbering = x.numbering;
  data_in = x.data_in;
  data_out = record { asked = x.data_out.asked; came = x.data_out.came + n; data_sn = pick f 0 (x.data_out.data_sn + 1) };
  open_r2ts = pick f rest x.open_r2ts;
}

-- "It answers offset, length, and how many R2Ts are open after it."
abbrev pub data_out_at : Record → (opened : List OpenR2T) → (initiatorTaskTag : ℕ) → DataOut → (len : ℕ) → Step
data_out_at x [] i p n = refuse 3 x
data_out_at x (q ∷ rest) i p n =
    pick (data_out_ok x q i p n)
    (step (came p.buffer_offset n (length (after_data_out x rest p.is_final n).open_r2ts)) (after_data_out x rest p.is_final n))
    (refuse 3 x)

-- "no R2T open" is FIELD.
unfoldable pub data_out_step : Record → (initiatorTaskTag : ℕ) → DataOut → (len : ℕ) → Step
data_out_step x i p n = data_out_at x x.open_r2ts i p n

-- ---- data SNACK

-- How many are sent and not acknowledged.
unfoldable pub unacknowledged : Record → ℕ
unacknowledged x = x.numbering.sent - x.numbering.acknowledged

-- All of these: "perhaps none: the next number and 0".
unfoldable pub all_unacknowledged : Record → Answer
all_unacknowledged x = run (x.numbering.sent - unacknowledged x) (unacknowledged x)

-- "otherwise BegRun must be one of them, RunLength 0 is to the end, and a run must lie wholly in them"
unfoldable pub run_from : Record → (begRun runLength : ℕ) → Answer
run_from x b n =
    pick (leb x.numbering.acknowledged b && ltb b x.numbering.sent)
    (pick (eqb n 0) (run b (x.numbering.sent - b)) (pick (leb n (x.numbering.sent - b)) (run b n) (refused 12)))
    (refused 12)

-- Type 0: "(0,0) is all of them"; the caller resends the run, and the record stays.
unfoldable pub data_run : Record → (begRun runLength : ℕ) → Step
data_run x b n = step (pick (eqb b 0 && eqb n 0) (all_unacknowledged x) (run_from x b n)) x

-- Type 2, DataACK: "BegRun above the count sent is SNACK; otherwise those before BegRun are acknowledged (an older BegRun acknowledges nothing new and
-- isn't refused; the numbers acknowledged never go back ..); the answer is how many newly are."
unfoldable pub acknowledged_to : Record → (begRun : ℕ) → Record
acknowledged_to x b = record {
  given = x.given;
  numbering = record {
    sent = x.numbering.sent;
    acknowledged = pick (ltb x.numbering.acknowledged b) b x.numbering.acknowledged;
    any_data_in = x.numbering.any_data_in;
    snack_tag = x.numbering.snack_tag;
  };
  data_in = x.data_in;
  data_out = x.data_out;
  open_r2ts = x.open_r2ts;
}

unfoldable pub data_acknowledged : Record → (begRun : ℕ) → Step
data_acknowledged x b = pick (leb b x.numbering.sent) (step (acknowledged (b - x.numbering.acknowledged)) (acknowledged_to x b)) (refuse 12 x)

-- Type 3, R-Data: "the count sent goes back to the count acknowledged .., the offset becomes the one given, a burst begins, the PDU's TTT becomes the
-- SNACK tag. Open R2Ts stay open".
unfoldable pub restarted_at : Record → (offset tag : ℕ) → Record
restarted_at x o t = record {
  given = x.given;
  numbering = record {
    sent = x.numbering.acknowledged;
    acknowledged = x.numbering.acknowledged;
    any_data_in = x.numbering.any_data_in;
    snack_tag = t;
  };
  data_in = record { offset = o; burst = 0 };
  data_out = x.data_out;
  open_r2ts = x.open_r2ts;
}

-- "BegRun or RunLength other than 0 is SNACK; otherwise the answer is the run of all not acknowledged"
unfoldable pub data_restarted : Record → (offset : ℕ) → Snack → Step
data_restarted x o p =
    pick (eqb p.beg_run 0 && eqb p.run_length 0)
    (step (all_unacknowledged x) (restarted_at x o p.target_transfer_tag))
    (refuse 12 x)

-- "FIELD for .. type 1; ITT not the record's (types 0, 3); TTT not the record's transfer tag, or that tag 0xffffffff, which is never due (type 2)".
-- Reading leaves types 0 to 3.
unfoldable pub snack_ok : Record → (initiatorTaskTag : ℕ) → Snack → Bool
snack_ok x i p =
    not (eqb p.snack_type 1)
    && pick (eqb p.snack_type 2)
    (eqb p.target_transfer_tag x.given.transfer_tag && not (eqb p.target_transfer_tag none))
    (eqb i x.given.initiator_task_tag)

-- By its type.
unfoldable pub data_snack_by : Record → (offset : ℕ) → Snack → Step
data_snack_by x o p =
    pick (eqb p.snack_type 0) (data_run x p.beg_run p.run_length)
    (pick (eqb p.snack_type 2) (data_acknowledged x p.beg_run)
    (data_restarted x o p))

-- "after FIELD, SNACK exactly at ErrorRecoveryLevel 0, or if it asks for a number not sent or already acknowledged, acknowledges one not sent, or is
-- type 3 with a run"
unfoldable pub data_snack_step : Record → (level initiatorTaskTag offset : ℕ) → Snack → Step
data_snack_step x v i o p = pick (snack_ok x i p) (pick (eqb v 0) (refuse 12 x) (data_snack_by x o p)) (refuse 3 x)

-- ---- statuses

-- "ExpDataSN in the SCSI Response is now the count of Data-In and R2T sent (0 where RFC 7143 says so)": 0 where the response isn't 0x00, Command
-- Completed at Target, or no Data-In was ever sent for the task.
unfoldable pub exp_data_sn_of : Numbering → (response : ℕ) → ℕ
exp_data_sn_of n c = pick (eqb c 0 && n.any_data_in) n.sent 0
