-- The data sentences, of a list of calls and answers on one task from the making of its record. Their notions are read off the list. The theorem that
-- gives them for every list is `data-sentences` in proofs/Sentences; `record-said` there, that the record after it is the one that the list says.
use Rattle.std.specs.Prelude.{ℕ, ◌+◌, ◌<◌, ◌≤◌, ◌≡◌, true, false, List, [], ◌∷◌, ◌↔◌, ◌⊎◌, length}
use Rattle.request_header.specs.declared.DataOut.{DataOut}
use Rattle.response_header.specs.declared.DataIn.{DataIn}
use Rattle.response_header.specs.declared.R2t.{R2t}
use Rattle.task_book.specs.declared.TaskGiven.{TaskGiven}
use Rattle.task_book.specs.Record.{last_number, offset_end}
use Rattle.task_book.specs.Steps.{Answer}
use Rattle.task_book.specs.History.{DataCall, step_of, Event, moved, responded}
use Rattle.task_book.specs.Effects.{Effect, sends_data_in, sends_r2t, takes, acknowledges, restarts, effect_of, and_then}
use Rattle.task_book.specs.Notions.{highest_beg_run, number_due, any_data_in_of, next_offset, burst_so_far, end_of, asked_to, came_to, still_open, data_outs_since, record_of}

-- In all that follows: g is what the record was made from, and immediate the length of the data that came with the command; past is what was done before
-- the call, and e the call with its answer.

-- A Data-Out p with len bytes lies in the R2T to, and bears its tag.
pub record LiesIn (p : DataOut) (len : ℕ) (to : R2t) : Type 0 where
  pub tag : p.target_transfer_tag ≡ to.target_transfer_tag
  pub from : to.buffer_offset ≤ p.buffer_offset
  pub within : p.buffer_offset + len ≤ end_of to

-- The ExpDataSN k of a SCSI Response with the code r: the count sent where it is 0, Command Completed at Target, and a Data-In was ever sent; else 0.
pub record Expects (past : List Effect) (r k : ℕ) : Type 0 where
  pub count : r ≡ 0 → any_data_in_of past ≡ true → k ≡ number_due past
  pub zero : (r ≡ 0 → ⊥) ⊎ (any_data_in_of past ≡ false) → k ≡ 0

pub record DataSentences (g : TaskGiven) (immediate : ℕ) (past : List Effect) (e : Event) : Type 0 where
  -- "numbers sent since the making or the latest type 3 are consecutive from where L1 says": one numbering for both
  pub data_sn : (h : DataIn) → effect_of e ≡ sends_data_in h → h.data_sn ≡ number_due past
  pub r2t_sn : (h : R2t) → effect_of e ≡ sends_r2t h → h.r2t_sn ≡ number_due past
  -- "each Data-In starts where the last ended (or where the type 3 said)"
  pub in_order : (h : DataIn) → effect_of e ≡ sends_data_in h → h.buffer_offset ≡ next_offset past
  -- "R2T ranges join without gap or overlap from the immediate length on"
  pub asks_on : (h : R2t) → effect_of e ≡ sends_r2t h → h.buffer_offset ≡ asked_to immediate past
  -- "accepted Data-Out bytes join without gap or overlap"; in each R2T's burst they are numbered from 0 on
  pub comes_on : (p : DataOut) (len : ℕ) → effect_of e ≡ takes p len → p.buffer_offset ≡ came_to immediate past
  pub data_out_sn : (p : DataOut) (len : ℕ) → effect_of e ≡ takes p len → p.data_sn ≡ data_outs_since past
  -- "and lie in the R2T that they answer", the oldest open one; without one none is accepted
  pub lies_in : (p : DataOut) (len : ℕ) (to : R2t) (later : List R2t) → effect_of e ≡ takes p len → still_open past ≡ to ∷ later → LiesIn p len to
  pub solicited : (p : DataOut) (len : ℕ) → effect_of e ≡ takes p len → still_open past ≡ [] → ⊥
  -- "each burst is at most MaxBurstLength": a Data-In's, with it; and what an R2T asks for, which is something
  pub burst_in : (h : DataIn) → effect_of e ≡ sends_data_in h → burst_so_far past + h.data_segment_length ≤ g.max_burst_length
  pub burst_out : (h : R2t) → effect_of e ≡ sends_r2t h → (0 < h.desired_data_transfer_length) × (h.desired_data_transfer_length ≤ g.max_burst_length)
  -- "F is set exactly on the Data-Out that ends its R2T"
  pub final : (p : DataOut) (len : ℕ) (to : R2t) (later : List R2t) → effect_of e ≡ takes p len → still_open past ≡ to ∷ later
      → (p.is_final ≡ true) ↔ (p.buffer_offset + len ≡ end_of to)
  -- "at most MaxOutstandingR2T are open", after the call; a Data-Out's answer tells how many
  pub few : length (still_open (and_then past e)) ≤ g.max_outstanding_r2t
  pub tells : (c : DataCall) (o k m : ℕ) → e ≡ moved c (Answer.came o k m) → m ≡ length (still_open (and_then past e))
  -- "ExpDataSN of a SCSI Response is the count of them"
  pub exp_data_sn : (r k : ℕ) → e ≡ responded r k → Expects past r k
  -- a SNACK's run lies in the numbers that are sent and not acknowledged; a type 3's is all of them
  pub runs : (c : DataCall) (first count : ℕ) → e ≡ moved c (Answer.run first count) → (highest_beg_run past ≤ first) × (first + count ≤ number_due past)
  pub restarts_all : (c : DataCall) (first count o t : ℕ) → e ≡ moved c (Answer.run first count) → effect_of e ≡ restarts o t
      → (first ≡ highest_beg_run past) × (first + count ≡ number_due past)
  -- a DataACK acknowledges none that isn't sent, and answers how many newly are
  pub sent_before : (b : ℕ) → effect_of e ≡ acknowledges b → b ≤ number_due past
  pub newly : (c : DataCall) (k : ℕ) → e ≡ moved c (Answer.acknowledged k) → highest_beg_run past + k ≡ highest_beg_run (and_then past e)
  -- numbers are below 2^32 - 1, offsets below 2^32, and what is sent or asked for ends within 2^32
  pub fits_in : (h : DataIn) → effect_of e ≡ sends_data_in h
      → (h.data_sn < last_number) × (h.buffer_offset < offset_end) × (h.buffer_offset + h.data_segment_length ≤ offset_end)
  pub fits_out : (h : R2t) → effect_of e ≡ sends_r2t h → (h.r2t_sn < last_number) × (end_of h ≤ offset_end)
  pub fits_data_out : (p : DataOut) (len : ℕ) → effect_of e ≡ takes p len → p.data_sn < last_number
  -- "Exactly the calls that break this, or whose tag or number isn't the one due, are FIELD": each answer is the one that the rules of Steps give where the
  -- task's record is what the list says
  pub exactly : (c : DataCall) (a : Answer) → e ≡ moved c a → a ≡ (step_of (record_of g immediate past) c).answer

-- What holds of each event of a list, in the order of the calls, with what was done before it.
unfoldable pub EachEvent : (List Effect → Event → Type 0) → List Effect → List Event → Type 0
EachEvent P past [] = Unit {0}
EachEvent P past (e ∷ es) = P past e × EachEvent P (and_then past e) es

-- The data sentences of the events of a task whose record was made from g, with immediate data of that length.
abbrev pub DataPhases : TaskGiven → (immediate : ℕ) → List Event → Type 0
DataPhases g n es = EachEvent (DataSentences g n) [] es
