-- The data sentences' notions: what the list of calls on a task says by itself of the numbers and the data. past is what was done before, the newest
-- first; immediate is the length of the data that came with the command.
use Rattle.std.specs.Prelude.{ℕ, suc, ◌+◌, max, Bool, true, false, List, [], ◌∷◌, ◌++◌, map, drop}
use Rattle.field.specs.Field.{pick}
use Rattle.response_header.specs.declared.R2t.{R2t}
use Rattle.task_book.specs.declared.TaskGiven.{TaskGiven}
use Rattle.task_book.specs.Record.{Record}
use Rattle.task_book.specs.Effects.{Effect, if_sends_data_in, if_sends_r2t, if_takes, if_acknowledges, if_restarts}

-- ---- one numbering for Data-In and R2T

-- Those before this number are acknowledged: "the numbers acknowledged never go back, so the number after a type 3 is the highest BegRun"; 0 before any.
unfoldable pub highest_beg_run : (past : List Effect) → ℕ
highest_beg_run [] = 0
highest_beg_run (e ∷ past) = if_acknowledges (λ b. max b (highest_beg_run past)) (highest_beg_run past) e

-- The first number since the making, 0, or since the latest type 3, the highest BegRun of then.
unfoldable pub started_from : (past : List Effect) → ℕ
started_from [] = 0
started_from (e ∷ past) = if_restarts (λ o t. highest_beg_run past) (started_from past) e

-- How many Data-In and R2T were sent since the making or the latest type 3.
unfoldable pub sent_since : (past : List Effect) → ℕ
sent_since [] = 0
sent_since (e ∷ past) =
    if_sends_data_in (λ h. suc (sent_since past))
    (if_sends_r2t (λ h. suc (sent_since past))
    (if_restarts (λ o t. 0) (sent_since past) e) e) e

-- The next number, which is the count of them all.
unfoldable pub number_due : (past : List Effect) → ℕ
number_due past = started_from past + sent_since past

-- The SNACK tag of the latest type 3; 0 before any.
unfoldable pub latest_tag : (past : List Effect) → ℕ
latest_tag [] = 0
latest_tag (e ∷ past) = if_restarts (λ o t. t) (latest_tag past) e

-- ---- Data-In

-- Whether one was ever sent.
unfoldable pub any_data_in_of : (past : List Effect) → Bool
any_data_in_of [] = false
any_data_in_of (e ∷ past) = if_sends_data_in (λ h. true) (any_data_in_of past) e

-- "where the last ended (or where the type 3 said)"; 0 at first.
unfoldable pub next_offset : (past : List Effect) → ℕ
next_offset [] = 0
next_offset (e ∷ past) =
    if_sends_data_in (λ h. h.buffer_offset + h.data_segment_length)
    (if_restarts (λ o t. o) (next_offset past) e) e

-- The bytes of a burst that were sent: those since the latest F, type 3 or the making.
unfoldable pub burst_so_far : (past : List Effect) → ℕ
burst_so_far [] = 0
burst_so_far (e ∷ past) =
    if_sends_data_in (λ h. pick h.is_final 0 (burst_so_far past + h.data_segment_length))
    (if_restarts (λ o t. 0) (burst_so_far past) e) e

-- ---- R2T and Data-Out

-- The offset where what an R2T asks for ends.
abbrev pub end_of : R2t → ℕ
end_of h = h.buffer_offset + h.desired_data_transfer_length

-- Where the last R2T ends; the immediate length before any.
unfoldable pub asked_to : (immediate : ℕ) → (past : List Effect) → ℕ
asked_to n [] = n
asked_to n (e ∷ past) = if_sends_r2t end_of (asked_to n past) e

-- Where the last Data-Out ended; the immediate length before any.
unfoldable pub came_to : (immediate : ℕ) → (past : List Effect) → ℕ
came_to n [] = n
came_to n (e ∷ past) = if_takes (λ p len. p.buffer_offset + len) (came_to n past) e

-- The R2Ts in the order in which they were sent; how many of them are answered whole, each by one Data-Out with F.
unfoldable pub r2ts_sent : (past : List Effect) → List R2t
r2ts_sent [] = []
r2ts_sent (e ∷ past) = if_sends_r2t (λ h. r2ts_sent past ++ h ∷ []) (r2ts_sent past) e

unfoldable pub answered : (past : List Effect) → ℕ
answered [] = 0
answered (e ∷ past) = if_takes (λ p len. pick p.is_final (suc (answered past)) (answered past)) (answered past) e

-- The others: "answered in order within the task", so the first of these is the one that is due.
unfoldable pub still_open : (past : List Effect) → List R2t
still_open past = drop (answered past) (r2ts_sent past)

-- How many Data-Out came since the latest F: the DataSN that is due.
unfoldable pub data_outs_since : (past : List Effect) → ℕ
data_outs_since [] = 0
data_outs_since (e ∷ past) = if_takes (λ p len. pick p.is_final 0 (suc (data_outs_since past))) (data_outs_since past) e

-- ---- all together

-- The record that these say.
unfoldable pub record_of : TaskGiven → (immediate : ℕ) → (past : List Effect) → Record
record_of g n past = record {
  given = g;
  numbering = record { sent = number_due past; acknowledged = highest_beg_run past; any_data_in = any_data_in_of past; snack_tag = latest_tag past };
  data_in = record { offset = next_offset past; burst = burst_so_far past };
  data_out = record { asked = asked_to n past; came = came_to n past; data_sn = data_outs_since past };
  open_r2ts = map (λ h. record { tag = h.target_transfer_tag; end = end_of h }) (still_open past);
}
