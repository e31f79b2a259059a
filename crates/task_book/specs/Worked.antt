-- A task's calls, worked out by hand beside the rules: what is good is accepted too. Immediate data of 4 bytes, bursts of at most 10, two R2Ts open.
use Rattle.std.specs.Prelude.{ℕ, Bool, true, false, List, [], ◌∷◌}
use Rattle.field.specs.Field.{none}
use Rattle.task_book.specs.declared.TaskGiven.{TaskGiven}
use Rattle.task_book.specs.Record.{Record}
use Rattle.task_book.specs.Steps.{Answer}
use Rattle.task_book.specs.History.{DataCall, step_of}

abbrev pub given : TaskGiven
given = record { initiator_task_tag = 1; lun = 2; transfer_tag = 3; max_burst_length = 10; max_outstanding_r2t = 2 }

-- The numbers of an answer: of a Data-In TTT, DataSN, offset and length; of an R2T tag, R2TSN, offset and length.
abbrev pub numbers_of : Answer → List ℕ
numbers_of (Answer.refused n) = n ∷ []
numbers_of (Answer.data_in h) = h.target_transfer_tag ∷ h.data_sn ∷ h.buffer_offset ∷ h.data_segment_length ∷ []
numbers_of (Answer.r2t h) = h.target_transfer_tag ∷ h.r2t_sn ∷ h.buffer_offset ∷ h.desired_data_transfer_length ∷ []
numbers_of (Answer.came o k m) = o ∷ k ∷ m ∷ []
numbers_of (Answer.run f k) = f ∷ k ∷ []
numbers_of (Answer.acknowledged k) = k ∷ []

abbrev pub answers : Record → List DataCall → List (List ℕ)
answers x [] = []
answers x (c ∷ cs) = numbers_of (step_of x c).answer ∷ answers (step_of x c).after cs

abbrev pub out : (final : Bool) → (tag sn offset len : ℕ) → DataCall
out f t s o n = DataCall.data_out 1 (record { is_final = f; target_transfer_tag = t; data_sn = s; buffer_offset = o }) n

abbrev pub snack : (type tag begRun runLength offset : ℕ) → DataCall
snack y t b n o = DataCall.data_snack 1 1 o (record { snack_type = y; target_transfer_tag = t; beg_run = b; run_length = n })

abbrev pub calls : List DataCall
calls =
    DataCall.r2t 7 6 ∷ DataCall.r2t 8 10 ∷ DataCall.r2t 9 1 ∷ out false 7 0 4 5 ∷ out true 8 0 10 10 ∷ out true 7 1 9 1 ∷ out true 8 0 10 10
    ∷ DataCall.data_in false false 4 ∷ DataCall.data_in true true 6 ∷ DataCall.data_in false false 10 ∷ DataCall.data_in false false 1
    ∷ snack 2 3 3 0 0 ∷ snack 2 3 1 0 0 ∷ snack 0 0 0 0 0 ∷ snack 0 0 4 0 0 ∷ snack 0 0 2 1 0 ∷ snack 0 0 4 2 0
    ∷ snack 3 77 0 0 4 ∷ DataCall.data_in true false 10 ∷ DataCall.r2t 9 1 ∷ []

abbrev pub expected : List (List ℕ)
expected =
    (7 ∷ 0 ∷ 4 ∷ 6 ∷ []) ∷ (8 ∷ 1 ∷ 10 ∷ 10 ∷ []) ∷ (3 ∷ []) ∷ (4 ∷ 5 ∷ 2 ∷ []) ∷ (3 ∷ []) ∷ (9 ∷ 1 ∷ 1 ∷ []) ∷ (10 ∷ 10 ∷ 0 ∷ [])
    ∷ (none ∷ 2 ∷ 0 ∷ 4 ∷ []) ∷ (3 ∷ 3 ∷ 4 ∷ 6 ∷ []) ∷ (none ∷ 4 ∷ 10 ∷ 10 ∷ []) ∷ (3 ∷ [])
    ∷ (3 ∷ []) ∷ (0 ∷ []) ∷ (3 ∷ 2 ∷ []) ∷ (4 ∷ 1 ∷ []) ∷ (12 ∷ []) ∷ (12 ∷ [])
    ∷ (3 ∷ 2 ∷ []) ∷ (none ∷ 3 ∷ 4 ∷ 10 ∷ []) ∷ (9 ∷ 4 ∷ 20 ∷ 1 ∷ []) ∷ []
