-- A task's record between calls: 12 numbers of 32 bits and 4 of 64 bits; its open R2Ts lie in two arrays beside them.
use Rattle.std.specs.Prelude.{ℕ, List, [], ◌∷◌}
use Rattle.words.specs.Words.{word, is_set, flag_word}
use Rattle.task_book.specs.Record.{Record}
use Rattle.task.specs.declared.Task.{Task}
use Rattle.task.specs.Agree.{record_of}

-- ITT, transfer tag, MaxBurstLength, MaxOutstandingR2T; sent, acknowledged, whether a Data-In was sent, SNACK tag; the burst so far; the next Data-Out's
-- DataSN; the place of the oldest open R2T, and how many are open. Of 64 bits: LUN; the next Data-In's offset; asked for, and came, up to
unfoldable pub task_of : (numbers wide : List ℕ) → Task
task_of n w = record {
  given = record {
    initiator_task_tag = word n 0;
    lun = word w 0;
    transfer_tag = word n 1;
    max_burst_length = word n 2;
    max_outstanding_r2t = word n 3;
  };
  numbering = record { sent = word n 4; acknowledged = word n 5; any_data_in = is_set (word n 6); snack_tag = word n 7 };
  data_in = record { offset = word w 1; burst = word n 8 };
  data_out = record { asked = word w 2; came = word w 3; data_sn = word n 9 };
  first_open = word n 10;
  open_count = word n 11;
}

-- ---- what is written: all of them

abbrev pub task_numbers : Task → List ℕ
task_numbers t =
    t.given.initiator_task_tag ∷ t.given.transfer_tag ∷ t.given.max_burst_length ∷ t.given.max_outstanding_r2t
    ∷ t.numbering.sent ∷ t.numbering.acknowledged ∷ flag_word t.numbering.any_data_in ∷ t.numbering.snack_tag
    ∷ t.data_in.burst ∷ t.data_out.data_sn ∷ t.first_open ∷ t.open_count ∷ []

abbrev pub task_wide : Task → List ℕ
task_wide t = t.given.lun ∷ t.data_in.offset ∷ t.data_out.asked ∷ t.data_out.came ∷ []

-- ---- the words of a record, all that C keeps of it

pub record TaskWords : Type 0 where
  pub numbers : List ℕ
  pub wide : List ℕ
  pub tags : List ℕ
  pub ends : List ℕ

abbrev pub task_words : (numbers wide tags ends : List ℕ) → TaskWords
task_words n w t e = record { numbers = n; wide = w; tags = t; ends = e }

abbrev pub record_in : TaskWords → Record
record_in w = record_of (task_of w.numbers w.wide) w.tags w.ends
