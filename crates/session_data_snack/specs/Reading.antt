-- Of the inner functions: the step on a task's record that a PDU brings, by what reading says of it. FIELD for another kind than a SNACK.
use Rattle.std.specs.Prelude.{ℕ}
use Rattle.request_header.specs.Kind.{if_snack}
use Rattle.request_header.specs.Request as Read
use Rattle.task_book.specs.Record.{Record}
use Rattle.task_book.specs.Steps.{Step, refuse, data_snack_step}

abbrev pub data_snack_read : Record → (level offset : ℕ) → Read.Answer → Step
data_snack_read x v f (Read.refused n) = refuse n x
data_snack_read x v f (Read.got p) = if_snack (λ q. data_snack_step x v p.initiator_task_tag f q) (refuse 3 x) p.request
