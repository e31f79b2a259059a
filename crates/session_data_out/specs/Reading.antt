-- Of the inner functions: the step on a task's record that a PDU brings, by what reading says of it. FIELD for another kind than a Data-Out.
use Rattle.std.specs.Prelude.{ℕ, zero, suc, ◌≤◌, ◌≡◌, List, length}
use Rattle.field.specs.Field.{be_at}
use Rattle.request_header.specs.Kind.{if_data_out}
use Rattle.request_header.specs.Request as Read
use Rattle.request_header.specs.Request.{data_out_of, data_length_of}
use Rattle.task_book.specs.Record.{Record}
use Rattle.task_book.specs.Steps.{Step, refuse, data_out_step}
use Rattle.window.specs.Agree.{Commands}
use Rattle.ledger.specs.Agree.{Statuses}
use Rattle.book.specs.Book.{transfer, data_out, no_outputs}
use Rattle.session_state.specs.declared.Session.{Session}
use Rattle.session_state.specs.Agree.{Did, state}
use Rattle.session_state.specs.Transfer.{transferred}

abbrev pub data_out_read : Record → Read.Answer → Step
data_out_read x (Read.refused n) = refuse n x
data_out_read x (Read.got p) = if_data_out (λ q. data_out_step x p.initiator_task_tag q p.data_segment_length) (refuse 3 x) p.request

-- A Data-Out is judged before its task's record is looked at: a number that refuses it, or 0, and then its fields decide.
abbrev pub data_out_judged : Record → (pdu : List ℕ) → (number : ℕ) → Step
data_out_judged x p zero = data_out_step x (be_at p 16 4) (data_out_of p) (data_length_of p)
data_out_judged x p (suc n) = refuse (suc n) x

-- So it is for every record.
pub record JudgesDataOut (s : Session) (c : ℕ) (p : List ℕ) (number : ℕ) : Type 0 where
  pub long : number ≡ 0 → 48 ≤ length p
  pub did : (x : Record) (k : Commands) (ss : Statuses)
      → Did (transfer c x (data_out p)) (state s k ss) (transferred (data_out_judged x p number)) no_outputs (state s k ss)
