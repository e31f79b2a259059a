-- `session_data_snack::read_data_snack` meets its contract: of a good SNACK, its fields.
use Prim.Native.Nat.{ℕ}
use mathlib.Core.Path.{sym, ap, ap₂, ◌∙◌}
use native.Mathlib.Omega.{arith}
use Rattle.request_header.specs.declared.Snack.{Snack}
use Rattle.request_header.proofs.Header.{header-be, header-snack}
use Rattle.task.specs.Agree.{record_of}
use Rattle.task_book.specs.Steps.{data_snack_step}
use Rattle.session_data_snack.specs.Reading.{data_snack_read}
use Rattle.session_data_snack.proofs.Outcomes.{snack-good}
use Rattle.session_data_snack.proofs.read_data_snack.Goals as goal

pub returns-in-Ok : goal.returns-in-Ok
returns-in-Ok c ts es =
    let a = c.args in
    let s = a.pdu.now in
    let x = record_of a.t ts es in
    let h = c.in-Ok.ensures.header in
    c.data_snack_in.ensures ts es
    ∙ ap₂ (λ (i : ℕ) (q : Snack). data_snack_step x a.level i a.offset q) (header-be s h.first 16 4 (omega arith)) (header-snack s h.first)
    ∙ snack-good x s a.level a.offset
    ∙ ap (data_snack_read x a.level a.offset) (sym h.good)
