-- `task_data_in::data_in` meets its contract.
use mathlib.Core.Path.{sym, ◌∙◌}
use mathlib.Core.List.{[]}
use native.Mathlib.Omega.{arith}
use Rattle.task_book.proofs.Tests.{data-in-fits}
use Rattle.task_data_in.proofs.data_in.Goals as goal

pub data_in_header-header-requires : goal.data_in_header-header-requires
data_in_header-header-requires c = (data-in-fits _ _ _ (sym (c.data_in_ok.ensures [] []) ∙ c.if-data_in_ok.true)).offset

pub after_data_in-sequence-requires : goal.after_data_in-sequence-requires
after_data_in-sequence-requires c =
    let good = data-in-fits _ _ _ (sym (c.data_in_ok.ensures [] []) ∙ c.if-data_in_ok.true) in
    (good.end, omega arith)

pub overflow_add-result : goal.overflow_add-result
overflow_add-result c =
    let good = data-in-fits _ _ _ (sym (c.data_in_ok.ensures [] []) ∙ c.if-data_in_ok.true) in
    omega arith
