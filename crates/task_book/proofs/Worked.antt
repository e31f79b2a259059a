-- The worked calls are answered so by the definitions.
use mathlib.Core.Path.{◌≡◌, refl}
use Rattle.task_book.specs.Record.{fresh_record}
use Rattle.task_book.specs.Steps.{numbered, data_in_ok, data_in_header, after_data_in, data_in_step, r2t_ok, r2t_header, after_r2t, r2t_step}
use Rattle.task_book.specs.Steps.{data_out_ok, after_data_out, data_out_step, unacknowledged, all_unacknowledged, run_from, data_run, acknowledged_to}
use Rattle.task_book.specs.Steps.{data_acknowledged, restarted_at, data_restarted, snack_ok, data_snack_by, data_snack_step}
use Rattle.task_book.specs.Worked.{given, answers, calls, expected}

pub worked : answers (fresh_record given 4) calls ≡ expected
unfolding fresh_record numbered data_in_ok data_in_header after_data_in data_in_step r2t_ok r2t_header after_r2t r2t_step data_out_ok after_data_out
    data_out_step
    unacknowledged all_unacknowledged run_from data_run acknowledged_to data_acknowledged restarted_at data_restarted snack_ok data_snack_by data_snack_step
worked = refl
