-- The code's login and answer after a request, and its checks as one test, for its contracts. This follows the code; the rules are in
-- login_book's Login.
use Rattle.std.specs.Prelude.{ℕ, ◌+◌, Bool, true, false, not, ◌&&◌, ◌||◌, eqb, ltb, ◌≡◌, ◌≤◌, Result, Ok, Err}
use Rattle.text.specs.Text.{pick}
use Rattle.refusal.specs.declared.Refusal.TheVariants as F
use Rattle.request_header.specs.declared.Login.{Login}
use Rattle.key_table.specs.declared.parameters.Settled.{Settled}
use Rattle.login_book.specs.Book.{in_stage, permitted, begun}
use Rattle.login_book.specs.Login.{differs, handle, stage_after}
use Rattle.login_types.specs.Agree.{ended_state}
use Rattle.login_types.specs.declared.state.State.{State}
use Rattle.login_types.specs.declared.state.Step.{Step}

abbrev pub end_step : State → ℕ → Step
end_step l s = record { state = ended_state l; answer = Err (F.Login s) }

-- after a judged block no bytes count as gathered
abbrev pub accept_step : Login → ℕ → Settled → ℕ → Step
accept_step q new s n = record {
  state = record { over = q.transit && eqb q.nsg 3; begun = true; judged = true; stage = stage_after q; isid = q.isid; tsih = q.tsih; cid = q.cid; gathered = 0; settled = s };
  answer = Ok (record { stage = stage_after q; transit = q.transit; csg = q.csg; nsg = pick q.transit q.nsg 0; tsih = handle q new; length = n });
}

abbrev pub gathered_step : State → Login → ℕ → Step
gathered_step l q n = record {
  state = record { over = false; begun = true; judged = l.judged; stage = q.csg; isid = q.isid; tsih = q.tsih; cid = q.cid; gathered = n; settled = l.settled };
  answer = Ok (record { stage = q.csg; transit = false; csg = q.csg; nsg = 0; tsih = q.tsih; length = 0 });
}

-- the login after a judged block, and the answer
abbrev pub finish_step : State → Login → ℕ → Settled → Result ℕ ℕ → Step
finish_step l q new s (Err status) = end_step l status
finish_step l q new s (Ok n) = accept_step q new s n

-- the code's answer on the checks, where this is the status of the first that is broken, or 0 for none
abbrev pub Checked : ℕ → Result (Unit {0}) ℕ → Type 0
Checked status (Ok x) = status ≡ 0
Checked status (Err s) = (status ≡ s) × (1 ≤ s)

-- one of the rules is broken whose status is 0x0200
abbrev pub later_broken : State → Login → ℕ → Bool
later_broken l q n =
    (((((l.begun && differs (begun l.stage l.isid l.tsih l.cid) q) || (q.continues && q.transit)) || (l.begun && not (eqb q.csg l.stage))) || (not l.begun && not (eqb q.csg 0 || eqb q.csg 1))) || (q.transit && not (permitted (in_stage q.csg) q.nsg)))
    || ltb 8192 (l.gathered + n)
