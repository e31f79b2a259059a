-- `session_data_out::data_out_refusal` meets its contract: the outcomes of the connection, and on an open one what reading says.
use mathlib.Core.Path.{refl, sym, ◌∙◌}
use Rattle.refusal.specs.Refusal.{number}
use Rattle.book.specs.Book.{no_outputs}
use Rattle.session_state.specs.Agree.{state}
use Rattle.session_state.proofs.Steps.{refusing, reach-refused, open_at, reach-open}
use Rattle.session_state.proofs.Transfers.{as-transferred}
use Rattle.session_data_out.specs.Reading.{data_out_judged}
use Rattle.session_data_out.proofs.Outcomes.{number-not-0, data-out-refused, data-out-eq, data-out-live}
use Rattle.session_data_out.proofs.data_out_refusal.Goals as goal

pub returns-in-Err : goal.returns-in-Err
returns-in-Err c =
    let a = c.args in
    let f = c.in-Err.f in
    rw c.number_of.ensures (record {
      long = λ n. absurd (number-not-0 f n);
      did = λ x k ss. rw (data-out-refused x a.pdu.now (number f) (number-not-0 f)) (refusing _ _ _ no_outputs refl (λ b g.
          data-out-eq b _ _ _ _ ∙ reach-refused (state a.s k ss) b a.conn no_outputs _ _ g c.in-Err.ensures));
    })

pub returns-in-Ok : goal.returns-in-Ok
returns-in-Ok c =
    let a = c.args in
    record {
      long = c.read_refusal.ensures.0;
      did = λ x k ss. as-transferred _ _ (data_out_judged x a.pdu.now c.read_refusal.result) no_outputs refl (λ b g.
          let v = open_at (state a.s k ss) b a.conn _ g c.in-Ok.ensures in
          data-out-eq b _ _ _ _ ∙ reach-open b a.conn no_outputs _ v.book v.near v.is
          ∙ data-out-live b v.book _ (v.agrees.limits ∙ sym c.limits_of-limits.ensures) x a.pdu.now c.read_refusal.result (c.read_refusal.ensures.1 x));
    }
