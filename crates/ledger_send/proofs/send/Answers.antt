-- `ledger_send::send` meets its contract: one outcome of the book's for each way through the code.
use Prim.Native.Nat.{ℕ, ◌<◌, ◌≤◌}
use mathlib.Core.Path.{sym, ◌∙◌, subst}
use native.Mathlib.Omega.{arith}
use Rattle.std.proofs.lemmas.Result.{err_from_is_err_and}
use Rattle.ledger.proofs.Laws.{sending-refused, sending-undue, sending-unstored, sending-full, sending-stored, sends-refused, sends-unstored, sends-stored}
use Rattle.response_layout.specs.WholeNumbers.{own_bytes}
use Rattle.response_header.specs.declared.Numbers.{Numbers}
use Rattle.response_layout.proofs.Laid.{length-own, front}
use Rattle.refusal.specs.declared.Refusal.TheVariants as F
use Rattle.ledger_send.proofs.send.Goals as goal

pub returns-in_err-judge : goal.returns-in_err-judge
returns-in_err-judge c =
    let p = err_from_is_err_and c.from_residual.result c.from_residual.ensures.1 in
    rw (p.1, p.2)
    (sends-refused _ _ _ _ _ _ _ _ _ _ _ (λ b g. sending-refused b _ _ _ _ c.in_err-judge.ensures))

pub returns-then-not-due : goal.returns-then-not-due
returns-then-not-due c =
    sends-refused _ _ _ _ _ _ _ _ _ _ F.Field (λ b g. sending-undue b _ _ _ c.in_ok-judge.ensures c.if-not-due.true)

pub returns-then-not-is_status : goal.returns-then-not-is_status
returns-then-not-is_status c =
    let a = c.args in
    let o = c.own_fields-o in
    let n : Numbers = record { stat_sn = a.l.next; exp_cmd_sn = a.exp_cmd_sn; max_cmd_sn = a.max_cmd_sn } in
    let h = own_bytes o.result n in
    let size = length-own o.result n in
    let no = sym c.is_status.ensures ∙ c.if-not-is_status.true in
    rw (c.place.ensures ∙ front a.out.now h size)
    (sends-unstored _ _ _ _ _ _ _ _ _ _ h (sym (o.ensures n)) size (omega arith) no (λ b g.
    sending-unstored b _ _ _ c.in_ok-judge.ensures c.if-not-due.false no))

pub returns-then-l-ge-STATUSES : goal.returns-then-l-ge-STATUSES
returns-then-l-ge-STATUSES c =
    let yes = sym c.is_status.ensures ∙ c.if-not-is_status.false in
    sends-refused _ _ _ _ _ _ _ _ _ _ F.Full (λ b g.
    sending-full b _ _ _ c.in_ok-judge.ensures c.if-not-due.false yes (subst (λ (n : ℕ). 32 ≤ n) g.held c.if-l-ge-STATUSES.true))

pub returns : goal.returns
returns c =
    let o = c.own_fields-o in
    let a = c.args in
    let n : Numbers = record { stat_sn = a.l.next; exp_cmd_sn = a.exp_cmd_sn; max_cmd_sn = a.max_cmd_sn } in
    let h = own_bytes o.result n in
    let size = length-own o.result n in
    let yes = sym c.is_status.ensures ∙ c.if-not-is_status.false in
    rw (c.place-2.ensures ∙ front a.out.now h size)
    (sends-stored _ _ _ _ _ _ _ _ _ _ h (sym (o.ensures n)) size (omega arith) _ _ yes c.keep-ledger.ensures (λ b g.
    sending-stored b _ _ _ c.in_ok-judge.ensures c.if-not-due.false yes (subst (λ (k : ℕ). k < 32) g.held c.if-l-ge-STATUSES.false)))
