-- `session_data_in::data_in` meets its contract: the header that is written is the book's.
use mathlib.Core.Path.{sym, ◌∙◌}
use Rattle.response_header.specs.declared.Response.TheVariants as R
use Rattle.book.specs.Book.{outputs}
use Rattle.session_state.specs.Agree.{state}
use Rattle.session_state.proofs.Steps.{lend-long, open_at, reach-open}
use Rattle.session_state.proofs.Transfers.{as_written}
use Rattle.session_data_in.proofs.Outcomes.{data-in-eq, data-in-sent}
use Rattle.session_data_in.proofs.data_in.Goals as goal

pub returns : goal.returns
returns c k ss ts es =
    let a = c.args in
    let o = outputs a.out.now in
    let short = rw c.longest_of.ensures at (sym c.too_long.ensures ∙ c.if-too_long.false) in
    let w = c.write_header.ensures (R.DataIn _) c.data_in-own.ensures in
    as_written _ _ _ _ _ w.keeps (λ b g.
    let v = open_at (state a.s k ss) b a.conn _ g c.in_ok-l.ensures in
    data-in-eq b _ _ _ _ _ _ _ ∙ lend-long b o _ c.if-out-lt-HEADER_BYTES.false ∙ reach-open b a.conn o _ v.book v.near v.is
    ∙ data-in-sent b o v.book a.length v.agrees.longest short _ _ _ _ _ (c.in_ok-sent.ensures ts es)
    v.agrees.ledger.next (w.header k b.window g.window))
