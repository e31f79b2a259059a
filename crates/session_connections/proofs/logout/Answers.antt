-- `session_connections::logout` meets its contract: the window's step, and the connections that are left.
use mathlib.Core.Path.{refl, sym, ap, ◌∙◌}
use Rattle.window.specs.Book as W
use Rattle.book.specs.Book.{no_outputs, from_window, step, conns_left, logged_out}
use Rattle.session_state.proofs.Steps.{met, as_lent, open_at, reach-open}
use Rattle.session_connections.proofs.Outcomes.{logout-eq, closing-leaves, left-agrees, logout-done}
use Rattle.session_connections.proofs.logout.Goals as goal

pub returns : goal.returns
unfolding logged_out
returns c k ss =
    let a = c.args in
    let w = c.logout-step.ensures k in
    record {
      meets = λ b g.
          let v = open_at _ b a.conn _ g c.in_ok-reach.ensures in
          let m = w.meets b.window g.window in
          met _ _ _ _ _ b _
          (logout-eq b a.conn a.reason _ ∙ reach-open b a.conn no_outputs _ v.book v.near v.is ∙ logout-done b a.conn a.reason c.if-reason-gt-RECOVERY.false
          ∙ ap (λ (y : W.Answer). step (from_window y) no_outputs (record {
            given = b.given;
            window = (W.book_step b.window (W.logout a.conn a.reason)).book;
            conns = conns_left b.conns a.conn a.reason;
          })) (sym m.answer))
          (left-agrees _ b a.conn a.reason _ _ _ g v.near
          (closing-leaves a.s.conns a.conn a.reason c.closed_by.result v.near g.conns_size c.closed_by.ensures) m.agrees);
      stays = tt;
      keeps = as_lent refl;
    }
