-- `session_connections::open_connection` meets its contract: an empty ledger stands for the fresh one of the book.
use mathlib.Core.Path.{refl}
use Rattle.book.specs.Book.{opened_by}
use Rattle.session_state.specs.Agree.{ConnAgrees}
use Rattle.session_state.proofs.Steps.{met, as_lent, is-closed, conn-set}
use Rattle.session_connections.proofs.Outcomes.{open-closed}
use Rattle.session_connections.proofs.open_connection.Goals as goal

pub returns-in-Closed : goal.returns-in-Closed
unfolding ConnAgrees opened_by
returns-in-Closed c k ss =
    let a = c.args in
    let n = rw c.in-Closed.is at c.in-Err.ensures in
    record {
      meets = λ b g.
          met _ _ _ _ _ b _ (open-closed b a.conn a.given _ n.0 (is-closed _ b g a.conn n.0 n.1))
          (conn-set _ ss b a.conn _ _ g n.0
          (record { is_open = refl; limits = refl; longest = refl; ledger = c.opened.ensures.agrees a.conn ss n.0 g.statuses_size g.tickets_size })
          (λ j l q n y. y) g.statuses_size g.tickets_size);
      stays = tt;
      keeps = as_lent refl;
    }
