-- `session::fresh` meets its contract: the window's and the ledgers' fresh states together.
use Prim.Native.Nat.{ℕ, zero, suc, ◌<◌}
use mathlib.Core.Path.{◌≡◌, refl}
use mathlib.Core.Bool.{false}
use mathlib.Core.List.{[], ◌∷◌}
use native.Mathlib.Omega.{arith}
use borrow.Author.Rules.{rules}
use lib.ListN.{get_or}
use Rattle.ledger.specs.Agree.{Statuses}
use Rattle.book.specs.Book as B
use Rattle.book.specs.Book.{OpenConnection, opened_by, share, fresh_book}
use Rattle.session_state.specs.declared.Conn.{Conn}
use Rattle.session_state.specs.After.{no_conn, conn_at}
use Rattle.session_state.specs.Agree.{OpenAgrees, ConnAgrees}
use Rattle.session.proofs.fresh.Goals as goal

each : (x n : Conn) (k : OpenConnection) (ss : Statuses) → OpenAgrees 0 x ss k → n.is_open ≡ false → (c : ℕ) → c < 4
    → ConnAgrees c (get_or (x ∷ n ∷ n ∷ n ∷ []) c no_conn) ss (get_or (B.live k ∷ B.closed ∷ B.closed ∷ B.closed ∷ []) c B.closed)
unfolding ConnAgrees
each x n k ss a e zero h = a
each x n k ss a e (suc zero) h = e
each x n k ss a e (suc (suc zero)) h = e
each x n k ss a e (suc (suc (suc zero))) h = e
each x n k ss a e (suc (suc (suc (suc c)))) h = absurd (omega arith)

pub returns : goal.returns
unfolding fresh_book opened_by share conn_at ConnAgrees
returns c =
    let w = c.fresh in
    let o = c.opened in
    record {
      agrees = record {
        level = search rules;
        window = w.ensures.agrees;
        conns_size = refl;
        book_size = refl;
        statuses_size = search rules;
        tickets_size = search rules;
        conns = each _ _ _ _ (record {
          is_open = refl;
          limits = refl;
          longest = refl;
          ledger = o.ensures.agrees 0 _ (omega arith) (search rules)
              (search rules);
        }) refl;
      };
      zero_headers = w.ensures.zero_headers;
      zero_tickets = w.ensures.zero_tickets;
      zero_statuses = search rules;
      zero_status_tickets = search rules;
    }
