-- The book's step at an opening and at a logout, by its outcome; and the connections that a logout leaves.
use Prim.Native.Nat.{ℕ, zero, suc, ◌≤◌, ◌<◌}
use mathlib.Core.Path.{◌≡◌, refl, ap, ◌∙◌}
use mathlib.Core.Bool.{false}
use mathlib.Core.List.{List}
use native.Mathlib.Omega.{arith}
use native.Mathlib.Decide.{ℕ_discrete}
use borrow.Author.Tests.{lt-ltb, le-leb, eq-eqb, ne_eqb}
use lib.ListN.{length, get_or, length-set}
use lib.Seq.{get_or-set_same, get_or-set_other}
use Rattle.window.specs.Book as W
use Rattle.window.specs.Agree as WA
use Rattle.window.specs.declared.Window.{Window}
use Rattle.book.specs.declared.Opening.{Opening}
use Rattle.book.specs.Book.{opened_by, closed, live, Book, no_outputs, logout, opening, Choice, opened, step, conn_of, with_conn, on_connection, conns_left, logged_out, logout_by, open_at, book_step}
use Rattle.window.proofs.Bits.{alike}
use Rattle.session_state.specs.declared.Conn.{Conn}
use Rattle.session_state.specs.After.{no_conn, conn_at, after_window, after_conns}
use Rattle.session_state.specs.Agree.{State, state, ConnAgrees, Agrees}
use Rattle.session_connections.specs.declared.Closes.{Closes}
use Rattle.session_connections.specs.declared.Closes.TheVariants as C
use Rattle.session_connections.specs.After.{Closing, shut, all_shut, one_shut, closing, LeavesConns}

-- ---- an opening

module _ (b : Book) (c : ℕ) (g : Opening) (x : Choice) where
  pub open-closed : c < 4 → conn_of b c ≡ closed → book_step b (opening c g) x ≡ step opened no_outputs (with_conn b c (live (opened_by g)))
  unfolding book_step open_at
  open-closed l e = rw (lt-ltb c 4 l, e)

-- ---- a logout

pub logout-eq : (b : Book) (c r : ℕ) (x : Choice) → book_step b (logout c r) x ≡ on_connection b c no_outputs (λ k. logout_by b c r)
unfolding book_step
logout-eq b c r x = refl

pub logout-done : (b : Book) (c r : ℕ) → r ≤ 2 → logout_by b c r ≡ logged_out b c r (W.book_step b.window (W.logout c r))
unfolding logout_by
logout-done b c r l = rw (le-leb r 2 l)

shut-each : (k : List Conn) (j : ℕ) → (get_or (all_shut k) j no_conn).is_open ≡ false
unfolding all_shut
shut-each k zero = refl
shut-each k (suc zero) = refl
shut-each k (suc (suc zero)) = refl
shut-each k (suc (suc (suc zero))) = refl
shut-each k (suc (suc (suc (suc j)))) = refl

-- what the code closes is what the logout leaves closed
pub closing-leaves : (k : List Conn) (c r : ℕ) (x : Closes) → c < 4 → length k ≡ 4 → Closing r x → LeavesConns k c r (closing x c k)
unfolding one_shut
closing-leaves k c r C.Session l n z = record {
  size = λ e. unfold all_shut in refl;
  every = λ y j lj. shut-each k j;
  own = shut-each k c;
  others = λ y. absurd (y z);
}
closing-leaves k c r C.Connection l n z = rw (lt-ltb c 4 l) (record {
  size = λ e. length-set k c (shut (get_or k c no_conn)) ∙ e;
  every = λ y. absurd (z y);
  own = ap (λ (m : Conn). m.is_open) (get_or-set_same k c (shut (get_or k c no_conn)) no_conn (omega arith));
  others = λ y j q. get_or-set_other k c j (shut (get_or k c no_conn)) no_conn q;
})

pub left-agrees : (s : State) (b : Book) (c r : ℕ) (k : List Conn) (w : Window) (v : W.Book) → Agrees s b → c < 4
    → LeavesConns s.session.conns c r k → WA.Agrees (WA.state w s.commands) v
    → Agrees (state (after_conns (after_window s.session w) k) s.commands s.statuses) (record { given = b.given; window = v; conns = conns_left b.conns c r })
unfolding conns_left conn_at ConnAgrees
left-agrees s b c r k w v g l o a = record {
  level = g.level;
  window = a;
  book_size = size (ℕ_discrete r 0);
  conns_size = o.size g.conns_size;
  statuses_size = g.statuses_size;
  tickets_size = g.tickets_size;
  conns = λ j lj. go j lj (ℕ_discrete r 0) (ℕ_discrete j c);
}
  where
    size : Dec (r ≡ 0) → length (conns_left b.conns c r) ≡ 4
    size (yes z) = rw (eq-eqb r 0 z)
    size (no z) = rw (ne_eqb r 0 z) (length-set b.conns c closed ∙ g.book_size)

    go : (j : ℕ) → j < 4 → Dec (r ≡ 0) → Dec (j ≡ c) → ConnAgrees j (get_or k j no_conn) s.statuses (get_or (conns_left b.conns c r) j closed)
    go j lj (yes z) d = rw (eq-eqb r 0 z, alike closed 4 j) (o.every z j lj)
    go j lj (no z) (yes q) = rw (ne_eqb r 0 z, q, get_or-set_same b.conns c closed closed (omega (arith, g.book_size))) o.own
    go j lj (no z) (no q) = rw (ne_eqb r 0 z, get_or-set_other b.conns c j closed closed q, o.others z j q) (g.conns j lj)
