-- The steps of the code against the book's: a law for each guard and each outcome of the book's step, and for each change of
-- the code's state that agreement survives.
use Prim.Native.Nat.{ℕ, ◌≤◌, ◌<◌}
use mathlib.Core.Path.{◌≡◌, refl, sym, ap, ap₂, ◌∙◌, subst}
use mathlib.Core.Bool.{true, false}
use mathlib.Core.List.{List}
use native.Mathlib.Omega.{arith}
use native.Mathlib.Decide.{ℕ_discrete}
use borrow.Author.Tests.{lt-ltb, le-ltb}
use lib.ListN.{length, get_or, set, drop, length-set}
use lib.Seq.{get_or-set_same, get_or-set_other}
use Rattle.refusal.specs.declared.Refusal.{Refusal}
use Rattle.refusal.specs.declared.Refusal.TheVariants as F
use Rattle.refusal.specs.Refusal.{number}
use Rattle.window.specs.Book as W
use Rattle.window.specs.Agree as WA
use Rattle.ledger.specs.Book as L
use Rattle.ledger.specs.Agree as LA
use Rattle.ledger.specs.Agree.{Statuses}
use Rattle.ledger.specs.declared.Ledger.{Ledger}
use Rattle.book.specs.Book.{OpenConnection, with_ledger, Connection, closed, live, Book, Outputs, outputs, lent, Call, Answer, refused, from_window, Step, step, conn_of, with_window, with_conn, by_window, on_open, on_connection, lending, choice_of, book_step}
use Rattle.session_state.specs.declared.Conn.{Conn}
use Rattle.session_state.specs.declared.Session.{Session}
use Rattle.session_state.specs.After.{no_conn, conn_at, after_window, after_conn, after_ledger}
use Rattle.session_state.specs.Reach.{IsOpen, Unreached}
use Rattle.session_state.specs.Agree.{State, state, OpenAgrees, ConnAgrees, Agrees, MeetsAt, Changes, Stays, KeepsLent, Did}

-- ---- from the book's step, known whole

pub met : (call : Call) (s : State) (a : Answer) (o : Outputs) (s' : State) (b b' : Book) → book_step b call (choice_of a) ≡ step a o b' → Agrees s' b' → MeetsAt call s a o s' b
met call s a o s' b b' e g = record {
  answer = sym (ap (λ (x : Step). x.answer) e);
  out = sym (ap (λ (x : Step). x.out) e);
  agrees = subst (λ (x : Step). Agrees s' x.book) (sym e) g;
}

-- an output that is as it was lent
pub as_lent : {l o : Outputs} → o ≡ l → KeepsLent l o
as_lent q = record { size = ap (λ (x : Outputs). length x.header) q; rest = ap (λ (x : Outputs). drop 48 x.header) q }

-- a refusal
pub refusing : (call : Call) (s : State) (n : ℕ) (o : Outputs) → o ≡ lent call → ((b : Book) → Agrees s b → book_step b call (choice_of (refused n)) ≡ step (refused n) o b) → Did call s (refused n) o s
refusing call s n o q f = record { meets = λ b g. met call s (refused n) o s b b (f b g) g; stays = (refl, q); keeps = as_lent q }

-- ---- the lent outputs

pub lend-short : (b : Book) (o : Outputs) (s : Step) → length o.header < 48 → lending b o s ≡ step (refused 1) o b
unfolding lending
lend-short b o s l = rw (lt-ltb (length o.header) 48 l)

pub lend-long : (b : Book) (o : Outputs) (s : Step) → 48 ≤ length o.header → lending b o s ≡ s
unfolding lending
lend-long b o s l = rw (le-ltb (length o.header) 48 l)

-- ---- the connection

pub reach-none : (b : Book) (c : ℕ) (o : Outputs) (k : OpenConnection → Step) → 4 ≤ c → on_connection b c o k ≡ step (refused 7) o b
unfolding on_connection
reach-none b c o k l = rw (le-ltb c 4 l)

conn-closed : (c : ℕ) (x : Conn) (ss : Statuses) (k : Connection) → ConnAgrees c x ss k → x.is_open ≡ false → k ≡ closed
unfolding ConnAgrees
conn-closed c x ss closed h e = refl
conn-closed c x ss (live k) h e = absurd (cc (h.is_open, e))

pub is-closed : (s : State) (b : Book) → Agrees s b → (c : ℕ) → c < 4 → (conn_at s.session c).is_open ≡ false → conn_of b c ≡ closed
unfolding conn_of
is-closed s b g c l e = conn-closed c (conn_at s.session c) s.statuses (get_or b.conns c closed) (g.conns c l) e

pub reach-closed : (s : State) (b : Book) (c : ℕ) (o : Outputs) (k : OpenConnection → Step) → Agrees s b → c < 4
    → (conn_at s.session c).is_open ≡ false → on_connection b c o k ≡ step (refused 8) o b
unfolding on_connection on_open
reach-closed s b c o k g l e = rw (lt-ltb c 4 l, is-closed s b g c l e)

-- a number that reaches no ledger is refused so
pub reach-refused : (s : State) (b : Book) (c : ℕ) (o : Outputs) (k : OpenConnection → Step) (f : Refusal) → Agrees s b → Unreached s.session c f
    → on_connection b c o k ≡ step (refused (number f)) o b
reach-refused s b c o k F.NoConn g h = reach-none b c o k h
reach-refused s b c o k F.Closed g h = reach-closed s b c o k g h.0 h.1
reach-refused s b c o k f g h = absurd h

-- an open connection, on paper
pub record OpenAt (ss : Statuses) (b : Book) (c : ℕ) (l : Ledger) : Type 0 where
  pub book : OpenConnection
  pub is : conn_of b c ≡ live book
  pub agrees : OpenAgrees c (record { is_open = true; ledger = l }) ss book
  pub near : c < 4

pub open_at : (s : State) (b : Book) (c : ℕ) (l : Ledger) → Agrees s b → IsOpen s.session c l → OpenAt s.statuses b c l
unfolding conn_of ConnAgrees
open_at s b c l g i = go (get_or b.conns c closed) refl (g.conns c i.near)
  where
    go : (k : Connection) → get_or b.conns c closed ≡ k → ConnAgrees c (conn_at s.session c) s.statuses (get_or b.conns c closed) → OpenAt s.statuses b c l
    go closed q n = absurd (cc (i.is_open, subst (ConnAgrees c (conn_at s.session c) s.statuses) q n))
    go (live x) q n =
        let a = subst (ConnAgrees c (conn_at s.session c) s.statuses) q n in
        record {
          book = x;
          is = q;
          agrees = record { is_open = refl; limits = a.limits; longest = a.longest; ledger = rw i.ledger a.ledger };
          near = i.near;
        }

pub reach-open : (b : Book) (c : ℕ) (o : Outputs) (k : OpenConnection → Step) (q : OpenConnection) → c < 4 → conn_of b c ≡ live q → on_connection b c o k ≡ k q
unfolding on_connection on_open
reach-open b c o k q l e = rw (lt-ltb c 4 l, e)

-- ---- steps of the window

-- the session with the window's part changed
abbrev pub embed : Session → Statuses → WA.State → State
embed s ss x = state (after_window s x.window) x.commands ss

pub window-agrees : (s : Session) (ss : Statuses) (b : Book) (x x' : WA.State) (w : W.Book) → Agrees (embed s ss x) b → WA.Agrees x' w
    → Agrees (embed s ss x') (with_window b w)
unfolding with_window conn_at
window-agrees s ss b x x' w g a = record {
  level = g.level;
  window = a;
  book_size = g.book_size;
  conns_size = g.conns_size;
  statuses_size = g.statuses_size;
  tickets_size = g.tickets_size;
  conns = g.conns;
}

pub stays-window : (call : Call) (wcall : W.Call) (s : Session) (ss : Statuses) (a : W.Answer) (x x' : WA.State) (l o : List ℕ)
    → (WA.Keeps wcall x x' → Changes call 0 (outputs o) (embed s ss x) (embed s ss x')) → WA.Stays wcall a x x' l o
    → Stays call (from_window a) (embed s ss x) (embed s ss x') (outputs l) (outputs o)
stays-window call wcall s ss W.kept x x' l o k e = k e
stays-window call wcall s ss W.duplicate x x' l o k e = ap (embed s ss) e
stays-window call wcall s ss W.passed x x' l o k e = ap (embed s ss) e
stays-window call wcall s ss W.beyond x x' l o k e = ap (embed s ss) e
stays-window call wcall s ss W.nothing x x' l o k e = (ap (embed s ss) e.0, ap outputs e.1)
stays-window call wcall s ss (W.command n t w) x x' l o k e = tt
stays-window call wcall s ss (W.void n) x x' l o k e = ap outputs e
stays-window call wcall s ss (W.logged_out n v) x x' l o k e = tt
stays-window call wcall s ss (W.refused n) x x' l o k e = (ap (embed s ss) e.0, ap outputs e.1)

-- a call that is a call of the window
pub by-window : (call : Call) (wcall : W.Call) (s : Session) (ss : Statuses) (x x' : WA.State) (a : W.Answer) (o : List ℕ) → outputs (WA.lent wcall) ≡ lent call
    → (WA.Keeps wcall x x' → Changes call 0 (outputs o) (embed s ss x) (embed s ss x'))
    → WA.Did wcall x a o x' → ((b : Book) → Agrees (embed s ss x) b → book_step b call (choice_of (from_window a)) ≡ by_window b (W.book_step b.window wcall))
    → Did call (embed s ss x) (from_window a) (outputs o) (embed s ss x')
unfolding by_window
by-window call wcall s ss x x' a o q k d f = record {
  meets = λ b g.
      let m = d.meets b.window g.window in
      met call (embed s ss x) (from_window a) (outputs o) (embed s ss x') b (with_window b (W.book_step b.window wcall).book)
      (f b g ∙ ap₂ (λ (y : W.Answer) (z : List ℕ). step (from_window y) (outputs z) (with_window b (W.book_step b.window wcall).book)) (sym m.answer) (sym m.bytes))
      (window-agrees s ss b x x' (W.book_step b.window wcall).book g m.agrees);
  stays = subst (λ (l : Outputs). Stays call (from_window a) (embed s ss x) (embed s ss x') l (outputs o)) q (stays-window call wcall s ss a x x' (WA.lent wcall) o k d.stays);
  keeps = subst (λ (l : Outputs). KeepsLent l (outputs o)) q (record { size = d.out_size; rest = d.out_rest });
}

-- ---- a connection changed

ledger-kept : (ss ss' : Statuses) (j : ℕ) (x : Conn) (k : Connection) → ((q : L.LedgerBook) → LA.Agrees j x.ledger ss q → LA.Agrees j x.ledger ss' q) → ConnAgrees j x ss k → ConnAgrees j x ss' k
unfolding ConnAgrees
ledger-kept ss ss' j x closed f h = h
ledger-kept ss ss' j x (live k) f h = record { is_open = h.is_open; limits = h.limits; longest = h.longest; ledger = f k.ledger h.ledger }

pub conn-set : (s : State) (ss' : Statuses) (b : Book) (c : ℕ) (x : Conn) (k : Connection) → Agrees s b → c < 4 → ConnAgrees c x ss' k
    → ((j : ℕ) (l : Ledger) (q : L.LedgerBook) → (j ≡ c → ⊥) → LA.Agrees j l s.statuses q → LA.Agrees j l ss' q) → length ss'.headers ≡ 6144 → length ss'.tickets ≡ 128
    → Agrees (state (after_conn s.session c x) s.commands ss') (with_conn b c k)
unfolding after_conn with_conn conn_at
conn-set s ss' b c x k g l n f r d = rw (lt-ltb c 4 l) (record {
  level = g.level;
  window = g.window;
  book_size = length-set b.conns c k ∙ g.book_size;
  conns_size = length-set s.session.conns c x ∙ g.conns_size;
  statuses_size = r;
  tickets_size = d;
  conns = λ j lj. go j lj (ℕ_discrete j c);
})
  where
    go : (j : ℕ) → j < 4 → Dec (j ≡ c) → ConnAgrees j (get_or (set s.session.conns c x) j no_conn) ss' (get_or (set b.conns c k) j closed)
    go j lj (yes q) =
        rw (q, get_or-set_same s.session.conns c x no_conn (omega (arith, g.conns_size)), get_or-set_same b.conns c k closed (omega (arith, g.book_size))) n
    go j lj (no q) =
        rw (get_or-set_other s.session.conns c j x no_conn q, get_or-set_other b.conns c j k closed q)
        (ledger-kept s.statuses ss' j (get_or s.session.conns j no_conn) (get_or b.conns j closed) (λ y. f j (get_or s.session.conns j no_conn).ledger y q) (g.conns j lj))

-- an open connection whose ledger is new
pub ledger-set : (s : State) (ss' : Statuses) (b : Book) (c : ℕ) (l l' : Ledger) (q : L.LedgerBook) → Agrees s b → IsOpen s.session c l → (v : OpenAt s.statuses b c l)
    → LA.Agrees c l' ss' q → ((j : ℕ) (m : Ledger) (y : L.LedgerBook) → (j ≡ c → ⊥) → LA.Agrees j m s.statuses y → LA.Agrees j m ss' y)
    → length ss'.headers ≡ 6144 → length ss'.tickets ≡ 128
    → Agrees (state (after_ledger s.session c l') s.commands ss') (with_conn b c (live (with_ledger v.book q)))
unfolding ConnAgrees
ledger-set s ss' b c l l' q g i v a f r d =
    conn-set s ss' b c (record { is_open = (conn_at s.session c).is_open; ledger = l' }) (live (with_ledger v.book q)) g v.near
    (record { is_open = i.is_open; limits = v.agrees.limits; longest = v.agrees.longest; ledger = a }) f r d
