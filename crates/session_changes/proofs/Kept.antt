-- A session is what its words say: those that a call changes load the one that it says. What a call changes is seen where the words stand one by
-- one, as `spread` has them.
use mathlib.Core.Path.{◌≡◌, refl, ap, subst}
use mathlib.Core.Bool.{Bool}
use mathlib.Core.List.{List}
use Prim.Native.Nat.{ℕ, zero, suc, ◌+◌, ◌*◌, ◌≤◌, ◌<◌}
use native.Mathlib.Omega.{arith}
use borrow.Author.Tests.{le-ltb}
use lib.ListN.{length, set}
use Rattle.words.specs.Words.{is_set, flag_word}
use Rattle.words.proofs.Flags.{flag-back}
use Rattle.words.proofs.Spread.{words_of, spread}
use Rattle.ledger.specs.declared.Ledger.{Ledger}
use Rattle.window.specs.declared.Window.{Window}
use Rattle.place_map.proofs.Bits.{four}
use Rattle.session_state.specs.declared.Conn.{Conn}
use Rattle.session_state.specs.declared.Session.{Session}
use Rattle.session_state.specs.After.{conn_at, after_window, after_conns, after_conn, after_ledger}
use Rattle.session_connections.specs.declared.Closes.{Closes}
use Rattle.session_connections.specs.declared.Closes.TheVariants as C
use Rattle.session_connections.specs.After.{all_shut, one_shut, closing}
use Rattle.session_words.specs.State.{session_of, window_maps}
use Rattle.session_changes.specs.Changes.{conn_place, window_numbers}

-- where the words stand one by one
by_word : (P : List ℕ → Type 0) (n : List ℕ) → length n ≡ 15 → P (words_of 15 n) → P n
by_word P n hn x = subst P (spread 15 n hn) x

-- of each connection
each : (P : ℕ → Type 0) → P 0 → P 1 → P 2 → P 3 → (c : ℕ) → c < 4 → P c
each P p0 p1 p2 p3 zero h = p0
each P p0 p1 p2 p3 (suc zero) h = p1
each P p0 p1 p2 p3 (suc (suc zero)) h = p2
each P p0 p1 p2 p3 (suc (suc (suc zero))) h = p3
each P p0 p1 p2 p3 (suc (suc (suc (suc c)))) h = absurd (omega arith)

abbrev from : Window → List ℕ → Window
from w o = record { next = w.next; handed = w.handed; held = w.held; voided = w.voided; origins = o }

pub window_kept : (n m : List ℕ) (w : Window) → length n ≡ 15 → length w.origins ≡ 4
    → session_of (window_numbers w n) (window_maps w) ≡ after_window (session_of n m) w
unfolding session_of words_of
window_kept n m w hn ho =
    by_word (λ l. session_of (window_numbers w l) (window_maps w) ≡ after_window (session_of l m) w) n hn
    (ap (λ (o : List ℕ). after_window (session_of (words_of 15 n) m) (from w o)) (four 0 w.origins ho))

-- one connection's three numbers
abbrev put_conn : List ℕ → ℕ → ℕ → Ledger → List ℕ
put_conn n at o l = set (set (set n at o) (at + 1) l.next) (at + 2) l.held

abbrev opened : Conn → Bool → Conn
opened k b = record { is_open = b; ledger = k.ledger }

pub conn_kept : (c : ℕ) (n m : List ℕ) (k : Conn) → length n ≡ 15 → c < 4
    → session_of (put_conn n (3 + 3 * c) (flag_word k.is_open) k.ledger) m ≡ after_conn (session_of n m) c k
unfolding session_of after_conn words_of
conn_kept c n m k hn h =
    by_word (λ x. session_of (put_conn x (3 + 3 * c) (flag_word k.is_open) k.ledger) m ≡ after_conn (session_of x m) c k) n hn
    (each (λ j. session_of (put_conn (words_of 15 n) (3 + 3 * j) (flag_word k.is_open) k.ledger) m ≡ after_conn (session_of (words_of 15 n) m) j k)
    (back 0) (back 1) (back 2) (back 3) c h)
  where
    back : (j : ℕ) → after_conn (session_of (words_of 15 n) m) j (opened k (is_set (flag_word k.is_open))) ≡ after_conn (session_of (words_of 15 n) m) j k
    back j = ap (λ (b : Bool). after_conn (session_of (words_of 15 n) m) j (opened k b)) (flag-back k.is_open)

-- there is no fifth connection to change
pub conn_far : (c : ℕ) (s : Session) (k : Conn) → 4 ≤ c → s ≡ after_conn s c k
unfolding after_conn
conn_far c s k h = rw (le-ltb c 4 h)

-- of a connection only the ledger's two numbers
pub ledger_kept : (c : ℕ) (n m : List ℕ) (l : Ledger) → length n ≡ 15 → c < 4
    → session_of (set (set n (3 + 3 * c + 1) l.next) (3 + 3 * c + 2) l.held) m ≡ after_ledger (session_of n m) c l
unfolding session_of after_conn conn_at words_of
ledger_kept c n m l hn h =
    by_word (λ x. session_of (set (set x (3 + 3 * c + 1) l.next) (3 + 3 * c + 2) l.held) m ≡ after_ledger (session_of x m) c l) n hn
    (each (λ j. session_of (set (set (words_of 15 n) (3 + 3 * j + 1) l.next) (3 + 3 * j + 2) l.held) m ≡ after_ledger (session_of (words_of 15 n) m) j l)
    refl refl refl refl c h)

-- the connections below a number, closed
abbrev pub shut_below : ℕ → List ℕ → List ℕ
shut_below zero n = n
shut_below (suc c) n = set (shut_below c n) (conn_place c) 0

abbrev closed : Closes → ℕ → List ℕ → List ℕ → Session
closed k c n m = after_conns (session_of n m) (closing k c (session_of n m).conns)

pub all_closed : (c : ℕ) (n m : List ℕ) → length n ≡ 15 → session_of (shut_below 4 n) m ≡ closed C.Session c n m
unfolding session_of all_shut words_of
all_closed c n m hn = by_word (λ l. session_of (shut_below 4 l) m ≡ closed C.Session c l m) n hn refl

pub own_closed : (c : ℕ) (n m : List ℕ) → length n ≡ 15 → c < 4 → session_of (set n (3 + 3 * c) 0) m ≡ closed C.Connection c n m
unfolding session_of one_shut words_of
own_closed c n m hn h =
    by_word (λ l. session_of (set l (3 + 3 * c) 0) m ≡ closed C.Connection c l m) n hn
    (each (λ k. session_of (set (words_of 15 n) (3 + 3 * k) 0) m ≡ closed C.Connection k (words_of 15 n) m) refl refl refl refl c h)

pub none_closed : (c : ℕ) (s : Session) → 4 ≤ c → s ≡ after_conns s (closing C.Connection c s.conns)
unfolding one_shut
none_closed c s h = rw (le-ltb c 4 h)
