-- The session after an opening and after a logout.
use Rattle.std.specs.Prelude.{ℕ, ◌<◌, ◌≡◌, false, List, [], ◌∷◌, Result, Ok, Err, ltb, length, get_or, set}
use Rattle.field.specs.Field.{pick}
use Rattle.refusal.specs.declared.Refusal.{Refusal}
use Rattle.book.specs.Book.{connections}
use Rattle.session_state.specs.declared.Conn.{Conn}
use Rattle.session_state.specs.declared.Session.{Session}
use Rattle.session_state.specs.After.{no_conn, after_window, after_conns, after_conn}
use Rattle.session_connections.specs.declared.Closes.{Closes}
use Rattle.session_connections.specs.declared.Closes.TheVariants as C
use Rattle.session_connections.specs.declared.LoggedOut.{LoggedOut}

abbrev pub after_open : Session → ℕ → Result Conn Refusal → Session
after_open s c (Err f) = s
after_open s c (Ok k) = after_conn s c k

-- A connection that is closed.
abbrev pub shut : Conn → Conn
shut k = record { is_open = false; ledger = k.ledger }

unfoldable pub all_shut : List Conn → List Conn
all_shut k = shut (get_or k 0 no_conn) ∷ shut (get_or k 1 no_conn) ∷ shut (get_or k 2 no_conn) ∷ shut (get_or k 3 no_conn) ∷ []

unfoldable pub one_shut : ℕ → List Conn → List Conn
one_shut c k = pick (ltb c connections) (set k c (shut (get_or k c no_conn))) k

abbrev pub closing : Closes → ℕ → List Conn → List Conn
closing C.Session c k = all_shut k
closing C.Connection c k = one_shut c k

abbrev pub after_logout : Session → ℕ → Result LoggedOut Refusal → Session
after_logout s c (Err f) = s
after_logout s c (Ok l) = after_conns (after_window s l.window) (closing l.closes c s.conns)

-- What a logout with reason r closes.
abbrev pub Closing : ℕ → Closes → Type 0
Closing r C.Session = r ≡ 0
Closing r C.Connection = r ≡ 0 → ⊥

-- The connections that a logout leaves: none open after reason 0, else all but c as they were.
pub record LeavesConns (k : List Conn) (c r : ℕ) (k' : List Conn) : Type 0 where
  pub size : length k ≡ connections → length k' ≡ connections
  pub every : r ≡ 0 → (j : ℕ) → j < connections → (get_or k' j no_conn).is_open ≡ false
  pub own : (get_or k' c no_conn).is_open ≡ false
  pub others : (r ≡ 0 → ⊥) → (j : ℕ) → (j ≡ c → ⊥) → get_or k' j no_conn ≡ get_or k j no_conn
