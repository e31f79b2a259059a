-- The session after a call: what its answer carries is new, the rest stays.
use Rattle.std.specs.Prelude.{ℕ, false, List, ltb, get_or, set}
use Rattle.field.specs.Field.{pick}
use Rattle.ledger.specs.declared.Ledger.{Ledger}
use Rattle.window.specs.declared.Window.{Window}
use Rattle.book.specs.Book.{connections}
use Rattle.session_state.specs.declared.Conn.{Conn}
use Rattle.session_state.specs.declared.Session.{Session}

-- The connection of a number.
abbrev pub no_conn : Conn
no_conn = record { is_open = false; ledger = record { next = 0; held = 0 } }

unfoldable pub conn_at : Session → ℕ → Conn
conn_at s c = get_or s.conns c no_conn

abbrev pub after_window : Session → Window → Session
after_window s w = record { level = s.level; window = w; conns = s.conns }

abbrev pub after_conns : Session → List Conn → Session
after_conns s k = record { level = s.level; window = s.window; conns = k }

-- Where there is no connection of that number, the session stays.
unfoldable pub after_conn : Session → ℕ → Conn → Session
after_conn s c k = pick (ltb c connections) (after_conns s (set s.conns c k)) s

-- Of a connection only its ledger is new.
abbrev pub after_ledger : Session → ℕ → Ledger → Session
after_ledger s c l = after_conn s c (record { is_open = (conn_at s c).is_open; ledger = l })
