-- Which numbers of a session between calls a call writes; every other number stays.
use Rattle.std.specs.Prelude.{ℕ, ◌+◌, ◌*◌, List, ltb, set}
use Rattle.field.specs.Field.{pick}
use Rattle.words.specs.Words.{flag_word}
use Rattle.ledger.specs.declared.Ledger.{Ledger}
use Rattle.window.specs.declared.Window.{Window}
use Rattle.book.specs.Book.{connections}
use Rattle.session_state.specs.declared.Conn.{Conn}
use Rattle.session_connections.specs.declared.Closes.{Closes}
use Rattle.session_connections.specs.declared.Closes.TheVariants as C

-- of a window: R and the count of hand-outs; its maps are written whole
abbrev pub window_numbers : Window → List ℕ → List ℕ
window_numbers w n = set (set n 1 w.next) 2 w.handed

-- where connection c has its three numbers
abbrev pub conn_place : ℕ → ℕ
conn_place c = 3 + 3 * c

-- of a connection's ledger, its two numbers; there is no fifth connection
unfoldable pub ledger_numbers : ℕ → Ledger → List ℕ → List ℕ
ledger_numbers c l n = pick (ltb c connections) (set (set n (conn_place c + 1) l.next) (conn_place c + 2) l.held) n

-- of a connection, its three
unfoldable pub conn_numbers : ℕ → Conn → List ℕ → List ℕ
conn_numbers c k n =
    pick (ltb c connections)
    (set (set (set n (conn_place c) (flag_word k.is_open)) (conn_place c + 1) k.ledger.next) (conn_place c + 2) k.ledger.held) n

-- of connections that are closed, the first
unfoldable pub shut_numbers : Closes → ℕ → List ℕ → List ℕ
shut_numbers C.Session c n = set (set (set (set n (conn_place 0) 0) (conn_place 1) 0) (conn_place 2) 0) (conn_place 3) 0
shut_numbers C.Connection c n = pick (ltb c connections) (set n (conn_place c) 0) n
