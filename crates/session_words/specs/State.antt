-- A session between calls: 15 numbers of 32 bits and 6 maps of 64 bits.
use Rattle.std.specs.Prelude.{ℕ, List, [], ◌∷◌, get_or}
use Rattle.words.specs.Words.{word, is_set, flag_word}
use Rattle.window.specs.declared.Window.{Window}
use Rattle.session_state.specs.declared.Conn.{Conn}
use Rattle.session_state.specs.declared.Session.{Session}
use Rattle.session_state.specs.After.{conn_at}

-- ---- what the words are

-- three numbers: whether it is open, its next StatSN and its count
abbrev pub conn_of_words : ℕ → ℕ → ℕ → Conn
conn_of_words o n h = record { is_open = is_set o; ledger = record { next = n; held = h } }

-- the numbers: level, R, the count of hand-outs, and each connection's; the maps: held, void, and one for each origin
unfoldable pub session_of : List ℕ → List ℕ → Session
session_of n m = record {
  level = word n 0;
  window = record {
    next = word n 1;
    handed = word n 2;
    held = word m 0;
    voided = word m 1;
    origins = word m 2 ∷ word m 3 ∷ word m 4 ∷ word m 5 ∷ [];
  };
  conns =
      conn_of_words (word n 3) (word n 4) (word n 5)
      ∷ conn_of_words (word n 6) (word n 7) (word n 8)
      ∷ conn_of_words (word n 9) (word n 10) (word n 11)
      ∷ conn_of_words (word n 12) (word n 13) (word n 14)
      ∷ [];
}

-- ---- what is written

-- of a window, all maps
abbrev pub window_maps : Window → List ℕ
window_maps w = w.held ∷ w.voided ∷ get_or w.origins 0 0 ∷ get_or w.origins 1 0 ∷ get_or w.origins 2 0 ∷ get_or w.origins 3 0 ∷ []

-- all of a session
unfoldable pub session_numbers : Session → List ℕ
session_numbers s =
    s.level ∷ s.window.next ∷ s.window.handed
    ∷ flag_word (conn_at s 0).is_open ∷ (conn_at s 0).ledger.next ∷ (conn_at s 0).ledger.held
    ∷ flag_word (conn_at s 1).is_open ∷ (conn_at s 1).ledger.next ∷ (conn_at s 1).ledger.held
    ∷ flag_word (conn_at s 2).is_open ∷ (conn_at s 2).ledger.next ∷ (conn_at s 2).ledger.held
    ∷ flag_word (conn_at s 3).is_open ∷ (conn_at s 3).ledger.next ∷ (conn_at s 3).ledger.held ∷ []
