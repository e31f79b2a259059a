-- A session is what its words say: the words that `store` writes load the same one.
use mathlib.Core.Path.{◌≡◌, ap, ◌∙◌}
use mathlib.Core.List.{List, [], ◌∷◌}
use Prim.Native.Nat.{ℕ}
use lib.ListN.{length, get_or}
use Rattle.words.specs.Words.{flag_word}
use Rattle.words.proofs.Flags.{flag-back}
use Rattle.place_map.proofs.Bits.{four}
use Rattle.session_state.specs.declared.Conn.{Conn}
use Rattle.session_state.specs.declared.Session.{Session}
use Rattle.session_state.specs.After.{no_conn, conn_at}
use Rattle.session_words.specs.State.{conn_of_words, session_of, window_maps, session_numbers}

abbrev at : Session → ℕ → Conn
at s c = get_or s.conns c no_conn

abbrev made : Session → List ℕ → List Conn → Session
made s o c = record {
  level = s.level;
  window = record {
    next = s.window.next;
    handed = s.window.handed;
    held = s.window.held;
    voided = s.window.voided;
    origins = o;
  };
  conns = c;
}

pub kept : (s : Session) → length s.window.origins ≡ 4 → length s.conns ≡ 4 → session_of (session_numbers s) (window_maps s.window) ≡ s
unfolding session_of session_numbers conn_at
kept s ho hc =
    let o = get_or s.window.origins 0 0 ∷ get_or s.window.origins 1 0 ∷ get_or s.window.origins 2 0 ∷ get_or s.window.origins 3 0 ∷ [] in
    let e : (conn_of_words (flag_word (at s 0).is_open) (at s 0).ledger.next (at s 0).ledger.held
    ∷ conn_of_words (flag_word (at s 1).is_open) (at s 1).ledger.next (at s 1).ledger.held
    ∷ conn_of_words (flag_word (at s 2).is_open) (at s 2).ledger.next (at s 2).ledger.held
    ∷ conn_of_words (flag_word (at s 3).is_open) (at s 3).ledger.next (at s 3).ledger.held ∷ []) ≡ s.conns =
    rw (flag-back (at s 0).is_open, flag-back (at s 1).is_open, flag-back (at s 2).is_open, flag-back (at s 3).is_open) (four no_conn s.conns hc) in
    ap (λ (c : List Conn). made s o c) e ∙ ap (λ (x : List ℕ). made s x s.conns) (four 0 s.window.origins ho)
