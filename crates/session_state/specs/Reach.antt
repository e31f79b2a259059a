-- The connection that a call names, as the code finds it.
use Rattle.std.specs.Prelude.{ℕ, ◌<◌, ◌≤◌, ◌≡◌, true, false, Result, Ok, Err}
use Rattle.refusal.specs.declared.Refusal.{Refusal}
use Rattle.refusal.specs.declared.Refusal.TheVariants as F
use Rattle.ledger.specs.declared.Ledger.{Ledger}
use Rattle.book.specs.Book.{connections}
use Rattle.session_state.specs.declared.Conn.{Conn}
use Rattle.session_state.specs.declared.Session.{Session}
use Rattle.session_state.specs.After.{conn_at}

pub record IsOpen (s : Session) (c : ℕ) (l : Ledger) : Type 0 where
  pub near : c < connections
  pub ledger : l ≡ (conn_at s c).ledger
  pub is_open : (conn_at s c).is_open ≡ true

-- an open connection has its ledger; else it is closed
abbrev pub ReachesAt : Conn → Result Ledger Refusal → Type 0
ReachesAt k (Ok l) = (l ≡ k.ledger) × (k.is_open ≡ true)
ReachesAt k (Err f) = (f ≡ F.Closed) × (k.is_open ≡ false)

-- why a number reaches no ledger: there is no connection of it, or the connection isn't open
abbrev pub Unreached : Session → ℕ → Refusal → Type 0
Unreached s c F.NoConn = connections ≤ c
Unreached s c F.Closed = (c < connections) × ((conn_at s c).is_open ≡ false)
Unreached s c f = ⊥

abbrev pub Reaches : Session → ℕ → Result Ledger Refusal → Type 0
Reaches s c (Ok l) = IsOpen s c l
Reaches s c (Err f) = Unreached s c f
