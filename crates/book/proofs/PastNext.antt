-- The book's next numbers against what a history says of them. The invariant: an open connection's next StatSN is the number that it was
-- given at its latest opening plus one for each status sent on it since. Of a closed connection nothing is asked.
use Prim.Native.Nat.{ℕ, zero, suc, ◌<◌}
use mathlib.Core.Path.{◌≡◌, refl, sym, ◌∙◌, subst}
use mathlib.Core.Bool.{Bool, true, false}
use mathlib.Core.List.{List, [], ◌∷◌}
use native.Mathlib.Omega.{arith}
use native.Mathlib.Decide.{ℕ_discrete}
use borrow.Author.Tests.{eq-eqb, ne_eqb}
use lib.Dec.{eqb}
use lib.ListN.{length, get_or, set, replicate}
use lib.Seq.{get_or-set_same, get_or-set_other}
use Rattle.field.specs.Field.{pick}
use Rattle.ledger.specs.Book as L
use Rattle.window.proofs.Bits.{alike}
use Rattle.book.specs.declared.Given.{Given}
use Rattle.book.specs.declared.Opening.{Opening}
use Rattle.book.specs.Book.{OpenConnection, with_ledger, opened_by, Connection, closed, live, conns_left}
use Rattle.book.specs.Effects.{ConnectionEffect, opens, closes, sends, acknowledges}
use Rattle.book.specs.Statuses.{first_stat_sn, statuses_sent, next_number}

unfoldable pub NextIs : Given → List ConnectionEffect → ℕ → Connection → Type 0
NextIs g ds c closed = Unit {0}
NextIs g ds c (live k) = k.ledger.next ≡ next_number g ds c

pub record NextInv (g : Given) (ds : List ConnectionEffect) (k : List Connection) : Type 0 where
  pub each : (c : ℕ) → NextIs g ds c (get_or k c closed)

module _ (g : Given) (ds : List ConnectionEffect) where
  -- from one history to another that says the same of c
  carry : (ds' : List ConnectionEffect) (c : ℕ) (k : Connection) → next_number g ds' c ≡ next_number g ds c → NextIs g ds c k → NextIs g ds' c k
  unfolding NextIs
  carry ds' c closed p i = tt
  carry ds' c (live k) p i = i ∙ sym p

  -- one connection changed
  change : (d : ConnectionEffect) (k : List Connection) (c : ℕ) (x : Connection) → NextInv g ds k → c < length k → NextIs g (d ∷ ds) c x
      → ((j : ℕ) → (j ≡ c → ⊥) → next_number g (d ∷ ds) j ≡ next_number g ds j) → NextInv g (d ∷ ds) (set k c x)
  change d k c x i l h p = record { each = λ j. go j (ℕ_discrete j c) }
    where
      go : (j : ℕ) → Dec (j ≡ c) → NextIs g (d ∷ ds) j (get_or (set k c x) j closed)
      go j (yes q) = rw (q, get_or-set_same k c x closed l) h
      go j (no q) = rw (get_or-set_other k c j x closed q) (carry (d ∷ ds) j (get_or k j closed) (p j q) (i.each j))

  -- a call that does nothing to a connection
  pub next-still : {k : List Connection} → NextInv g ds k → NextInv g (ConnectionEffect.none ∷ ds) k
  unfolding next_number first_stat_sn statuses_sent
  next-still {k = k} i = record { each = λ j. carry (ConnectionEffect.none ∷ ds) j (get_or k j closed) refl (i.each j) }

  -- an opening begins at the number that it gives
  pub next-open : (k : List Connection) (c : ℕ) (o : Opening) → NextInv g ds k → c < length k → NextInv g (opens c o ∷ ds) (set k c (live (opened_by o)))
  unfolding NextIs opened_by L.fresh_ledger next_number first_stat_sn statuses_sent
  next-open k c o i l = change (opens c o) k c (live (opened_by o)) i l here other
    where
      here : NextIs g (opens c o ∷ ds) c (live (opened_by o))
      here = rw (eq-eqb c c refl) (omega arith)

      other : (j : ℕ) → (j ≡ c → ⊥) → next_number g (opens c o ∷ ds) j ≡ next_number g ds j
      other j q = rw (ne_eqb j c q)

  -- a status sent uses up one number
  pub next-send : (k : List Connection) (c n t : ℕ) (h : List ℕ) (s : L.Status) (x : OpenConnection) → NextInv g ds k → c < length k
      → get_or k c closed ≡ live x
      → NextInv g (sends c n t h ∷ ds) (set k c (live (with_ledger x (L.sent x.ledger s))))
  unfolding NextIs L.sent next_number first_stat_sn statuses_sent
  next-send k c n t h s x i l e = change (sends c n t h) k c (live (with_ledger x (L.sent x.ledger s))) i l here other
    where
      was : x.ledger.next ≡ next_number g ds c
      was = subst (NextIs g ds c) e (i.each c)

      here : NextIs g (sends c n t h ∷ ds) c (live (with_ledger x (L.sent x.ledger s)))
      here = rw (eq-eqb c c refl) (omega (arith, was))

      other : (j : ℕ) → (j ≡ c → ⊥) → next_number g (sends c n t h ∷ ds) j ≡ next_number g ds j
      other j q = rw (ne_eqb j c q)

  -- an acknowledgement leaves the next number
  pub next-ack : (k : List Connection) (c e : ℕ) (x : OpenConnection) → NextInv g ds k → c < length k → get_or k c closed ≡ live x
      → NextInv g (acknowledges c e ∷ ds) (set k c (live (with_ledger x (L.released x.ledger e))))
  unfolding NextIs L.released next_number first_stat_sn statuses_sent
  next-ack k c e x i l q = change (acknowledges c e) k c (live (with_ledger x (L.released x.ledger e))) i l here other
    where
      here : NextIs g (acknowledges c e ∷ ds) c (live (with_ledger x (L.released x.ledger e)))
      here = subst (NextIs g ds c) q (i.each c)

      other : (j : ℕ) → (j ≡ c → ⊥) → next_number g (acknowledges c e ∷ ds) j ≡ next_number g ds j
      other j z = refl

  -- a logout only closes
  pub next-logs : (k : List Connection) (c r : ℕ) → NextInv g ds k → c < length k → NextInv g (closes c r ∷ ds) (conns_left k c r)
  unfolding conns_left NextIs next_number first_stat_sn statuses_sent
  next-logs k c r i l = record { each = go (eqb r 0) }
    where
      same_number : (j : ℕ) → next_number g (closes c r ∷ ds) j ≡ next_number g ds j
      same_number j = refl

      shut : (j : ℕ) → NextIs g (closes c r ∷ ds) j closed
      shut j = tt

      go : (u : Bool) (j : ℕ) → NextIs g (closes c r ∷ ds) j (get_or (pick u (replicate 4 closed) (set k c closed)) j closed)
      go true j = rw (alike closed 4 j) (shut j)
      go false j = (change (closes c r) k c closed i l (shut c) (λ m q. same_number m)).each j

-- a fresh session: connection 0 begins at what the session was given
pub next-fresh : (g : Given) → NextInv g [] (live (opened_by g.opening) ∷ closed ∷ closed ∷ closed ∷ [])
unfolding NextIs opened_by L.fresh_ledger next_number first_stat_sn statuses_sent
next-fresh g = record { each = go }
  where
    go : (c : ℕ) → NextIs g [] c (get_or (live (opened_by g.opening) ∷ closed ∷ closed ∷ closed ∷ []) c closed)
    go zero = omega arith
    go (suc zero) = tt
    go (suc (suc zero)) = tt
    go (suc (suc (suc zero))) = tt
    go (suc (suc (suc (suc c)))) = tt
