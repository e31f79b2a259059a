-- The book's connections against what a history says of them. The invariant: a connection is open in the book exactly where the
-- history has it open, and its ledger holds under each number the last status sent that was not acknowledged since.
use Prim.Native.Nat.{ℕ, zero, suc, ◌+◌, ◌-◌, ◌%◌, ◌^◌, ◌≤◌, ◌<◌}
use mathlib.Core.Path.{◌≡◌, refl, sym, ap, ◌∙◌, subst}
use Rattle.std.proofs.Math.Bool.{and-false}
use mathlib.Core.Bool.{Bool, true, false, ◌&&◌, ◌||◌}
use mathlib.Core.List.{List, [], ◌∷◌, ◌++◌}
use native.Mathlib.Omega.{arith}
use native.Mathlib.Decide.{ℕ_discrete, dec_lt}
use borrow.Author.Tests.{lt-ltb, le-ltb, eq-eqb, ne_eqb, eqb-true}
use lib.Dec.{ltb, eqb}
use lib.ListN.{length, get_or, set, drop, length-append, length-drop, length-set}
use lib.Seq.{get_or-set_same, get_or-set_other}
use Rattle.field.specs.Field.{pick}
use Rattle.ledger.specs.Book as L
use Rattle.ledger.proofs.Laws.{lookup-past, lookup-end, lookup-front, lookup-drop, oldest-sent, oldest-released, oldest-lt}
use Rattle.window.proofs.Bits.{alike}
use Rattle.book.proofs.PastWindow.{same_true, same_false}
use Rattle.book.specs.declared.Opening.{Opening}
use Rattle.book.specs.Book.{OpenConnection, with_ledger, opened_by, Connection, closed, live, conns_left}
use Rattle.book.specs.Effects.{ConnectionEffect, opens, closes, sends, acknowledges}
use Rattle.book.specs.Commands.{same}
use Rattle.book.specs.Statuses.{is_open_at, precedes, last_sent, acknowledged_since}

-- the last status sent under n on c since its latest opening, if it was not acknowledged since
unfoldable pub status_in : List ConnectionEffect → ℕ → ℕ → L.Found
status_in ds c n = pick (acknowledged_since ds c n) L.missing (last_sent ds c n)

status-opens : (ds : List ConnectionEffect) (c : ℕ) (o : Opening) (n : ℕ) → status_in (opens c o ∷ ds) c n ≡ L.missing
unfolding status_in acknowledged_since last_sent
status-opens ds c o n = rw (eq-eqb c c refl)

status-sends : (ds : List ConnectionEffect) (c m t : ℕ) (h : List ℕ) (n : ℕ)
    → status_in (sends c m t h ∷ ds) c n ≡ pick (same n m) (L.found (record { header = h; ticket = t })) (status_in ds c n)
unfolding status_in acknowledged_since last_sent
status-sends ds c m t h n = rw (eq-eqb c c refl) (go (same n m))
  where
    go : (u : Bool) → pick (pick u false (acknowledged_since ds c n)) L.missing (pick u (L.found (record { header = h; ticket = t })) (last_sent ds c n))
        ≡ pick u (L.found (record { header = h; ticket = t })) (pick (acknowledged_since ds c n) L.missing (last_sent ds c n))
    go true = refl
    go false = refl

status-acknowledges : (ds : List ConnectionEffect) (c x n : ℕ) → status_in (acknowledges c x ∷ ds) c n ≡ pick (precedes n x) L.missing (status_in ds c n)
unfolding status_in acknowledged_since last_sent
status-acknowledges ds c x n = rw (eq-eqb c c refl) (go (precedes n x) (acknowledged_since ds c n))
  where
    go : (u v : Bool) → pick (u || v) L.missing (last_sent ds c n) ≡ pick u L.missing (pick v L.missing (last_sent ds c n))
    go true v = refl
    go false v = refl

pub record LiveOk (ds : List ConnectionEffect) (c : ℕ) (q : L.LedgerBook) : Type 0 where
  pub open_now : is_open_at ds c ≡ true
  pub fits : q.next < 2 ^ 32
  pub few : length q.held ≤ 32
  pub status : (n : ℕ) → status_in ds c n ≡ L.status_of q n

unfoldable pub ConnIs : List ConnectionEffect → ℕ → Connection → Type 0
ConnIs ds c closed = is_open_at ds c ≡ false
ConnIs ds c (live k) = LiveOk ds c k.ledger

pub record ConnInv (ds : List ConnectionEffect) (k : List Connection) : Type 0 where
  pub four : length k ≡ 4
  pub near : (c : ℕ) → is_open_at ds c ≡ true → c < 4
  pub each : (c : ℕ) → c < 4 → ConnIs ds c (get_or k c closed)

-- from one history to another that says the same of c
carry : (ds ds' : List ConnectionEffect) (c : ℕ) (k : Connection) → is_open_at ds' c ≡ is_open_at ds c → ((n : ℕ) → status_in ds' c n ≡ status_in ds c n)
    → ConnIs ds c k → ConnIs ds' c k
unfolding ConnIs
carry ds ds' c closed p s i = p ∙ i
carry ds ds' c (live k) p s i = record { open_now = p ∙ i.open_now; fits = i.fits; few = i.few; status = λ n. s n ∙ i.status n }

-- a call that does nothing to a connection
pub conn-still : {ds : List ConnectionEffect} {k : List Connection} → ConnInv ds k → ConnInv (ConnectionEffect.none ∷ ds) k
unfolding is_open_at status_in acknowledged_since last_sent
conn-still {ds = ds} {k = k} i =
    record { four = i.four; near = i.near; each = λ j l. carry ds (ConnectionEffect.none ∷ ds) j (get_or k j closed) refl (λ n. refl) (i.each j l) }

-- one connection changed
change : (d : ConnectionEffect) (ds : List ConnectionEffect) (k : List Connection) (c : ℕ) (x : Connection) → ConnInv ds k → c < 4 → ConnIs (d ∷ ds) c x
    → ((j : ℕ) → (j ≡ c → ⊥) → is_open_at (d ∷ ds) j ≡ is_open_at ds j) → ((j n : ℕ) → (j ≡ c → ⊥) → status_in (d ∷ ds) j n ≡ status_in ds j n)
    → ConnInv (d ∷ ds) (set k c x)
change d ds k c x i l h p s = record { four = length-set k c x ∙ i.four; near = λ j o. low j o (ℕ_discrete j c); each = λ j lj. go j lj (ℕ_discrete j c) }
  where
    low : (j : ℕ) → is_open_at (d ∷ ds) j ≡ true → Dec (j ≡ c) → j < 4
    low j o (yes q) = omega arith
    low j o (no q) = i.near j (sym (p j q) ∙ o)

    go : (j : ℕ) → j < 4 → Dec (j ≡ c) → ConnIs (d ∷ ds) j (get_or (set k c x) j closed)
    go j lj (yes q) = rw (q, get_or-set_same k c x closed (omega (arith, i.four))) h
    go j lj (no q) = rw (get_or-set_other k c j x closed q) (carry ds (d ∷ ds) j (get_or k j closed) (p j q) (λ n. s j n q) (i.each j lj))

pub conn-open : (ds : List ConnectionEffect) (k : List Connection) (c : ℕ) (o : Opening) → ConnInv ds k → c < 4
    → ConnInv (opens c o ∷ ds) (set k c (live (opened_by o)))
conn-open ds k c o i l = change (opens c o) ds k c (live (opened_by o)) i l here other-open other-status
  where
    here : ConnIs (opens c o ∷ ds) c (live (opened_by o))
    here = unfold ConnIs in (record {
      open_now = unfold is_open_at in (rw (eq-eqb c c refl));
      fits = unfold opened_by in (unfold L.fresh_ledger in (omega arith));
      few = unfold opened_by in (unfold L.fresh_ledger in (omega arith));
      status = λ m. status-opens ds c o m ∙ unfold L.status_of in (unfold opened_by in (unfold L.fresh_ledger in (unfold L.lookup in refl)));
    })

    other-open : (j : ℕ) → (j ≡ c → ⊥) → is_open_at (opens c o ∷ ds) j ≡ is_open_at ds j
    other-open j q = unfold is_open_at in (rw (ne_eqb j c q))

    other-status : (j m : ℕ) → (j ≡ c → ⊥) → status_in (opens c o ∷ ds) j m ≡ status_in ds j m
    other-status j m q = unfold status_in in (unfold acknowledged_since in (unfold last_sent in (rw (ne_eqb j c q))))

-- ---- a status sent

next_place : (q : L.LedgerBook) (n : ℕ) → q.next < 2 ^ 32 → length q.held ≤ 32 → n % 2 ^ 32 ≡ q.next % 2 ^ 32 → L.place q n ≡ length q.held
unfolding L.place L.oldest
next_place q n l f e = sums q.next (length q.held) n l f e
  where
    inner : (x k : ℕ) → x < 2 ^ 32 → k ≤ 32 → (x + (2 ^ 32 - (x + (2 ^ 32 - k)) % 2 ^ 32)) % 2 ^ 32 ≡ k
    inner x k l f = omega arith

    moves : (n x o : ℕ) → o < 2 ^ 32 → n % 2 ^ 32 ≡ x % 2 ^ 32 → (n + (2 ^ 32 - o)) % 2 ^ 32 ≡ (x + (2 ^ 32 - o)) % 2 ^ 32
    moves n x o l e = omega arith

    sums : (x k n : ℕ) → x < 2 ^ 32 → k ≤ 32 → n % 2 ^ 32 ≡ x % 2 ^ 32 → (n + (2 ^ 32 - (x + (2 ^ 32 - k)) % 2 ^ 32)) % 2 ^ 32 ≡ k
    sums x k n l f e = moves n x ((x + (2 ^ 32 - k)) % 2 ^ 32) (omega arith) e ∙ inner x k l f

place-next : (q : L.LedgerBook) (n : ℕ) → q.next < 2 ^ 32 → length q.held ≤ 32 → L.place q n ≡ length q.held → n % 2 ^ 32 ≡ q.next % 2 ^ 32
unfolding L.place L.oldest
place-next q n l f e = sums q.next (length q.held) n l f e
  where
    sums : (x k n : ℕ) → x < 2 ^ 32 → k ≤ 32 → (n + (2 ^ 32 - (x + (2 ^ 32 - k)) % 2 ^ 32)) % 2 ^ 32 ≡ k → n % 2 ^ 32 ≡ x % 2 ^ 32
    sums x k n l f e = omega arith

status-sent : (q : L.LedgerBook) (s : L.Status) (n : ℕ) → q.next < 2 ^ 32 → length q.held < 32
    → L.status_of (L.sent q s) n ≡ pick (same n q.next) (L.found s) (L.status_of q n)
unfolding L.status_of
status-sent q s n l f = go (same n q.next) refl
  where
    same_place : L.place (L.sent q s) n ≡ L.place q n
    same_place = unfold L.place in (rw (oldest-sent q s l f))

    split : (k : ℕ) → (k ≡ length q.held → ⊥) → L.lookup (q.held ++ s ∷ []) k ≡ L.lookup q.held k
    split k ne = at (dec_lt k (length q.held))
      where
        at : Dec (k < length q.held) → L.lookup (q.held ++ s ∷ []) k ≡ L.lookup q.held k
        at (yes a) = lookup-front q.held s k a
        at (no a) = lookup-past (q.held ++ s ∷ []) k (omega (arith, length-append q.held (s ∷ []))) ∙ sym (lookup-past q.held k (omega arith))

    go : (u : Bool) → same n q.next ≡ u → L.lookup (L.sent q s).held (L.place (L.sent q s) n) ≡ pick (same n q.next) (L.found s) (L.lookup q.held (L.place q n))
    go true e =
        rw (e, same_place, next_place q n l (omega arith) (same_true n q.next e)) (unfold L.sent in (lookup-end q.held s))
    go false e =
        rw (e, same_place) (unfold L.sent in (split (L.place q n) (λ x. same_false n q.next e (place-next q n l (omega arith) x))))

pub conn-send : (ds : List ConnectionEffect) (k : List Connection) (c t : ℕ) (h : List ℕ) (x : OpenConnection) → ConnInv ds k → c < 4
    → get_or k c closed ≡ live x → length x.ledger.held < 32
    → ConnInv (sends c x.ledger.next t h ∷ ds) (set k c (live (with_ledger x (L.sent x.ledger (record { header = h; ticket = t })))))
conn-send ds k c t h x i l e f = change (sends c q.next t h) ds k c (live (with_ledger x (L.sent q s))) i l here other-open other-status
  where
    q : L.LedgerBook
    q = x.ledger

    s : L.Status
    s = record { header = h; ticket = t }

    was : LiveOk ds c q
    was = unfold ConnIs in (subst (ConnIs ds c) e (i.each c l))

    here : ConnIs (sends c q.next t h ∷ ds) c (live (with_ledger x (L.sent q s)))
    here = unfold ConnIs in (record {
      open_now = unfold is_open_at in was.open_now;
      fits = unfold L.sent in (omega arith);
      few = unfold L.sent in (omega (arith, length-append q.held (s ∷ [])));
      status = λ n. status-sends ds c q.next t h n ∙ rw (was.status n) (sym (status-sent q s n was.fits f));
    })

    other-open : (j : ℕ) → (j ≡ c → ⊥) → is_open_at (sends c q.next t h ∷ ds) j ≡ is_open_at ds j
    other-open j y = unfold is_open_at in refl

    other-status : (j m : ℕ) → (j ≡ c → ⊥) → status_in (sends c q.next t h ∷ ds) j m ≡ status_in ds j m
    other-status j m y = unfold status_in in (unfold acknowledged_since in (unfold last_sent in (rw (ne_eqb j c y))))

-- ---- an acknowledgement

-- the places of n and of x from the oldest, o, and the distance from n to x
gone : (o n x : ℕ) → o < 2 ^ 32 → (x + (2 ^ 32 - o)) % 2 ^ 32 ≤ 32 → (n + (2 ^ 32 - o)) % 2 ^ 32 < (x + (2 ^ 32 - o)) % 2 ^ 32
    → (x + (2 ^ 32 - n % 2 ^ 32)) % 2 ^ 32 ≡ (x + (2 ^ 32 - o)) % 2 ^ 32 - (n + (2 ^ 32 - o)) % 2 ^ 32
gone o n x lo l m = omega arith

kept : (o n x : ℕ) → o < 2 ^ 32 → (x + (2 ^ 32 - o)) % 2 ^ 32 ≤ (n + (2 ^ 32 - o)) % 2 ^ 32 → (n + (2 ^ 32 - o)) % 2 ^ 32 ≤ 32
    → ((x + (2 ^ 32 - n % 2 ^ 32)) % 2 ^ 32 ≡ 0 → ⊥) → 2 ^ 31 ≤ (x + (2 ^ 32 - n % 2 ^ 32)) % 2 ^ 32
kept o n x lo m f z = omega arith

precedes-true : (q : L.LedgerBook) (n x : ℕ) → L.place q x ≤ 32 → L.place q n < L.place q x → precedes n x ≡ true
unfolding precedes L.place
precedes-true q n x l m =
    let d = gone (L.oldest q) n x (oldest-lt q) l m in
    rw (
      d,
      lt-ltb 0 ((x + (2 ^ 32 - L.oldest q)) % 2 ^ 32 - (n + (2 ^ 32 - L.oldest q)) % 2 ^ 32) (omega arith),
      lt-ltb ((x + (2 ^ 32 - L.oldest q)) % 2 ^ 32 - (n + (2 ^ 32 - L.oldest q)) % 2 ^ 32) (2 ^ 31) (omega arith),
    )

precedes-false : (q : L.LedgerBook) (n x : ℕ) → L.place q x ≤ L.place q n → L.place q n ≤ 32 → precedes n x ≡ false
unfolding precedes L.place
precedes-false q n x l m = go (ℕ_discrete ((x + (2 ^ 32 - n % 2 ^ 32)) % 2 ^ 32) 0)
  where
    go : Dec ((x + (2 ^ 32 - n % 2 ^ 32)) % 2 ^ 32 ≡ 0)
        → (ltb 0 ((x + (2 ^ 32 - n % 2 ^ 32)) % 2 ^ 32) && ltb ((x + (2 ^ 32 - n % 2 ^ 32)) % 2 ^ 32) (2 ^ 31)) ≡ false
    go (yes e) = rw (le-ltb 0 ((x + (2 ^ 32 - n % 2 ^ 32)) % 2 ^ 32) (omega arith))
    go (no e) =
        rw (le-ltb ((x + (2 ^ 32 - n % 2 ^ 32)) % 2 ^ 32) (2 ^ 31) (kept (L.oldest q) n x (oldest-lt q) l m e))
        (and-false (ltb 0 ((x + (2 ^ 32 - n % 2 ^ 32)) % 2 ^ 32)))

less : (o n p : ℕ) → o < 2 ^ 32 → p ≤ 32 → (n + (2 ^ 32 - o)) % 2 ^ 32 < p → 2 ^ 32 - 32 ≤ (n + (2 ^ 32 - (o + p) % 2 ^ 32)) % 2 ^ 32
less o n p lo l m = omega arith

more : (o n p : ℕ) → o < 2 ^ 32 → p ≤ 32 → p ≤ (n + (2 ^ 32 - o)) % 2 ^ 32 → p + (n + (2 ^ 32 - (o + p) % 2 ^ 32)) % 2 ^ 32 ≡ (n + (2 ^ 32 - o)) % 2 ^ 32
more o n p lo l m = omega arith

place-less : (q : L.LedgerBook) (n p : ℕ) → p ≤ 32 → L.place q n < p → 2 ^ 32 - 32 ≤ (n + (2 ^ 32 - (L.oldest q + p) % 2 ^ 32)) % 2 ^ 32
unfolding L.place
place-less q n p l m = less (L.oldest q) n p (oldest-lt q) l m

place-more : (q : L.LedgerBook) (n p : ℕ) → p ≤ 32 → p ≤ L.place q n → p + (n + (2 ^ 32 - (L.oldest q + p) % 2 ^ 32)) % 2 ^ 32 ≡ L.place q n
unfolding L.place
place-more q n p l m = more (L.oldest q) n p (oldest-lt q) l m

status-released : (q : L.LedgerBook) (x n : ℕ) → q.next < 2 ^ 32 → length q.held ≤ 32 → L.place q x ≤ length q.held
    → L.status_of (L.released q x) n ≡ pick (precedes n x) L.missing (L.status_of q n)
unfolding L.status_of
status-released q x n l f g = go (dec_lt (L.place q n) (L.place q x))
  where
    as' : L.place (L.released q x) n ≡ (n + (2 ^ 32 - (L.oldest q + L.place q x) % 2 ^ 32)) % 2 ^ 32
    as' = unfold L.place in (ap (λ (o : ℕ). (n + (2 ^ 32 - o)) % 2 ^ 32) (oldest-released q x l f g))

    held-is : (L.released q x).held ≡ drop (L.place q x) q.held
    held-is = unfold L.released in refl

    go : Dec (L.place q n < L.place q x)
        → L.lookup (L.released q x).held (L.place (L.released q x) n) ≡ pick (precedes n x) L.missing (L.lookup q.held (L.place q n))
    go (yes a) =
        let big : 2 ^ 32 - 32 ≤ L.place (L.released q x) n = rw as' (place-less q n (L.place q x) (omega arith) a) in
        ap (λ (h : List L.Status). L.lookup h (L.place (L.released q x) n)) held-is
        ∙ lookup-past (drop (L.place q x) q.held) (L.place (L.released q x) n) (rw length-drop (omega arith))
        ∙ rw (precedes-true q n x (omega arith) a)
    go (no a) =
        let le : L.place q x ≤ L.place q n = omega arith in
        let e : L.place q x + L.place (L.released q x) n ≡ L.place q n = rw as' (place-more q n (L.place q x) (omega arith) le) in
        ap (λ (h : List L.Status). L.lookup h (L.place (L.released q x) n)) held-is ∙ lookup-drop q.held (L.place q x) (L.place (L.released q x) n)
        ∙ ap (L.lookup q.held) e ∙ at (dec_lt (L.place q n) (length q.held))
      where
        either : (t : Bool) (u : L.Found) → u ≡ L.missing → u ≡ pick t L.missing u
        either t u e = grind arith

        at : Dec (L.place q n < length q.held) → L.lookup q.held (L.place q n) ≡ pick (precedes n x) L.missing (L.lookup q.held (L.place q n))
        at (yes b) = rw (precedes-false q n x (omega arith) (omega arith))
        at (no b) = either (precedes n x) (L.lookup q.held (L.place q n)) (lookup-past q.held (L.place q n) (omega arith))

pub conn-ack : (ds : List ConnectionEffect) (k : List Connection) (c x : ℕ) (y : OpenConnection) → ConnInv ds k → c < 4 → get_or k c closed ≡ live y
    → L.place y.ledger x ≤ length y.ledger.held → ConnInv (acknowledges c x ∷ ds) (set k c (live (with_ledger y (L.released y.ledger x))))
conn-ack ds k c x y i l e g = change (acknowledges c x) ds k c (live (with_ledger y (L.released q x))) i l here other-open other-status
  where
    q : L.LedgerBook
    q = y.ledger

    was : LiveOk ds c q
    was = unfold ConnIs in (subst (ConnIs ds c) e (i.each c l))

    here : ConnIs (acknowledges c x ∷ ds) c (live (with_ledger y (L.released q x)))
    here = unfold ConnIs in (record {
      open_now = unfold is_open_at in was.open_now;
      fits = unfold L.released in was.fits;
      few = unfold L.released in (rw length-drop (omega (arith, was.few)));
      status = λ n. status-acknowledges ds c x n ∙ rw (was.status n) (sym (status-released q x n was.fits was.few g));
    })

    other-open : (j : ℕ) → (j ≡ c → ⊥) → is_open_at (acknowledges c x ∷ ds) j ≡ is_open_at ds j
    other-open j z = unfold is_open_at in refl

    other-status : (j m : ℕ) → (j ≡ c → ⊥) → status_in (acknowledges c x ∷ ds) j m ≡ status_in ds j m
    other-status j m z = unfold status_in in (unfold acknowledged_since in (unfold last_sent in (rw (ne_eqb j c z))))

-- ---- a logout

pub conn-logs : (ds : List ConnectionEffect) (k : List Connection) (c r : ℕ) → ConnInv ds k → c < 4 → ConnInv (closes c r ∷ ds) (conns_left k c r)
unfolding conns_left is_open_at
conn-logs ds k c r i l = record {
  four = size (ℕ_discrete r 0);
  near = λ j o. low j (eqb r 0 || eqb j c) o;
  each = λ j lj. go j lj (ℕ_discrete r 0)
      (ℕ_discrete j c);
}
  where
    low : (j : ℕ) (u : Bool) → pick u false (is_open_at ds j) ≡ true → j < 4
    low j true o = absurd cc
    low j false o = i.near j o

    size : Dec (r ≡ 0) → length (conns_left k c r) ≡ 4
    size (yes z) = rw (eq-eqb r 0 z)
    size (no z) = rw (ne_eqb r 0 z) (length-set k c closed ∙ i.four)

    go : (j : ℕ) → j < 4 → Dec (r ≡ 0) → Dec (j ≡ c) → ConnIs (closes c r ∷ ds) j (get_or (conns_left k c r) j closed)
    go j lj (yes z) d = rw (eq-eqb r 0 z, alike closed 4 j) (unfold ConnIs in (unfold is_open_at in (rw (eq-eqb r 0 z))))
    go j lj (no z) (yes q) =
        rw (ne_eqb r 0 z, q, get_or-set_same k c closed closed (omega (arith, i.four))) (unfold ConnIs in
        (unfold is_open_at in (rw (ne_eqb r 0 z, eq-eqb c c refl))))
    go j lj (no z) (no q) =
        rw (ne_eqb r 0 z, get_or-set_other k c j closed closed q)
        (carry ds (closes c r ∷ ds) j (get_or k j closed) (unfold is_open_at in (rw (ne_eqb r 0 z, ne_eqb j c q)))
        (λ n. unfold status_in in (unfold acknowledged_since in (unfold last_sent in refl))) (i.each j lj))

pub conn-fresh : (o : Opening) → ConnInv [] (live (opened_by o) ∷ closed ∷ closed ∷ closed ∷ [])
conn-fresh o = record { four = refl; near = λ c p. zero-only c (ℕ_discrete c 0) p; each = go }
  where
    zero-only : (c : ℕ) → Dec (c ≡ 0) → is_open_at [] c ≡ true → c < 4
    zero-only c (yes e) p = omega arith
    zero-only c (no n) p = let q : eqb c 0 ≡ true = unfold is_open_at in p in absurd (n (eqb-true c 0 q))

    go : (c : ℕ) → c < 4 → ConnIs [] c (get_or (live (opened_by o) ∷ closed ∷ closed ∷ closed ∷ []) c closed)
    go zero l = unfold ConnIs in (record {
      open_now = unfold is_open_at in refl;
      fits = unfold opened_by in (unfold L.fresh_ledger in (omega arith));
      few = unfold opened_by in (unfold L.fresh_ledger in (omega arith));
      status = λ m. unfold status_in in (unfold acknowledged_since in (unfold last_sent in (unfold L.status_of in
          (unfold opened_by in (unfold L.fresh_ledger in (unfold L.lookup in refl))))));
    })
    go (suc zero) l = unfold ConnIs in (unfold is_open_at in refl)
    go (suc (suc zero)) l = unfold ConnIs in (unfold is_open_at in refl)
    go (suc (suc (suc zero))) l = unfold ConnIs in (unfold is_open_at in refl)
    go (suc (suc (suc (suc c)))) l = absurd (omega arith)
