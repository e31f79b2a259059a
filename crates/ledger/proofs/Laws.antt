-- Each step of the code's ledger against the book's. The slot of the k-th held status is that of oldest + k modulo 32, and
-- 32 in a row lie in different slots.
use Prim.Native.Nat.{ℕ, zero, suc, ◌+◌, ◌-◌, ◌*◌, ◌%◌, ◌^◌, ◌≤◌, ◌<◌}
use mathlib.Core.Path.{◌≡◌, refl, sym, ap, ◌∙◌, subst}
use mathlib.Core.Bool.{Bool, true, false, ◌&&◌}
use mathlib.Core.List.{List, [], ◌∷◌, ◌++◌}
use Rattle.std.specs.Prelude.{Some, None, Ok, Err}
use Rattle.std.specs.Bool.{then_some}
use native.Mathlib.Nat.{zero-add}
use native.Mathlib.Omega.{arith}
use native.Mathlib.Decide.{ℕ_discrete, dec_lt}
use lib.ListN.{length, get_or, set, drop, length-append, length-drop, length-set, get_or-append}
use lib.Dec.{eqb, leb}
use borrow.Author.Tests.{lt-ltb, le-ltb, le-leb, lt-leb}
use Rattle.field.specs.Field.{pick, byte, bytes_of}
use Rattle.task_book.specs.declared.Numbering.{Numbering}
use Rattle.task_book.specs.Steps.{exp_data_sn_of}
use Rattle.refusal.specs.Refusal.{number}
use Rattle.response_header.specs.Response.{refusal_in, header_bytes}
use Rattle.refusal.specs.declared.Refusal.{Refusal}
use Rattle.response_header.specs.declared.Response.{Response}
use Rattle.field.proofs.Laws.{length-bytes, sets-append}
use Rattle.refusal.proofs.Laws.{number-positive}
use lib.Seq.{paste, sets, get_or-set_same, get_or-set_other, length-paste, set-append_left, length-sets, take_at, drop_at}
use Rattle.store.specs.Slot.{in_slot}
use Rattle.store.proofs.Slots.{slot_same, slot-other}
use Rattle.ledger.specs.declared.Ledger.{Ledger}
use Rattle.ledger.specs.declared.Renewal.{Renewal}
use Rattle.ledger.specs.Book.{Status, LedgerBook, oldest, place, is_status, is_full, refused, not_stored, stored, sending, header_for, send_bytes, sent, released, run_at, run_of, with_tag, renewed_for, renewed, Found, missing, found, lookup, status_of}
use Rattle.ledger.specs.Book as Book
use Rattle.ledger.specs.Answer.{resent, running, run_answer}
use Rattle.ledger.specs.Answer as Answers
use Rattle.ledger.specs.Agree.{Statuses, statuses_in, SlotHas, Agrees, Puts, Stored, Sends, Showing, showing}

-- ---- what is found

pub lookup-past : (l : List Status) (k : ℕ) → length l ≤ k → lookup l k ≡ missing
unfolding lookup
lookup-past [] k h = refl
lookup-past (s ∷ l) zero h = absurd (omega arith)
lookup-past (s ∷ l) (suc k) h = lookup-past l k (omega arith)

pub lookup-end : (l : List Status) (s : Status) → lookup (l ++ s ∷ []) (length l) ≡ found s
unfolding lookup
lookup-end [] s = refl
lookup-end (x ∷ l) s = lookup-end l s

pub lookup-front : (l : List Status) (s : Status) (k : ℕ) → k < length l → lookup (l ++ s ∷ []) k ≡ lookup l k
unfolding lookup
lookup-front [] s k h = absurd (omega arith)
lookup-front (x ∷ l) s zero h = refl
lookup-front (x ∷ l) s (suc k) h = lookup-front l s k (omega arith)

pub lookup-drop : (l : List Status) (p k : ℕ) → lookup (drop p l) k ≡ lookup l (p + k)
unfolding lookup
lookup-drop l zero k = rw zero-add
lookup-drop [] (suc p) k = refl
lookup-drop (x ∷ l) (suc p) k = let e : suc p + k ≡ suc (p + k) = omega arith in rw e (lookup-drop l p k)

-- ---- numbers and slots

pub oldest-sent : (b : LedgerBook) (s : Status) → b.next < 2 ^ 32 → length b.held < 32 → oldest (sent b s) ≡ oldest b
unfolding oldest sent
oldest-sent b s h l =
    let e : length (b.held ++ s ∷ []) ≡ length b.held + 1 = length-append b.held (s ∷ []) in
    rw e (omega arith)

folds : (x p : ℕ) → (x + p) % 2 ^ 32 ≡ (x % 2 ^ 32 + p) % 2 ^ 32
folds x p = omega arith

pub oldest-released : (b : LedgerBook) (e : ℕ) → b.next < 2 ^ 32 → length b.held ≤ 32 → place b e ≤ length b.held
    → oldest (released b e) ≡ (oldest b + place b e) % 2 ^ 32
unfolding oldest released
oldest-released b e h few l = rw length-drop (sums b.next (length b.held) (place b e) h few l)
  where
    sums : (n k p : ℕ) → n < 2 ^ 32 → k ≤ 32 → p ≤ k → (n + (2 ^ 32 - (k - p))) % 2 ^ 32 ≡ ((n + (2 ^ 32 - k)) % 2 ^ 32 + p) % 2 ^ 32
    sums n k p a b c =
        let e : n + (2 ^ 32 - (k - p)) ≡ n + (2 ^ 32 - k) + p = omega arith in
        ap (λ (x : ℕ). x % 2 ^ 32) e ∙ folds (n + (2 ^ 32 - k)) p

next-slot : (b : LedgerBook) → b.next < 2 ^ 32 → length b.held ≤ 32 → (oldest b + length b.held) % 32 ≡ b.next % 32
unfolding oldest
next-slot b h l = omega arith

apart : (o k n : ℕ) → k < n → n < 32 → (o + k) % 32 ≡ (o + n) % 32 → ⊥
apart o k n l m e = omega arith

far-slot : (c k i j : ℕ) → (k ≡ c → ⊥) → i < 32 → j < 32 → k * 32 + j ≡ c * 32 + i → ⊥
far-slot c k i j n h l e = omega arith

slot_kept : (ss : Statuses) (hd : List ℕ) (tk i j : ℕ) (f : Found) → length ss.headers ≡ 6144 → length hd ≡ 48 → i < 128 → j < 128 → (j ≡ i → ⊥)
    → SlotHas ss j f
    → SlotHas (statuses_in (paste ss.headers (i * 48) hd 48) (set ss.tickets i tk)) j f
unfolding SlotHas
slot_kept ss hd tk i j missing r h li lj n k = tt
slot_kept ss hd tk i j (found s) r h li lj n k =
    (slot-other ss.headers hd i j (omega arith) (omega arith) h n ∙ k.0, get_or-set_other ss.tickets i j tk 0 n ∙ k.1)

-- ---- the steps

pub stored-agrees : (c : ℕ) (l r : Ledger) (tk : ℕ) (hd : List ℕ) (ss : Statuses) (b : LedgerBook) → Agrees c l ss b → l.held < 32 → length hd ≡ 48
    → r.next ≡ (l.next + 1) % 2 ^ 32 → r.held ≡ l.held + 1
    → Agrees c r (statuses_in (paste ss.headers ((c * 32 + l.next % 32) * 48) hd 48) (set ss.tickets (c * 32 + l.next % 32) tk))
    (sent b (record { header = hd; ticket = tk }))
unfolding sent SlotHas
stored-agrees c l r tk hd ss b g lh h e2 e3 = record {
  near = g.near;
  next = (e2 ∙ ap (λ (x : ℕ). (x + 1) % 2 ^ 32) g.next);
  fits = omega arith;
  held = (omega (arith, g.held, length-append b.held (st ∷ [])));
  few = (omega (arith, g.held, length-append b.held (st ∷ [])));
  headers_size = length-paste ss.headers (i * 48) hd 48 (omega (arith, g.headers_size, g.near)) (omega arith) ∙ g.headers_size;
  tickets_size = length-set ss.tickets i tk ∙ g.tickets_size;
  kept = λ k. rw (oldest-sent b st g.fits (omega (arith, g.held))) (at k (dec_lt k (length b.held)) (ℕ_discrete k (length b.held)));
}
  where
    st : Status
    st = record { header = hd; ticket = tk }

    i : ℕ
    i = c * 32 + l.next % 32

    here : (oldest b + length b.held) % 32 ≡ l.next % 32
    here = next-slot b g.fits g.few ∙ ap (λ (x : ℕ). x % 32) (sym g.next)

    at : (k : ℕ) → Dec (k < length b.held) → Dec (k ≡ length b.held)
        → SlotHas (statuses_in (paste ss.headers (i * 48) hd 48) (set ss.tickets i tk)) (c * 32 + (oldest b + k) % 32) (lookup (sent b st).held k)
    at k (yes m) d =
        let ne : c * 32 + (oldest b + k) % 32 ≡ i → ⊥ = λ q. apart (oldest b) k (length b.held) m (omega (arith, g.held)) (omega (arith, here)) in
        (rw (lookup-front b.held st k m)
        (slot_kept ss hd tk i (c * 32 + (oldest b + k) % 32) (lookup b.held k) g.headers_size h (omega (arith, g.near))
        (omega (arith, g.near)) ne (g.kept k)))
    at k (no m) (yes q) =
        let s : c * 32 + (oldest b + length b.held) % 32 ≡ i = ap (λ (x : ℕ). c * 32 + x) here in
        (rw (q, s, lookup-end b.held st)
        ((
          slot_same ss.headers hd i (omega (arith, g.headers_size, g.near)) h,
          get_or-set_same ss.tickets i tk 0 (omega (arith, g.tickets_size, g.near)),
        )))
    at k (no m) (no q) =
        (rw (lookup-past (b.held ++ st ∷ []) k (omega (arith, length-append b.held (st ∷ [])))) (tt))

pub stored-others : (c k n tk : ℕ) (hd : List ℕ) (ss : Statuses) (m : Ledger) (b : LedgerBook) → c < 4 → (k ≡ c → ⊥) → length hd ≡ 48 → Agrees k m ss b
    → Agrees k m (statuses_in (paste ss.headers ((c * 32 + n % 32) * 48) hd 48) (set ss.tickets (c * 32 + n % 32) tk)) b
stored-others c k n tk hd ss m b lc ne h g = record {
  near = g.near;
  next = g.next;
  fits = g.fits;
  held = g.held;
  few = g.few;
  headers_size = length-paste ss.headers ((c * 32 + n % 32) * 48) hd 48 (omega (arith, g.headers_size)) (omega arith) ∙ g.headers_size;
  tickets_size = length-set ss.tickets (c * 32 + n % 32) tk ∙ g.tickets_size;
  kept = λ j.
      slot_kept ss hd tk (c * 32 + n % 32) (k * 32 + (oldest b + j) % 32) (lookup b.held j) g.headers_size h (omega arith) (omega (arith, g.near))
      (far-slot c k (n % 32) ((oldest b + j) % 32) ne (omega arith) (omega arith))
      (g.kept j);
}

pub release-agrees : (c : ℕ) (l r : Ledger) (ss : Statuses) (b : LedgerBook) (e : ℕ) → Agrees c l ss b → place b e ≤ length b.held
    → r.next ≡ l.next → r.held ≡ l.held - place b e → Agrees c r ss (released b e)
release-agrees c l r ss b e g le e2 e3 = record {
  near = g.near;
  next = unfold released in (e2 ∙ g.next);
  fits = unfold released in g.fits;
  held = unfold released in (rw length-drop (e3 ∙ ap (λ (x : ℕ). x - place b e) g.held));
  few = unfold released in (rw length-drop (omega (arith, g.few)));
  headers_size = g.headers_size;
  tickets_size = g.tickets_size;
  kept = λ k.
      let s : (oldest (released b e) + k) % 32 ≡ (oldest b + (place b e + k)) % 32 =
      ap (λ (x : ℕ). (x + k) % 32) (oldest-released b e g.fits g.few le) ∙ shift (oldest b) (place b e) k in
      rw s (unfold released in (rw lookup-drop (g.kept (place b e + k))));
}
  where
    shift : (o p k : ℕ) → ((o + p) % 2 ^ 32 + k) % 32 ≡ (o + (p + k)) % 32
    shift o p k = omega arith

-- ---- runs

module _ (b : LedgerBook) (begin len k h : ℕ) (ek : k ≡ place b begin) (eh : h ≡ length b.held) (n : (eqb begin 0 && eqb len 0) ≡ false) where
  pub run-far : h ≤ k → Answers.refused 12 ≡ running (run_of b begin len)
  unfolding run_of run_at
  run-far l = rw (n, ← ek, ← eh, le-ltb k h l)

  -- m are asked for: len, or all from begin on
  pub run-near : k < h → (m : ℕ) → m ≡ pick (eqb len 0) (h - k) len
      → run_answer (then_some (leb m (h - k)) (record { first = begin; count = m })) ≡ running (run_of b begin len)
  unfolding run_of run_at
  run-near l m e = rw (e, n, ← ek, ← eh, lt-ltb k h l) (go (eqb len 0))
    where
      held : (z : Bool) → run_answer (then_some z (record { first = begin; count = len })) ≡ running (pick z (Book.run begin len) Book.not_held)
      held true = refl
      held false = refl

      go : (z : Bool)
          → run_answer (then_some (leb (pick z (h - k) len) (h - k)) (record { first = begin; count = pick z (h - k) len }))
          ≡ running (pick z (Book.run begin (h - k)) (pick (leb len (h - k)) (Book.run begin len) Book.not_held))
      go true = rw (le-leb (h - k) (h - k) (omega arith))
      go false = held (leb len (h - k))

-- ---- a status shown again

sets-front : (a x : List ℕ) (i : ℕ) (vs : List ℕ) → i + length vs ≤ length a → sets (a ++ x) i vs ≡ sets a i vs ++ x
sets-front a x i [] l = refl
sets-front a x i (v ∷ vs) l =
    ap (λ (r : List ℕ). sets r (suc i) vs) (set-append_left a x i v (omega arith))
    ∙ sets-front (set a i v) x (suc i) vs (rw length-set (omega arith))

-- the SNACK tag and the ExpDataSN stand in the first 48 bytes
pub length-tagged : (h : List ℕ) (t : ℕ) → length (with_tag h t) ≡ length h
unfolding with_tag
length-tagged h t = grind (arith, length-sets h 20 (bytes_of 4 t))

tagged-front : (a x : List ℕ) (t : ℕ) → length a ≡ 48 → with_tag (a ++ x) t ≡ with_tag a t ++ x
unfolding with_tag
tagged-front a x t l = grind (arith, sets-front a x 20 (bytes_of 4 t) (omega (arith, length-bytes 4 t)))

pub length-renewed-for : (n : Numbering) (h : List ℕ) → length (renewed_for n h) ≡ length h
unfolding renewed_for
length-renewed-for n h =
    grind (arith, length-sets (with_tag h n.snack_tag) 36 (bytes_of 4 (exp_data_sn_of n (byte h 2))), length-tagged h n.snack_tag)

pub renewed-front : (n : Numbering) (a x : List ℕ) → length a ≡ 48 → renewed_for n (a ++ x) ≡ renewed_for n a ++ x
unfolding renewed_for
renewed-front n a x l =
    let e = bytes_of 4 (exp_data_sn_of n (byte a 2)) in
    let s = sets-front (with_tag a n.snack_tag) x 36 e
    (omega (arith, length-bytes 4 (exp_data_sn_of n (byte a 2)), length-tagged a n.snack_tag)) in
    rw (get_or-append a x 0 0 (omega arith), get_or-append a x 0 2 (omega arith), tagged-front a x n.snack_tag l) (grind (arith, s))

pub renew : (a x : List ℕ) (n : Renewal) → length a ≡ 48
    → sets (sets (renewed_for n.numbering a ++ x) 28 (bytes_of 4 n.exp_cmd_sn)) 32 (bytes_of 4 n.max_cmd_sn) ≡ renewed a n ++ x
unfolding renewed
renew a x n l =
    let e = n.exp_cmd_sn in
    let m = n.max_cmd_sn in
    let r = renewed_for n.numbering a in
    let z = length-renewed-for n.numbering a in
    ap (λ (r : List ℕ). sets r 32 (bytes_of 4 m)) (sets-front r x 28 (bytes_of 4 e) (omega (arith, z, length-bytes 4 e)))
    ∙ sets-front (sets r 28 (bytes_of 4 e)) x 32 (bytes_of 4 m) (omega (arith, z, length-bytes 4 m, length-sets r 28 (bytes_of 4 e)))

-- two numbers written as one
pub renew-both : (l : List ℕ) (e m : ℕ) → sets l 28 (bytes_of 4 e ++ bytes_of 4 m) ≡ sets (sets l 28 (bytes_of 4 e)) 32 (bytes_of 4 m)
renew-both l e m = sym (sets-append l 28 (bytes_of 4 e) (bytes_of 4 m)) ∙ ap (λ (k : ℕ). sets (sets l 28 (bytes_of 4 e)) (28 + k) (bytes_of 4 m))
    (length-bytes 4 e)

pub resend-missing : (c : ℕ) (l : Ledger) (ss : Statuses) (out : List ℕ) (b : LedgerBook) (n k : ℕ) (x : Renewal) → Agrees c l ss b → k ≡ place b n
    → l.held ≤ k
    → ◌≡◌ {A = Showing} (record { answer = Answers.refused 12; bytes = out }) (showing (status_of b n) x out)
unfolding status_of showing
resend-missing c l ss out b n k x g ek h = rw (lookup-past b.held (place b n) (omega (arith, g.held)))

lookup-in : (l : List Status) (k : ℕ) (A : Type 0) → k < length l → ((s : Status) → lookup l k ≡ found s → A) → A
unfolding lookup
lookup-in [] k A h f = absurd (omega arith)
lookup-in (s ∷ l) zero A h f = f s refl
lookup-in (s ∷ l) (suc k) A h f = lookup-in l k A (omega arith) f

here : (o n k : ℕ) → o < 2 ^ 32 → n < 2 ^ 32 → k ≡ (n + (2 ^ 32 - o)) % 2 ^ 32 → (o + k) % 32 ≡ n % 32
here o n k lo ln e = omega arith

pub oldest-lt : (b : LedgerBook) → oldest b < 2 ^ 32
unfolding oldest
oldest-lt b = omega arith

pub resend-found : (c : ℕ) (l : Ledger) (ss : Statuses) (out : List ℕ) (b : LedgerBook) (n k : ℕ) (x : Renewal) → Agrees c l ss b → k ≡ place b n
    → n < 2 ^ 32 → k < l.held
    → ◌≡◌ {A = Showing} (record {
      answer = resent (get_or ss.tickets (c * 32 + n % 32) 0);
      bytes = renewed (in_slot ss.headers (c * 32 + n % 32)) x ++ drop 48 out;
    })
    (showing (status_of b n) x out)
unfolding status_of showing place SlotHas
resend-found c l ss out b n k x g ek ln h =
    lookup-in b.held k _ (omega (arith, g.held)) (λ s q.
    let at : c * 32 + (oldest b + k) % 32 ≡ c * 32 + n % 32 = ap (λ (x : ℕ). c * 32 + x) (here (oldest b) n k (oldest-lt b) ln ek) in
    let kept : SlotHas ss (c * 32 + n % 32) (found s) = rw (q, at) at (g.kept k) in
    rw (← ek, q, kept.0, kept.1))

pub length-renewed : (h : List ℕ) (x : Renewal) → length (renewed h x) ≡ length h
unfolding renewed
length-renewed h x =
    let r = renewed_for x.numbering h in
    length-sets (sets r 28 (bytes_of 4 x.exp_cmd_sn)) 32 (bytes_of 4 x.max_cmd_sn) ∙ length-sets r 28 (bytes_of 4 x.exp_cmd_sn)
    ∙ length-renewed-for x.numbering h

-- ---- an output with another header

module _ (h out : List ℕ) (z : length h ≡ 48) where
  pub headed-size : 48 ≤ length out → length (h ++ drop 48 out) ≡ length out
  headed-size l = length-append h (drop 48 out) ∙ omega (arith, length-drop 48 out)

  pub headed-rest : drop 48 (h ++ drop 48 out) ≡ drop 48 out
  headed-rest = drop_at h (drop 48 out) 48 z

-- ---- send

pub same-header : (b : LedgerBook) (r : Response) (n e m : ℕ) → n ≡ b.next
    → header_bytes r (record { stat_sn = n; exp_cmd_sn = e; max_cmd_sn = m }) ≡ header_for b r e m
unfolding header_for
same-header b r n e m q = rw q

module _ (b : LedgerBook) (longest : ℕ) (due : Bool) (r : Response) where
  pub sending-refused : (f : Refusal) → number f ≡ refusal_in longest r → sending b longest due r ≡ refused (number f)
  unfolding sending
  sending-refused f e = rw (← e, number-positive f)

  module _ (fits : 0 ≡ refusal_in longest r) where
    pub sending-undue : due ≡ false → sending b longest due r ≡ refused 3
    unfolding sending
    sending-undue d = rw (← fits, d)

    module _ (d : due ≡ true) where
      pub sending-unstored : is_status r ≡ false → sending b longest due r ≡ not_stored b.next
      unfolding sending
      sending-unstored s = rw (← fits, d, s)

      pub sending-full : is_status r ≡ true → 32 ≤ length b.held → sending b longest due r ≡ refused 10
      unfolding sending is_full
      sending-full s l = rw (← fits, d, s, le-leb 32 (length b.held) l)

      pub sending-stored : is_status r ≡ true → length b.held < 32 → sending b longest due r ≡ stored b.next
      unfolding sending is_full
      sending-stored s l = rw (← fits, d, s, lt-leb 32 (length b.held) l)

module _ (c : ℕ) (l : Ledger) (ticket : ℕ) (r : Response) (longest : ℕ) (due : Bool) (e m : ℕ) (out : List ℕ) (ss : Statuses) where
  pub sends-refused : (f : Refusal) → ((b : LedgerBook) → Agrees c l ss b → sending b longest due r ≡ refused (number f))
      → Sends c l ticket r longest due e m out ss (Err f) out ss
  unfolding send_bytes
  sends-refused f q = record {
    meets = λ b g. record { answer = sym (q b g); bytes = rw (q b g); agrees = tt };
    others = λ k n b ne g. g;
    headers_size = λ s. s;
    tickets_size = λ s. s;
    stays = (refl, refl);
    out_size = refl;
    out_rest = refl;
  }

  module _ (h : List ℕ) (is : h ≡ header_bytes r (record { stat_sn = l.next; exp_cmd_sn = e; max_cmd_sn = m })) (z : length h ≡ 48)
      (long : 48 ≤ length out) where
    right : (b : LedgerBook) → Agrees c l ss b → h ≡ header_for b r e m
    right b g = is ∙ same-header b r l.next e m g.next

    pub sends-unstored : is_status r ≡ false → ((b : LedgerBook) → Agrees c l ss b → sending b longest due r ≡ not_stored b.next)
        → Sends c l ticket r longest due e m out ss (Ok (record { stat_sn = l.next; ledger = None })) (h ++ drop 48 out) ss
    unfolding send_bytes
    sends-unstored s q = record {
      meets = λ b g. record {
        answer = ap not_stored g.next ∙ sym (q b g);
        bytes = rw (q b g) (ap (λ (x : List ℕ). x ++ drop 48 out) (right b g));
        agrees = tt;
      };
      others = λ k n b ne g. g;
      headers_size = λ s. s;
      tickets_size = λ s. s;
      stays = (s, refl);
      out_size = headed-size h out z long;
      out_rest = headed-rest h out z;
    }

    pub sends-stored : (l' : Ledger) (ss' : Statuses) → is_status r ≡ true → Stored c l ticket h ss l' ss'
        → ((b : LedgerBook) → Agrees c l ss b → sending b longest due r ≡ stored b.next)
        → Sends c l ticket r longest due e m out ss (Ok (record { stat_sn = l.next; ledger = Some l' })) (h ++ drop 48 out) ss'
    unfolding send_bytes
    sends-stored l' ss' s k q = record {
      meets = λ b g. record {
        answer = ap stored g.next ∙ sym (q b g);
        bytes = rw (q b g) (ap (λ (x : List ℕ). x ++ drop 48 out) (right b g));
        agrees = subst (λ (x : List ℕ). Agrees c l' ss' (sent b (record { header = x; ticket = ticket }))) (right b g) (k.agrees b g);
      };
      others = k.others;
      headers_size = k.headers_size;
      tickets_size = k.tickets_size;
      stays = (s, subst (λ (x : List ℕ). Puts c l.next ticket x ss ss') (sym (take_at h (drop 48 out) 48 z)) k.puts);
      out_size = headed-size h out z long;
      out_rest = headed-rest h out z;
    }
