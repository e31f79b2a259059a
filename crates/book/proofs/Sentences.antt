-- The sentences of demand 3 hold of every list of calls that the book answers, from a fresh session. The invariant `Inv` ties the
-- book to the history; each call carries it on (`inv-step`), and gives the sentences of the next call (`says`).
use Prim.Native.Nat.{ℕ, ◌+◌, ◌-◌, ◌^◌, ◌≤◌, ◌<◌, min}
use mathlib.Core.Path.{◌≡◌, refl, sym, ap, ap₂, ◌∙◌, subst}
use mathlib.Core.Bool.{Bool, true, false, not, ◌&&◌}
use mathlib.Core.List.{List, [], ◌∷◌, ◌++◌}
use mathlib.Core.Logic.{⊎_elim}
use native.Mathlib.Omega.{arith}
use native.Mathlib.Decide.{dec_lt}
use borrow.Author.Tests.{tests, lt-ltb, le-ltb, lt-leb, ne_eqb, leb-true}
use lib.Dec.{ltb, leb, eqb}
use lib.ListN as ListN
use lib.ListN.{length, get_or, set, drop, length-append, length-drop, get_or-eq_default, get_or-append}
use lib.Seq.{take_at, get_or-append-add, get_or-drop}
use Rattle.field.specs.Field.{pick, bytes_of}
use Rattle.request_header.specs.Request.{read_pdu}
use Rattle.request_header.specs.Request as Read
use Rattle.response_header.specs.Response.{is_too_long}
use Rattle.task_book.specs.Record.{Record}
use Rattle.response_header.specs.declared.Response.{Response}
use Rattle.window.specs.Book as W
use Rattle.window.specs.Book.{Place, empty, holds, Command, connection}
use Rattle.ledger.specs.Book as L
use Rattle.book.specs.declared.Given.{Given}
use Rattle.book.specs.declared.Opening.{Opening}
use Rattle.book.specs.Book.{Offered, offered_as, OpenConnection, with_ledger, Connection, closed, live, Book, share, fresh_book, Outputs, no_outputs, written, Choice, Call, offer, take, logout, opening, send, acknowledge, snack, resend, Transfer, data_in, r2t, data_out, data_snack, transfer, ask, window_numbers, holder, refused, window, from_window, acknowledged, told, numbers, holding, reply_to, Step, step, conn_of, with_window, with_conn, by_window, on_open, on_connection, lending, offer_by, logged_out, logout_by, open_at, send_as, send_by, acknowledge_by, step_of_run, Asked, asked, denied_run, from, snack_by, renewal, shown, resend_by, is_due, completed, moved_by, data_out_by, data_snack_by, transfer_by, cmd_sn_of, book_step}
use Rattle.book.specs.Book.{next_stat_sn, next_is, next_of}
use Rattle.book.specs.Events.{event, Turn, booked, book_run}
use Rattle.book.specs.Effects.{WindowEffect, hands_out, ConnectionEffect, opens, closes, sends, acknowledges, window_effect, Past, nothing_done, and_then}
use Rattle.book.specs.Commands.{same, hand_outs, next, distance, among_next, among_last, Latest, latest_offer, origin_of, held, exp_cmd_sn_of, max_cmd_sn_of, voided_since, emptied}
use Rattle.book.specs.Statuses.{is_open_at, last_sent, acknowledged_since}
use Rattle.book.specs.Demand.{Takes, Offers, Shows, Resends, Holds, TellsNext, NotRefused, is_numbered_pdu, Sentences, Each, Demand3}
use Rattle.response_header.proofs.Writing.{length-header}
use Rattle.book.proofs.Renewed.{length-renewed, renewed-other, renewed-apart, renewed-data, renewed-tag, renewed-untagged, renewed-exp, renewed-max}
use Rattle.book.proofs.Small.{share-fits, by-data-out, by-snack, completed-status, IsOffered, is_denied, is_immediate, is_numbered, offered-is}
use Rattle.book.proofs.PastWindow.{AllNumbered, WindowInv, next-is, distance_is, held-is, is_held, window-quiet, window-keeps, window-hands, window-logs, window-fresh, count-is, exp-is, max-is, last-is, was-offered, place_in, place_of, header_in, ticket_in, place-first}
use Rattle.book.proofs.PastConns.{LiveOk, ConnIs, ConnInv, status_in, conn-still, conn-open, conn-send, conn-ack, conn-logs, conn-fresh}
use Rattle.book.proofs.PastNext.{NextIs, NextInv, next-still, next-open, next-send, next-ack, next-logs, next-fresh}

-- each status that was sent has a header of 48 bytes
unfoldable pub Sized : List ConnectionEffect → Type 0
Sized [] = Unit {0}
Sized (opens c o ∷ ds) = Sized ds
Sized (closes c r ∷ ds) = Sized ds
Sized (sends c m t h ∷ ds) = (length h ≡ 48) × Sized ds
Sized (acknowledges c x ∷ ds) = Sized ds
Sized (ConnectionEffect.none ∷ ds) = Sized ds

pub record Inv (g : Given) (past : Past) (b : Book) : Type 0 where
  pub given : b.given ≡ g
  pub window : WindowInv g past.window b.window
  pub conns : ConnInv past.connections b.conns
  pub next : NextInv g past.connections b.conns
  pub sized : Sized past.connections

-- ---- after each call the book is still what the history says

module _ (g : Given) (past : Past) (b : Book) (i : Inv g past b) where
  Good : Call → Step → Type 0
  Good c s = Inv g (and_then past (event c s.answer s.out)) s.book

  quiet : Inv g (record { window = WindowEffect.none ∷ past.window; connections = ConnectionEffect.none ∷ past.connections }) b
  unfolding Sized
  quiet = record {
    sized = i.sized;
    given = i.given;
    window = window-quiet i.window;
    conns = conn-still i.conns;
    next = next-still g past.connections i.next;
  }

-- a property of what a call on a connection does, of what one that lends does, and of a choice
pub by-reach : (P : Step → Type 0) (b : Book) (c : ℕ) (o : Outputs) (f : OpenConnection → Step) → P (step (refused 7) o b) → P (step (refused 8) o b)
    → (c < 4 → (k : OpenConnection) → conn_of b c ≡ live k → P (f k)) → P (on_connection b c o f)
unfolding on_connection on_open
by-reach P b c o f far shut k = go (dec_lt c 4)
  where
    at : (x : Connection) → conn_of b c ≡ x → c < 4 → P (on_open x b o f)
    at closed e l = shut
    at (live q) e l = k l q e

    go : Dec (c < 4) → P (pick (ltb c 4) (on_open (conn_of b c) b o f) (step (refused 7) o b))
    go (yes l) = rw (lt-ltb c 4 l) (at (conn_of b c) refl l)
    go (no l) = rw (le-ltb c 4 (omega arith)) far

pub by-lend : (P : Step → Type 0) (b : Book) (o : Outputs) (s : Step) → P (step (refused 1) o b) → (48 ≤ length o.header → P s) → P (lending b o s)
unfolding lending
by-lend P b o s short f = go (dec_lt (length o.header) 48)
  where
    go : Dec (length o.header < 48) → P (pick (ltb (length o.header) 48) (step (refused 1) o b) s)
    go (yes l) = rw (lt-ltb (length o.header) 48 l) short
    go (no l) = let m : 48 ≤ length o.header = omega arith in rw (le-ltb (length o.header) 48 m) (f m)

-- "Data calls may stand anywhere .. and change nothing in the book."
pub transfer-leaves : (b : Book) (c : ℕ) (y : Record) (d : Transfer) → (transfer_by b c y d).book ≡ b
unfolding transfer_by moved_by
transfer-leaves b c y (data_in f a n o) =
    by-lend (λ s. s.book ≡ b) b o _ refl (λ long. by-reach (λ s. s.book ≡ b) b c o _ refl refl (λ l k e. go (is_too_long k.longest n) _ refl))
  where
    go : (u : Bool) (s : Step) → s.book ≡ b → (pick u (step (refused 5) o b) s).book ≡ b
    go true s q = refl
    go false s q = q
transfer-leaves b c y (r2t t n o) = by-lend (λ s. s.book ≡ b) b o _ refl (λ long. by-reach (λ s. s.book ≡ b) b c o _ refl refl (λ l k e. refl))
transfer-leaves b c y (data_out p) = by-reach (λ s. s.book ≡ b) b c no_outputs _ refl refl (λ l k e. go k (read_pdu k.limits p))
  where
    go : (k : OpenConnection) (a : Read.Answer) → (data_out_by b y k a).book ≡ b
    go k (Read.refused n) = refl
    go k (Read.got q) = by-data-out (λ s. s.book ≡ b) _ _ (λ x. refl) refl q.request
transfer-leaves b c y (data_snack f p) = by-reach (λ s. s.book ≡ b) b c no_outputs _ refl refl (λ l k e. go k (read_pdu k.limits p))
  where
    go : (k : OpenConnection) (a : Read.Answer) → (data_snack_by b y f k a).book ≡ b
    go k (Read.refused n) = refl
    go k (Read.got q) = by-snack (λ s. s.book ≡ b) _ _ (λ x. refl) refl q.request

-- what the outcome of a send says
record Stored (q : L.LedgerBook) (r : Response) (n : ℕ) : Type 0 where
  pub status : L.is_status r ≡ true
  pub number : n ≡ q.next
  pub room : length q.held < 32

stored_is : (q : L.LedgerBook) (longest : ℕ) (due : Bool) (r : Response) (n : ℕ) → L.sending q longest due r ≡ L.stored n → Stored q r n
unfolding L.sending L.is_full
stored_is q longest due r n e = grind (arith, tests)

unstored-is : (q : L.LedgerBook) (longest : ℕ) (due : Bool) (r : Response) (n : ℕ) → L.sending q longest due r ≡ L.not_stored n → L.is_status r ≡ false
unfolding L.sending
unstored-is q longest due r n e = grind arith

length-for : (q : L.LedgerBook) (r : Response) (e m : ℕ) → length (L.header_for q r e m) ≡ 48
unfolding L.header_for
length-for q r e m = length-header r (record { stat_sn = q.next; exp_cmd_sn = e; max_cmd_sn = m })

module _ (g : Given) (past : Past) (b : Book) (i : Inv g past b) where
  offer-good : (c t : ℕ) (p : List ℕ) → Good g past b i (offer c t p) (by_window b (W.book_step b.window (W.offer (cmd_sn_of p) t c (ListN.take 48 p))))
  unfolding Good by_window with_window W.book_step W.offer_step W.offer_at Sized
  offer-good c t p = near (dec_lt (W.distance w n) w.share)
    where
      w : W.Book
      w = b.window

      n : ℕ
      n = cmd_sn_of p

      e : Command
      e = record { header = ListN.take 48 p; ticket = t; origin = connection c; void = false }

      Q : W.Step → Type 0
      Q s = Good g past b i (offer c t p) (by_window b s)

      far : (u : Bool) → Q (W.step (pick u W.passed W.beyond) [] w)
      far true = quiet g past b i
      far false = quiet g past b i

      at : (x : Place) → get_or w.held (W.distance w n) empty ≡ x → W.distance w n < w.share → Q (W.offer_at x w (W.distance w n) e)
      at empty q l = record {
        sized = i.sized;
        given = i.given;
        window = window-keeps g past.window w n c t (ListN.take 48 p) i.window (omega (arith, i.window.share)) q;
        conns = conn-still i.conns;
        next = next-still g past.connections i.next;
      }
      at (holds x) q l = quiet g past b i

      near : Dec (W.distance w n < w.share) → Q (W.offer_step w (W.distance w n) e)
      near (yes l) = rw (lt-ltb (W.distance w n) w.share l) (at (get_or w.held (W.distance w n) empty) refl l)
      near (no l) = rw (le-ltb (W.distance w n) w.share (omega arith)) (far (W.was_handed_out w (W.distance w n)))

  offer-by : (c t : ℕ) (p : List ℕ) {x : Offered} → IsOffered p x → Good g past b i (offer c t p) (offer_by b c t p x)
  unfolding Good offer_by
  offer-by c t p (is_denied n) = quiet g past b i
  offer-by c t p (is_immediate e) = quiet g past b i
  offer-by c t p (is_numbered e) = offer-good c t p

  take-good : (o : Outputs) → Good g past b i (take o) (by_window b (W.book_step b.window (W.take o.header)))
  unfolding Good by_window with_window W.book_step W.take_step Sized
  take-good o = at (W.first_place b.window) refl
    where
      hand : (e : Command) → W.first_place b.window ≡ holds e
          → Inv g (record { window = hands_out (W.next b.window) ∷ past.window; connections = ConnectionEffect.none ∷ past.connections })
          (with_window b (W.handed_on b.window))
      hand e q = record {
        sized = i.sized;
        given = i.given;
        window = window-hands g past.window b.window e i.window q;
        conns = conn-still i.conns;
        next = next-still g past.connections i.next;
      }

      at : (x : Place) → W.first_place b.window ≡ x → Good g past b i (take o) (by_window b (W.take_step x b.window o.header))
      at empty q = quiet g past b i
      at (holds e) q = go e.void
        where
          go : (u : Bool) → Good g past b i (take o) (by_window b (pick u (W.step (W.void (W.next b.window)) o.header (W.handed_on b.window))
              (W.step (W.command (W.next b.window) e.ticket e.origin) (e.header ++ drop 48 o.header) (W.handed_on b.window))))
          go true = hand e q
          go false = hand e q

  -- each number below 4 has a place in the book's list of connections
  within-four : (c : ℕ) → c < 4 → c < length b.conns
  within-four c l = omega (arith, i.conns.four)

  logout-good : (c r : ℕ) → c < 4 → Good g past b i (logout c r) (logout_by b c r)
  unfolding Good logout_by logged_out W.book_step W.logout_step Sized
  logout-good c r l = go (leb r 2)
    where
      go : (u : Bool) → Good g past b i (logout c r) (pick u (logged_out b c r (W.book_step b.window (W.logout c r))) (step (refused 3) no_outputs b))
      go true = record {
        sized = i.sized;
        given = i.given;
        window = window-logs g past.window b.window c r _ i.window;
        conns = conn-logs past.connections b.conns c r i.conns l;
        next = next-logs g past.connections b.conns c r i.next (within-four c l);
      }
      go false = quiet g past b i

  open-good : (c : ℕ) (o : Opening) → Good g past b i (opening c o) (pick (ltb c 4) (open_at (conn_of b c) b c o) (step (refused 7) no_outputs b))
  unfolding Good open_at with_conn Sized
  open-good c o = go (dec_lt c 4)
    where
      at : (x : Connection) → c < 4 → Good g past b i (opening c o) (open_at x b c o)
      at closed l = record {
        sized = i.sized;
        given = i.given;
        window = window-quiet i.window;
        conns = conn-open past.connections b.conns c o i.conns l;
        next = next-open g past.connections b.conns c o i.next (within-four c l);
      }
      at (live q) l = quiet g past b i

      go : Dec (c < 4) → Good g past b i (opening c o) (pick (ltb c 4) (open_at (conn_of b c) b c o) (step (refused 7) no_outputs b))
      go (yes l) = rw (lt-ltb c 4 l) (at (conn_of b c) l)
      go (no l) = rw (le-ltb c 4 (omega arith)) (quiet g past b i)

  send-good : (c t : ℕ) (r : Response) (y : Record) (h : List ℕ) (o : Outputs) (k : OpenConnection) → c < 4 → conn_of b c ≡ live k → length h ≡ 48
      → (x : L.Sending) → L.sending k.ledger k.longest (is_due y r) (completed y r) ≡ x → Good g past b i (send c t r y o) (send_as b c t h o k x)
  unfolding Good send_as written with_conn conn_of Sized
  send-good c t r y h o k l e s (L.refused n) q = quiet g past b i
  send-good c t r y h o k l e s (L.not_stored n) q =
      rw (← (completed-status y r), unstored-is k.ledger k.longest (is_due y r) (completed y r) n q) (quiet g past b i)
  send-good c t r y h o k l e s (L.stored n) q =
      let m = stored_is k.ledger k.longest (is_due y r) (completed y r) n q in
      rw (← (completed-status y r), m.status, m.number, take_at h (drop 48 o.header) 48 s) (record {
        sized = (s, i.sized);
        given = i.given;
        window = window-quiet i.window;
        conns = conn-send past.connections b.conns c t h k i.conns l e m.room;
        next = next-send g past.connections b.conns c k.ledger.next t h (record { header = h; ticket = t }) k i.next (within-four c l) e;
      })

  acknowledge-good : (c x : ℕ) (k : OpenConnection) → c < 4 → conn_of b c ≡ live k → Good g past b i (acknowledge c x) (acknowledge_by b c x k)
  unfolding Good acknowledge_by with_conn conn_of Sized
  acknowledge-good c x k l e = go (L.is_good q x) refl
    where
      q : L.LedgerBook
      q = k.ledger

      good-le : L.is_good q x ≡ true → L.place q x ≤ length q.held
      good-le z = unfold L.is_good in (leb-true (L.place q x) (length q.held) z)

      go : (u : Bool) → L.is_good q x ≡ u
          → Good g past b i (acknowledge c x) (pick u (step (acknowledged (L.place q x)) no_outputs (with_conn b c (live (with_ledger k (L.released q x)))))
          (step (refused 11) no_outputs b))
      go true z = record {
        sized = i.sized;
        given = i.given;
        window = window-quiet i.window;
        conns = conn-ack past.connections b.conns c x k i.conns l e (good-le z);
        next = next-ack g past.connections b.conns c x k i.next (within-four c l) e;
      }
      go false z = quiet g past b i

  snack-good : (c : ℕ) (p : List ℕ) (q : L.LedgerBook) (x : Asked) → Good g past b i (snack c p) (snack_by b q x)
  unfolding Good snack_by step_of_run
  snack-good c p q (denied_run n) = quiet g past b i
  snack-good c p q (from f n) = go (L.run_of q f n)
    where
      go : (y : L.Run) → Good g past b i (snack c p) (step_of_run b y)
      go L.not_held = quiet g past b i
      go (L.run h m) = quiet g past b i

  resend-good : (c n : ℕ) (y : Record) (o : Outputs) (k : OpenConnection) → Good g past b i (resend c n y o) (resend_by b n y o k)
  unfolding Good resend_by shown
  resend-good c n y o k = go (eqb b.given.level 0) (L.status_of k.ledger n)
    where
      go : (u : Bool) (z : L.Found) → Good g past b i (resend c n y o) (pick u (step (refused 12) o b) (shown b y o z))
      go true z = quiet g past b i
      go false L.missing = quiet g past b i
      go false (L.found s) = quiet g past b i

  step-good : (c : Call) (x : Choice) → Good g past b i c (book_step b c x)
  unfolding Good book_step send_by
  step-good (offer c t p) x =
      by-reach (Good g past b i (offer c t p)) b c no_outputs (λ k. offer_by b c t p (offered_as (read_pdu k.limits p))) (quiet g past b i) (quiet g past b i)
      (λ l k e. offer-by c t p (offered-is k.limits p))
  step-good (take o) x = by-lend (Good g past b i (take o)) b o (by_window b (W.book_step b.window (W.take o.header))) (quiet g past b i) (λ l. take-good o)
  step-good (logout c r) x =
      by-reach (Good g past b i (logout c r)) b c no_outputs (λ k. logout_by b c r) (quiet g past b i) (quiet g past b i) (λ l k e. logout-good c r l)
  step-good (opening c o) x = open-good c o
  step-good (send c t r y o) x =
      by-lend (Good g past b i (send c t r y o)) b o (on_connection b c o (send_by b c t r y o)) (quiet g past b i) (λ long.
      by-reach (Good g past b i (send c t r y o)) b c o (send_by b c t r y o) (quiet g past b i) (quiet g past b i)
      (λ l k e. send-good c t r y (L.header_for k.ledger (completed y r) (W.exp_cmd_sn_of b.window) (W.max_cmd_sn_of b.window)) o k l e
      (length-for k.ledger (completed y r) (W.exp_cmd_sn_of b.window) (W.max_cmd_sn_of b.window))
      (L.sending k.ledger k.longest (is_due y r) (completed y r)) refl))
  step-good (acknowledge c x) y =
      by-reach (Good g past b i (acknowledge c x)) b c no_outputs (acknowledge_by b c x) (quiet g past b i) (quiet g past b i)
      (λ l k e. acknowledge-good c x k l e)
  step-good (snack c p) x =
      by-reach (Good g past b i (snack c p)) b c no_outputs (λ k. snack_by b k.ledger (asked b.given.level (read_pdu k.limits p))) (quiet g past b i)
      (quiet g past b i)
      (λ l k e. snack-good c p k.ledger (asked b.given.level (read_pdu k.limits p)))
  step-good (resend c n y o) x =
      by-lend (Good g past b i (resend c n y o)) b o (on_connection b c o (resend_by b n y o)) (quiet g past b i) (λ long.
      by-reach (Good g past b i (resend c n y o)) b c o (resend_by b n y o) (quiet g past b i) (quiet g past b i) (λ l k e. resend-good c n y o k))
  step-good (transfer c y d) x = rw (transfer-leaves b c y d) (quiet g past b i)
  step-good (ask q) x = quiet g past b i

  pub inv-step : (t : Turn) → Inv g (and_then past (booked b t)) (book_step b t.call t.choice).book
  unfolding Good booked
  inv-step t = step-good t.call t.choice

sent-size : (ds : List ConnectionEffect) (c n : ℕ) (s : L.Status) → Sized ds → last_sent ds c n ≡ L.found s → length s.header ≡ 48
unfolding Sized last_sent
sent-size [] c n s z q = absurd cc
sent-size (closes d r ∷ ds) c n s z q = sent-size ds c n s z q
sent-size (opens d o ∷ ds) c n s z q = go (eqb c d) q (λ x. sent-size ds c n s z x)
  where
    go : (u : Bool) → pick u L.missing (last_sent ds c n) ≡ L.found s → (last_sent ds c n ≡ L.found s → length s.header ≡ 48) → length s.header ≡ 48
    go true q k = absurd cc
    go false q k = k q
sent-size (sends d m t h ∷ ds) c n s z q = go (eqb c d && same n m) q (λ x. sent-size ds c n s z.1 x)
  where
    found : {a b : L.Status} → L.found a ≡ L.found b → a ≡ b
    found p = cc

    go : (u : Bool) → pick u (L.found (record { header = h; ticket = t })) (last_sent ds c n) ≡ L.found s
        → (last_sent ds c n ≡ L.found s → length s.header ≡ 48)
        → length s.header ≡ 48
    go true q k = ap (λ (x : L.Status). length x.header) (sym (found q)) ∙ z.0
    go false q k = k q
sent-size (acknowledges d x ∷ ds) c n s z q = sent-size ds c n s z q
sent-size (ConnectionEffect.none ∷ ds) c n s z q = sent-size ds c n s z q

later-bytes : (x o : List ℕ) (j : ℕ) → length x ≡ 48 → 48 ≤ j → get_or (x ++ drop 48 o) j 0 ≡ get_or o j 0
later-bytes x o j k l =
    let e : length x + (j - 48) ≡ j = omega arith in
    let e' : 48 + (j - 48) ≡ j = omega arith in
    ap (λ (n : ℕ). get_or (x ++ drop 48 o) n 0) (sym e) ∙ get_or-append-add x (drop 48 o) (j - 48) 0 ∙ get_or-drop 48 o (j - 48) 0
    ∙ ap (λ (n : ℕ). get_or o n 0) e'

-- ---- the sentences

-- the four answers to a numbered offer, by the three notions that tell them apart
module _ (g : Given) (ds : List WindowEffect) (n : ℕ) where
  offers-kept : among_next g ds n ≡ true → held g ds n ≡ false → among_last (2 ^ 31) ds n ≡ false → Offers g ds n (window W.kept)
  offers-kept a h l = grind arith

  offers-duplicate : among_next g ds n ≡ true → held g ds n ≡ true → among_last (2 ^ 31) ds n ≡ false → Offers g ds n (window W.duplicate)
  offers-duplicate a h l = grind arith

  offers-passed : among_next g ds n ≡ false → held g ds n ≡ false → among_last (2 ^ 31) ds n ≡ true → Offers g ds n (window W.passed)
  offers-passed a h l = grind arith

  offers-beyond : among_next g ds n ≡ false → held g ds n ≡ false → among_last (2 ^ 31) ds n ≡ false → Offers g ds n (window W.beyond)
  offers-beyond a h l = grind arith

within : (g : Given) (ds : List WindowEffect) (w : W.Book) (n : ℕ) → WindowInv g ds w → held g ds n ≡ true → among_next g ds n ≡ true
unfolding among_next is_held
within g ds w n i h = go (dec_lt (W.distance w n) (share g))
  where
    go : Dec (W.distance w n < share g) → ltb (distance g ds n) (share g) ≡ true
    go (yes l) = rw (distance_is g ds w n i) (lt-ltb (W.distance w n) (share g) l)
    go (no l) =
        absurd (cc (h, held-is g ds w n i ∙ ap is_held (get_or-eq_default w.held empty {n = W.distance w n} (omega (arith, i.size)))))

-- of the window alone
module _ (g : Given) (ds : List WindowEffect) (b : Book) (i : WindowInv g ds b.window) where
  takes_at : (o : List ℕ) (h u : Bool) → held g ds (next g ds) ≡ h → voided_since g ds (next g ds) ≡ u
      → Takes g ds o (by_window b (W.take_step (place_of h (latest_offer ds (next g ds)) (origin_of ds (next g ds)) u) b.window o)).answer
      (by_window b (W.take_step (place_of h (latest_offer ds (next g ds)) (origin_of ds (next g ds)) u) b.window o)).out.header
  unfolding by_window W.take_step place_of
  takes_at o false u p q = record {
    nothing = λ e. (refl, refl);
    void = λ e. absurd (cc (e, p));
    command = λ e. absurd (cc (e, p));
    offered = λ e. absurd (cc (e, p));
  }
  takes_at o true true p q =
      let n = next-is g ds b.window i in
      record {
        nothing = λ e. absurd (cc (p, e));
        void = λ e s. (ap (λ (x : ℕ). window (W.void x)) (sym n), refl);
        command = λ e s. absurd (cc (q, s));
        offered = λ e l. was-offered g ds (next g ds) e l;
      }
  takes_at o true false p q =
      let n = next-is g ds b.window i in
      record {
        nothing = λ e. absurd (cc (p, e));
        void = λ e s. absurd (cc (s, q));
        command = λ e s c t h l.
            (ap₂ (λ (x y : ℕ). window (W.command x y (origin_of ds (next g ds)))) (sym n) (ap ticket_in l), ap (λ (x : Latest). header_in x ++ drop 48 o) l);
        offered = λ e l. was-offered g ds (next g ds) e l;
      }

  takes-for : (o : Outputs) (x : Choice) → 48 ≤ length o.header → Takes g ds o.header (book_step b (take o) x).answer (book_step b (take o) x).out.header
  unfolding book_step lending W.book_step place_in
  takes-for o x l =
      rw (le-ltb (length o.header) 48 l, ← (place-first g ds b.window i))
      (takes_at o.header (held g ds (next g ds)) (voided_since g ds (next g ds)) refl refl)

  takes-short : (o : Outputs) (x : Choice) → length o.header < 48 → ((book_step b (take o) x).answer ≡ refused 1) × ((book_step b (take o) x).out ≡ o)
  unfolding book_step lending
  takes-short o x l = rw (lt-ltb (length o.header) 48 l) (refl, refl)

  -- who holds a number, by what the history says of its place
  holds_at : (n : ℕ) (h u : Bool) → held g ds n ≡ h → voided_since g ds n ≡ u
      → Holds g ds n (told (holding (W.holder_at (place_of h (latest_offer ds n) (origin_of ds n) u))))
  unfolding W.holder_at place_of
  holds_at n false u p q = record {
    free = (λ e. p, λ e. refl);
    void = (λ e. absurd cc, λ e. absurd (cc (e.0, p)));
    by = λ e. absurd (cc (e, p));
    offered = λ e. absurd (cc (e, p));
  }
  holds_at n true true p q = record {
    free = (λ e. absurd cc, λ e. absurd (cc (p, e)));
    void = (λ e. (p, q), λ e. refl);
    by = λ e s. absurd (cc (q, s));
    offered = λ e l. was-offered g ds n e l;
  }
  holds_at n true false p q = record {
    free = (λ e. absurd cc, λ e. absurd (cc (p, e)));
    void = (λ e. absurd cc, λ e. absurd (cc (e.1, q)));
    by = λ e s c t h l. ap (λ (x : Latest). told (holding (W.held_by (ticket_in x) (origin_of ds n)))) l;
    offered = λ e l. was-offered g ds n e l;
  }

  holds-for : (n : ℕ) (x : Choice) → Holds g ds n (book_step b (ask (holder n)) x).answer
  unfolding book_step reply_to W.holder_of place_in
  holds-for n x = rw (← (i.places n)) (holds_at n (held g ds n) (voided_since g ds n) refl refl)

  offers-at : (n : ℕ) (e : Command) → Offers g ds n (from_window (W.offer_step b.window (W.distance b.window n) e).answer)
  unfolding W.offer_step W.offer_at W.was_handed_out
  offers-at n e = near (dec_lt (W.distance w n) w.share)
    where
      w : W.Book
      w = b.window

      held_at : (x : Place) → get_or w.held (W.distance w n) empty ≡ x → held g ds n ≡ is_held x
      held_at x q = held-is g ds w n i ∙ ap is_held q

      held-empty : get_or w.held (W.distance w n) empty ≡ empty → held g ds n ≡ false
      held-empty q = unfold is_held in (held_at empty q)

      in_window : W.distance w n < w.share → among_next g ds n ≡ true
      in_window l = unfold among_next in (rw (distance_is g ds w n i, ← i.share) (lt-ltb (W.distance w n) w.share l))

      out-of-window : w.share ≤ W.distance w n → among_next g ds n ≡ false
      out-of-window l = unfold among_next in (rw (distance_is g ds w n i, ← i.share) (le-ltb (W.distance w n) w.share l))

      passes : among_last (2 ^ 31) ds n ≡ leb (2 ^ 32 - W.distance w n) (min (2 ^ 31) (hand_outs ds))
      passes = rw (← (distance_is g ds w n i)) (last-is g (2 ^ 31) ds n i.numbered (omega arith))

      not-passed : W.distance w n < w.share → among_last (2 ^ 31) ds n ≡ false
      not-passed l =
          let lt : min (2 ^ 31) (hand_outs ds) < 2 ^ 32 - W.distance w n = omega (arith, i.share, share-fits g) in
          passes ∙ lt-leb (2 ^ 32 - W.distance w n) (min (2 ^ 31) (hand_outs ds)) lt

      at : (x : Place) → get_or w.held (W.distance w n) empty ≡ x → W.distance w n < w.share
          → Offers g ds n (from_window (W.offer_at x w (W.distance w n) e).answer)
      at empty q l = offers-kept g ds n (in_window l) (unfold is_held in (held_at empty q)) (not-passed l)
      at (holds x) q l = offers-duplicate g ds n (in_window l) (unfold is_held in (held_at (holds x) q)) (not-passed l)

      far : w.share ≤ W.distance w n → (u : Bool) → among_last (2 ^ 31) ds n ≡ u → Offers g ds n (from_window (pick u W.passed W.beyond))
      far l u p = go u p
        where
          free : held g ds n ≡ false
          free = held-empty (get_or-eq_default w.held empty {n = W.distance w n} (omega (arith, i.size, i.share)))

          go : (u : Bool) → among_last (2 ^ 31) ds n ≡ u → Offers g ds n (from_window (pick u W.passed W.beyond))
          go true p = offers-passed g ds n (out-of-window l) free p
          go false p = offers-beyond g ds n (out-of-window l) free p

      handed-is : W.was_handed_out w (W.distance w n) ≡ among_last (2 ^ 31) ds n
      handed-is =
          let m : min w.handed (2 ^ 31) ≡ min (2 ^ 31) (hand_outs ds) = omega (arith, i.handed) in
          (ap (leb (2 ^ 32 - W.distance w n)) m ∙ sym passes)

      near : Dec (W.distance w n < w.share) → Offers g ds n (from_window (W.offer_step w (W.distance w n) e).answer)
      near (yes l) = rw (lt-ltb (W.distance w n) w.share l) (at (get_or w.held (W.distance w n) empty) refl l)
      near (no l) = rw (le-ltb (W.distance w n) w.share (omega arith)) (far (omega arith) (W.was_handed_out w (W.distance w n)) (sym handed-is))

module _ (g : Given) (past : Past) (b : Book) (i : Inv g past b) where
  -- a numbered offer's answer, unless it is refused
  offers-by : (c t : ℕ) (p : List ℕ) → is_numbered_pdu p ≡ true → {x : Offered} → IsOffered p x → NotRefused (offer_by b c t p x).answer
      → Offers g past.window (cmd_sn_of p) (offer_by b c t p x).answer
  unfolding is_numbered_pdu offer_by
  offers-by c t p m (is_denied n) q = absurd (q n refl)
  offers-by c t p m (is_immediate e) q = let z : not true ≡ true = rw e at m in absurd cc
  offers-by c t p m (is_numbered e) q =
      unfold by_window in (unfold W.book_step in (offers-at g past.window b i.window (cmd_sn_of p)
      (record { header = ListN.take 48 p; ticket = t; origin = connection c; void = false })))

  offers-for : (c t : ℕ) (p : List ℕ) (x : Choice) → is_numbered_pdu p ≡ true → NotRefused (book_step b (offer c t p) x).answer
      → Offers g past.window (cmd_sn_of p) (book_step b (offer c t p) x).answer
  unfolding book_step
  offers-for c t p x m =
      by-reach (λ s. NotRefused s.answer → Offers g past.window (cmd_sn_of p) s.answer) b c no_outputs
      (λ k. offer_by b c t p (offered_as (read_pdu k.limits p)))
      (λ q. absurd (q 7 refl)) (λ q. absurd (q 8 refl)) (λ l k e. offers-by c t p m (offered-is k.limits p))

  shows-at : (y : Record) (s : L.Status) (o : Outputs) → 48 ≤ length o.header → length s.header ≡ 48
      → Shows g past.window y s o.header (shown b y o (L.found s)).answer (shown b y o (L.found s)).out.header
  unfolding shown written
  shows-at y s o l z =
      let x = renewal b y in
      let k : length (L.renewed s.header x) ≡ 48 = length-renewed s.header x ∙ z in
      let at : (j : ℕ) → j < 48 → get_or (L.renewed s.header x ++ drop 48 o.header) j 0 ≡ get_or (L.renewed s.header x) j 0 =
      λ j lj. get_or-append (L.renewed s.header x) (drop 48 o.header) 0 j (omega arith) in
      record {
        ticket = refl;
        size = length-append (L.renewed s.header x) (drop 48 o.header) ∙ rw (k, length-drop) (omega arith);
        header = λ q j h lj. at j lj ∙ renewed-other s.header x q j h;
        scsi_response = λ j h lj. at j lj ∙ renewed-apart s.header x j h;
        exp_data_sn = λ q j lj. at (36 + j) (omega arith) ∙ renewed-data s.header x q z j lj;
        snack_tag = λ q t j lj. at (20 + j) (omega arith) ∙ renewed-tag s.header x q t z j lj;
        sent_tag = λ t j lj. at (20 + j) (omega arith) ∙ renewed-untagged s.header x t j lj;
        exp_cmd_sn = λ j lj.
            at (28 + j) (omega arith) ∙ renewed-exp s.header x z j lj
            ∙ ap (λ (y : ℕ). get_or (bytes_of 4 y) j 0) (sym (exp-is g past.window b.window i.window));
        max_cmd_sn = λ j lj.
            at (32 + j) (omega arith) ∙ renewed-max s.header x z j lj
            ∙ ap (λ (y : ℕ). get_or (bytes_of 4 y) j 0) (sym (max-is g past.window b.window i.window));
        later = λ j lj. later-bytes (L.renewed s.header x) o.header j k lj;
      }

  resends-at : (c n : ℕ) (y : Record) (o : Outputs) → 48 ≤ length o.header
      → Resends g past c n y o.header (shown b y o (status_in past.connections c n)).answer (shown b y o (status_in past.connections c n)).out.header
  unfolding status_in
  resends-at c n y o l = record {
    refused = ⊎_elim (λ q. missing (acknowledged_since ks c n) q) (λ q. rw q (unfold shown in (refl, refl)));
    shows = λ s q a. rw (a, q) (shows-at y s o l (sent-size ks c n s i.sized q));
  }
    where
      ks : List ConnectionEffect
      ks = past.connections

      missing : (u : Bool) → last_sent ks c n ≡ L.missing
          → ((shown b y o (pick u L.missing (last_sent ks c n))).answer ≡ refused 12) × ((shown b y o (pick u L.missing (last_sent ks c n))).out.header
          ≡ o.header)
      missing true q = unfold shown in (refl, refl)
      missing false q = rw q (unfold shown in (refl, refl))

  resends-for : (c n : ℕ) (y : Record) (o : Outputs) (x : Choice) → is_open_at past.connections c ≡ true → 0 < g.level → 48 ≤ length o.header
      → Resends g past c n y o.header (book_step b (resend c n y o) x).answer (book_step b (resend c n y o) x).out.header
  unfolding book_step lending on_connection on_open resend_by ConnIs conn_of
  resends-for c n y o x p vp long =
      let l = i.conns.near c p in
      rw (le-ltb (length o.header) 48 long, lt-ltb c 4 l) (at (conn_of b c) refl (i.conns.each c l))
    where
      at : (x : Connection) → conn_of b c ≡ x → ConnIs past.connections c (get_or b.conns c closed)
          → Resends g past c n y o.header (on_open (conn_of b c) b o (resend_by b n y o)).answer (on_open (conn_of b c) b o (resend_by b n y o)).out.header
      at closed e k = absurd (cc (p, subst (ConnIs past.connections c) e k))
      at (live q) e k =
          let ok : LiveOk past.connections c q.ledger = subst (ConnIs past.connections c) e k in
          let lv : b.given.level ≡ 0 → ⊥ = λ z. omega (arith, ap (λ (y : Given). y.level) i.given) in
          rw (e, ne_eqb b.given.level 0 lv, ← (ok.status n)) (resends-at c n y o long)

  -- the next StatSN of a connection, by its number and by what the book has of it
  next-at : (c : ℕ) → c < 4 → (x : Connection) → ConnIs past.connections c x → NextIs g past.connections c x
      → TellsNext g past.connections c (next_of x)
  unfolding next_of ConnIs NextIs
  next-at c l closed shut n = record {
    no_connection = (λ e. absurd cc, λ e. absurd (omega arith));
    closed = (λ e. (l, shut), λ e. refl);
    next = (λ e. absurd cc, λ e. absurd (cc (e, shut)));
  }
  next-at c l (live k) ok n = record {
    no_connection = (λ e. absurd cc, λ e. absurd (omega arith));
    closed = (λ e. absurd cc, λ e. absurd (cc (ok.open_now, e.1)));
    next = (λ e. ok.open_now, λ e. ap (λ (y : ℕ). told (next_is y)) n);
  }

  next-for : (c : ℕ) (x : Choice) → TellsNext g past.connections c (book_step b (ask (next_stat_sn c)) x).answer
  unfolding book_step reply_to conn_of
  next-for c x = go (dec_lt c 4)
    where
      far : 4 ≤ c → TellsNext g past.connections c (refused 7)
      far m = record {
        no_connection = (λ e. m, λ e. refl);
        closed = (λ e. absurd cc, λ e. absurd (omega (arith, e.0)));
        next = (λ e. absurd cc, λ e. absurd (omega (arith, i.conns.near c e)));
      }

      go : Dec (c < 4) → TellsNext g past.connections c (book_step b (ask (next_stat_sn c)) x).answer
      go (yes l) = rw (lt-ltb c 4 l) (next-at c l (get_or b.conns c closed) (i.conns.each c l) (i.next.each c))
      go (no l) = let m : 4 ≤ c = omega arith in rw (le-ltb c 4 m) (far m)

  pub says : (t : Turn) → Sentences g past (booked b t)
  unfolding booked AllNumbered next
  says t =
      let x = t.choice in
      let after = inv-step g past b i t in
      let ws = window_effect (booked b t) ∷ past.window in
      record {
        numbered = λ n q. (subst (λ (d : WindowEffect). AllNumbered g (d ∷ past.window)) q (unfold booked in after.window.numbered)).0;
        takes = λ o q l. subst (λ (y : Call). Takes g past.window o.header (book_step b y x).answer (book_step b y x).out.header) (sym q)
            (takes-for g past.window b i.window o x l);
        short_takes = λ o q l. subst (λ (y : Call). ((book_step b y x).answer ≡ refused 1) × ((book_step b y x).out ≡ o)) (sym q)
            (takes-short g past.window b i.window o x l);
        offers = λ k d p q m n.
            subst (λ (y : Call). NotRefused (book_step b y x).answer → Offers g past.window (cmd_sn_of p) (book_step b y x).answer) (sym q)
            (offers-for k d p x m) n;
        balance = unfold booked in (after.window.balance ∙ ap (λ (y : ℕ). hand_outs ws + y + emptied ws)
            (sym (count-is g ws (book_step b t.call x).book.window after.window)));
        within = λ n h. within g ws (book_step b t.call x).book.window n after.window h;
        resends = λ k n z o q p vp long.
            subst (λ (y : Call). Resends g past k n z o.header (book_step b y x).answer (book_step b y x).out.header) (sym q) (resends-for k n z o x p vp long);
        window_numbers = λ q. subst (λ (y : Call). (book_step b y x).answer ≡ told (numbers (exp_cmd_sn_of g past.window) (max_cmd_sn_of g past.window)))
            (sym q) window-for;
        next_stat_sn = λ k q. subst (λ (y : Call). TellsNext g past.connections k (book_step b y x).answer) (sym q) (next-for k x);
        holds = λ n q. subst (λ (y : Call). Holds g past.window n (book_step b y x).answer) (sym q) (holds-for g past.window b i.window n x);
      }
    where
      window-for : (book_step b (ask window_numbers) t.choice).answer ≡ told (numbers (exp_cmd_sn_of g past.window) (max_cmd_sn_of g past.window))
      window-for =
          unfold book_step in (unfold reply_to in (ap₂ (λ (e m : ℕ). told (numbers e m))
          (sym (exp-is g past.window b.window i.window)) (sym (max-is g past.window b.window i.window))))

-- ---- from a fresh session

pub inv-fresh : (g : Given) → Inv g nothing_done (fresh_book g)
unfolding fresh_book Sized
inv-fresh g = record { given = refl; window = window-fresh g; conns = conn-fresh g.opening; next = next-fresh g; sized = tt }

each-says : (g : Given) (ts : List Turn) (past : Past) (b : Book) → Inv g past b → Each (Sentences g) past (book_run b ts)
unfolding Each book_run
each-says g [] past b i = tt
each-says g (t ∷ ts) past b i =
    (says g past b i t, each-says g ts (and_then past (booked b t)) (book_step b t.call t.choice).book (inv-step g past b i t))

-- demand 3 of what the fresh book answers to any list of calls
pub demand3-booked : (g : Given) (ts : List Turn) → Demand3 g (book_run (fresh_book g) ts)
demand3-booked g ts = each-says g ts nothing_done (fresh_book g) (inv-fresh g)
