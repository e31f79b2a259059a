-- The book's step at a send, by its outcome.
use Prim.Native.Nat.{ℕ, ◌≤◌, ◌<◌}
use mathlib.Core.Path.{◌≡◌, refl, sym, ap, ◌∙◌}
use mathlib.Core.Bool.{Bool}
use mathlib.Core.List.{List}
use lib.ListN.{length}
use Rattle.std.specs.Prelude.{Option, Some, None, Result, Ok, Err}
use Rattle.refusal.specs.declared.Refusal.{Refusal}
use Rattle.response_header.specs.declared.Response.{Response}
use Rattle.response_header.specs.Response.{max_data_length}
use Rattle.task_book.specs.Record.{Record}
use Rattle.window.specs.Book as W
use Rattle.window.specs.Agree as WA
use Rattle.window.specs.Agree.{Commands}
use Rattle.ledger.specs.Book as L
use Rattle.ledger.specs.Agree.{Statuses, Sends}
use Rattle.ledger.specs.declared.Ledger.{Ledger}
use Rattle.ledger.specs.declared.Sent.{Sent}
use Rattle.book.specs.Book.{OpenConnection, with_ledger, live, Book, Outputs, outputs, written, send, Choice, refused, sent, step, with_conn, on_connection, lending, send_as, completed, is_due, send_by, conn_of, book_step}
use Rattle.book.proofs.Small.{completed-status}
use Rattle.session_state.specs.declared.Session.{Session}
use Rattle.session_state.specs.Reach.{IsOpen}
use Rattle.session_state.specs.Agree.{Did, state}
use Rattle.session_state.proofs.Steps.{met, refusing, lend-long, reach-open, open_at, ledger-set}
use Rattle.session_send.specs.Answer.{send_answer, after_written, after_send}

pub send-eq : (b : Book) (c t : ℕ) (r : Response) (y : Record) (o : Outputs) (x : Choice)
    → book_step b (send c t r y o) x ≡ lending b o (on_connection b c o (send_by b c t r y o))
unfolding book_step
send-eq b c t r y o x = refl

module _ (b : Book) (c t : ℕ) (r : Response) (y : Record) (o : List ℕ) (k : OpenConnection) where
  pub send_at : (x : Choice) → 48 ≤ length o → c < 4 → conn_of b c ≡ live k → book_step b (send c t r y (outputs o)) x ≡ send_by b c t r y (outputs o) k
  send_at x long near is = send-eq b c t r y (outputs o) x ∙ lend-long b (outputs o) _ long ∙ reach-open b c (outputs o) _ k near is

  -- max, due and w: the longest data, whether the response is due, and the response that is written, as the code has them
  module _ (max : ℕ) (limit : k.longest ≡ max) (due : Bool) (is : due ≡ is_due y r) (w : Response) (whole : w ≡ completed y r) where
    module _ (e m : ℕ) (x : List ℕ) (ee : e ≡ W.exp_cmd_sn_of b.window) (em : m ≡ W.max_cmd_sn_of b.window)
        (ex : x ≡ L.send_bytes (L.sending k.ledger max due w) (L.header_for k.ledger w e m) o) where
      pub send-unstored : (n : ℕ) → L.not_stored n ≡ L.sending k.ledger max due w → send_by b c t r y (outputs o) k ≡ step (sent n) (outputs x) b
      unfolding send_by send_as written L.send_bytes
      send-unstored n s = rw (limit, ex, ee, em, ← is, ← whole, ← s)

      pub send-stored : (n : ℕ) → L.stored n ≡ L.sending k.ledger max due w
          → send_by b c t r y (outputs o) k
          ≡ step (sent n) (outputs x) (with_conn b c (live (with_ledger k (L.sent k.ledger (record { header = L.header_for k.ledger w e m; ticket = t })))))
      unfolding send_by send_as written L.send_bytes
      send-stored n s = rw (limit, ex, ee, em, ← is, ← whole, ← s)

    pub send-refused : (n : ℕ) → L.refused n ≡ L.sending k.ledger max due w → send_by b c t r y (outputs o) k ≡ step (refused n) (outputs o) b
    unfolding send_by send_as
    send-refused n e = rw (limit, ← is, ← whole, ← e)

-- what is written is a status where the response that was given is one
pub status-given : (y : Record) (r w : Response) (s : Bool) → w ≡ completed y r → L.is_status w ≡ s → L.is_status r ≡ s
status-given y r w s e q = sym (completed-status y r) ∙ ap L.is_status (sym e) ∙ q

-- what the ledger did is what the session's step does
module _ (s : Session) (cs : Commands) (ss : Statuses) (c t : ℕ) (r : Response) (y : Record) (l : Ledger) (i : IsOpen s c l)
    (w : Response) (whole : w ≡ completed y r) (due : Bool) (is : due ≡ is_due y r) (max : ℕ) (limit : max ≡ max_data_length)
    (e m : ℕ) (ee : (b : W.Book) → WA.Agrees (WA.state s.window cs) b → e ≡ W.exp_cmd_sn_of b)
    (em : (b : W.Book) → WA.Agrees (WA.state s.window cs) b → m ≡ W.max_cmd_sn_of b)
    (o : List ℕ) (long : 48 ≤ length o) (o' : List ℕ) (ss' : Statuses) where
  wrote : (n : ℕ) (q : Option Ledger) → Sends c l t w max due e m o ss (Ok (record { stat_sn = n; ledger = q })) o' ss'
      → Did (send c t r y (outputs o)) (state s cs ss) (sent n) (outputs o') (state (after_written s c q) cs ss')
  wrote n None d = rw d.stays.1 (record {
    meets = λ b g.
        let v = open_at (state s cs ss) b c l g i in
        let k = d.meets v.book.ledger v.agrees.ledger in
        met _ _ _ _ _ b b
        (send_at b c t r y o v.book _ long v.near v.is
        ∙ send-unstored b c t r y o v.book max (v.agrees.longest ∙ sym limit) due is w whole e m o' (ee b.window g.window) (em b.window g.window)
        k.bytes n k.answer) g;
    stays = rw (status-given y r w _ whole d.stays.0);
    keeps = record { size = d.out_size; rest = d.out_rest };
  })
  wrote n (Some q) d = record {
    meets = λ b g.
        let v = open_at (state s cs ss) b c l g i in
        let k = d.meets v.book.ledger v.agrees.ledger in
        met _ _ _ _ _ b _
        (send_at b c t r y o v.book _ long v.near v.is
        ∙ send-stored b c t r y o v.book max (v.agrees.longest ∙ sym limit) due is w whole e m o' (ee b.window g.window) (em b.window g.window)
        k.bytes n k.answer)
        (ledger-set _ _ b c _ _ _ g i v k.agrees d.others (d.headers_size g.statuses_size) (d.tickets_size g.tickets_size));
    stays = rw (status-given y r w _ whole d.stays.0) d.stays.1;
    keeps = record { size = d.out_size; rest = d.out_rest };
  }

  pub sends : (x : Result Sent Refusal) → Sends c l t w max due e m o ss x o' ss'
      → Did (send c t r y (outputs o)) (state s cs ss) (send_answer x) (outputs o') (state (after_send s c x) cs ss')
  sends (Err f) d = rw (d.stays.0, d.stays.1) (refusing _ _ _ (outputs o) refl (λ b g.
      let v = open_at (state s cs ss) b c l g i in
      send_at b c t r y o v.book _ long v.near v.is
      ∙ send-refused b c t r y o v.book max (v.agrees.longest ∙ sym limit) due is w whole _ (d.meets v.book.ledger v.agrees.ledger).answer))
  sends (Ok x) d = wrote x.stat_sn x.ledger d
