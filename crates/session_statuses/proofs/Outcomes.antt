-- The book's step at an acknowledgement, and at a resend above level 0, by what the ledger did.
use Prim.Native.Nat.{ℕ, ◌≤◌, ◌<◌}
use mathlib.Core.Path.{◌≡◌, refl, ◌∙◌}
use native.Mathlib.Omega.{arith}
use mathlib.Core.List.{List}
use borrow.Author.Tests.{ne_eqb}
use lib.ListN.{length}
use Rattle.std.specs.Prelude.{Option, Some, None}
use Rattle.std.specs.Option.{ok_or}
use Rattle.refusal.specs.declared.Refusal.TheVariants as F
use Rattle.task_book.specs.Record.{Record}
use Rattle.ledger.specs.Book as L
use Rattle.ledger.specs.Agree as LA
use Rattle.ledger.specs.Answer as Answers
use Rattle.ledger.specs.declared.Renewal.{Renewal}
use Rattle.book.specs.Book.{OpenConnection, with_ledger, live, Book, Outputs, outputs, no_outputs, written, acknowledge, resend, Choice, refused, acknowledged, resent, step, with_conn, on_connection, lending, acknowledge_by, conn_of, renewal, shown, resend_by, book_step}
use Rattle.window.specs.Agree.{Commands}
use Rattle.ledger.specs.Agree.{Statuses}
use Rattle.ledger.specs.declared.Ledger.{Ledger}
use Rattle.ledger.specs.declared.Released.{Released}
use Rattle.session_state.specs.declared.Session.{Session}
use Rattle.session_state.specs.Reach.{IsOpen}
use Rattle.session_state.specs.Agree.{Agrees, Did, state}
use Rattle.session_state.proofs.Steps.{met, as_lent, refusing, lend-long, reach-open, open_at, ledger-set}
use Rattle.session_statuses.specs.Answer.{acknowledge_answer, after_acknowledge, resend_answer}

-- ---- each call, by its connection

pub acknowledge-eq : (b : Book) (c e : ℕ) (x : Choice) → book_step b (acknowledge c e) x ≡ on_connection b c no_outputs (acknowledge_by b c e)
unfolding book_step
acknowledge-eq b c e x = refl

pub resend-eq : (b : Book) (c n : ℕ) (y : Record) (o : Outputs) (x : Choice)
    → book_step b (resend c n y o) x ≡ lending b o (on_connection b c o (resend_by b n y o))
unfolding book_step
resend-eq b c n y o x = refl

-- ---- resend

module _ (b : Book) (y : Record) (o : List ℕ) (x : Renewal) where
  pub shown-missing : (f : L.Found) (z : List ℕ) → ◌≡◌ {A = LA.Showing} (record { answer = Answers.refused 12; bytes = z }) (LA.showing f x o)
      → shown b y (outputs o) f ≡ step (refused 12) (outputs o) b
  unfolding shown LA.showing
  shown-missing f z q = grind arith

  pub shown-found : (f : L.Found) (t : ℕ) (z : List ℕ) → ◌≡◌ {A = LA.Showing} (record { answer = Answers.resent t; bytes = z }) (LA.showing f x o)
      → x ≡ renewal b y → shown b y (outputs o) f ≡ step (resent t) (outputs z) b
  unfolding shown written LA.showing
  shown-found f t z q e = grind arith

module _ (b : Book) (c n : ℕ) (y : Record) (o : List ℕ) (x : Choice) (k : OpenConnection) (long : 48 ≤ length o) (near : c < 4)
    (is : conn_of b c ≡ live k) where
  resend-at : book_step b (resend c n y (outputs o)) x ≡ resend_by b n y (outputs o) k
  resend-at = resend-eq b c n y (outputs o) x ∙ lend-long b (outputs o) _ long ∙ reach-open b c (outputs o) _ k near is

  pub resend-some : (b.given.level ≡ 0 → ⊥) → book_step b (resend c n y (outputs o)) x ≡ shown b y (outputs o) (L.status_of k.ledger n)
  unfolding resend_by
  resend-some e = resend-at ∙ rw (ne_eqb b.given.level 0 e)

-- what the ledger did is what the session's step does
module _ (s : Session) (cs : Commands) (ss : Statuses) (c n : ℕ) (y : Record) (l : Ledger) (i : IsOpen s c l) (o : List ℕ) (long : 48 ≤ length o) where
  pub resends : (s.level ≡ 0 → ⊥) → (x : Renewal) → ((b : Book) → Agrees (state s cs ss) b → x ≡ renewal b y) → (o' : List ℕ) (r : Option ℕ)
      → LA.Resends c l n x ss o r o'
      → Did (resend c n y (outputs o)) (state s cs ss) (resend_answer (ok_or r F.Snack)) (outputs o') (state s cs ss)
  resends z x e o' None d = rw d.stays (refusing _ _ 12 (outputs o) refl (λ b g.
      let v = open_at (state s cs ss) b c l g i in
      resend-some b c n y o _ v.book long v.near v.is (λ q. z (g.level ∙ q))
      ∙ shown-missing b y o x (L.status_of v.book.ledger n) o' (d.meets v.book.ledger v.agrees.ledger)))
  resends z x e o' (Some t) d = record {
    meets = λ b g.
        let v = open_at (state s cs ss) b c l g i in
        met _ _ _ _ _ b b
        (resend-some b c n y o _ v.book long v.near v.is (λ q. z (g.level ∙ q))
        ∙ shown-found b y o x (L.status_of v.book.ledger n) t o' (d.meets v.book.ledger v.agrees.ledger) (e b g)) g;
    stays = refl;
    keeps = record { size = d.out_size; rest = d.out_rest };
  }

-- ---- acknowledge

module _ (b : Book) (c e : ℕ) (k : OpenConnection) where
  pub acknowledge-stale : Answers.refused 11 ≡ Answers.acknowledging k.ledger e → acknowledge_by b c e k ≡ step (refused 11) no_outputs b
  unfolding acknowledge_by Answers.acknowledging
  acknowledge-stale q = grind arith

  pub acknowledge-good : (n : ℕ) → Answers.acknowledged n ≡ Answers.acknowledging k.ledger e
      → acknowledge_by b c e k ≡ step (acknowledged n) no_outputs (with_conn b c (live (with_ledger k (L.released k.ledger e))))
  unfolding acknowledge_by Answers.acknowledging
  acknowledge-good n q = grind arith

module _ (s : Session) (cs : Commands) (ss : Statuses) (c e : ℕ) (l : Ledger) (i : IsOpen s c l) where
  pub acknowledges : (r : Option Released) → ((b : L.LedgerBook) → LA.Agrees c l ss b → LA.AcknowledgesAt c ss r b e)
      → Did (acknowledge c e) (state s cs ss) (acknowledge_answer (ok_or r F.Stale)) no_outputs (state (after_acknowledge s c (ok_or r F.Stale)) cs ss)
  acknowledges None d = refusing _ _ 11 no_outputs refl (λ b g.
      let v = open_at (state s cs ss) b c l g i in
      acknowledge-eq b c e _ ∙ reach-open b c no_outputs _ v.book v.near v.is
      ∙ acknowledge-stale b c e v.book (d v.book.ledger v.agrees.ledger).answer)
  acknowledges (Some x) d = record {
    meets = λ b g.
        let v = open_at (state s cs ss) b c l g i in
        let k = d v.book.ledger v.agrees.ledger in
        met _ _ _ _ _ b _
        (acknowledge-eq b c e _ ∙ reach-open b c no_outputs _ v.book v.near v.is ∙ acknowledge-good b c e v.book x.count k.answer)
        (ledger-set _ ss b c _ _ _ g i v k.agrees (λ j m q n a. a) g.statuses_size g.tickets_size);
    stays = tt;
    keeps = as_lent refl;
  }
