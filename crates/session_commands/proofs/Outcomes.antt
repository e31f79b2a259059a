-- The book's step at an offer and at a take, by its outcome.
use Prim.Native.Nat.{ℕ, ◌≤◌}
use mathlib.Core.Path.{◌≡◌, refl, ◌∙◌}
use mathlib.Core.List.{List}
use native.Mathlib.Omega.{arith}
use lib.ListN as ListN
use lib.ListN.{length}
use Rattle.request_header.specs.declared.Limits.{Limits}
use Rattle.request_header.specs.Request.{limits, read_pdu}
use Rattle.request_header.specs.Request as Read
use Rattle.request_header.proofs.Reading.{got-long}
use Rattle.window.specs.Book as W
use Rattle.ledger.specs.declared.Ledger.{Ledger}
use Rattle.book.specs.Book.{Offered, denied, at_once, numbered, offered_as, Book, Outputs, no_outputs, offer, take, Choice, refused, immediate, step, by_window, on_connection, lending, offer_by, book_step}
use Rattle.session_state.specs.Reach.{IsOpen}
use Rattle.session_state.specs.Agree.{State, Agrees}
use Rattle.session_state.proofs.Steps.{reach-open, open_at}

pub offer-eq : (b : Book) (c t : ℕ) (p : List ℕ) (x : Choice)
    → book_step b (offer c t p) x ≡ on_connection b c no_outputs (λ k. offer_by b c t p (offered_as (read_pdu k.limits p)))
unfolding book_step
offer-eq b c t p x = refl

pub take-eq : (b : Book) (o : Outputs) (x : Choice) → book_step b (take o) x ≡ lending b o (by_window b (W.book_step b.window (W.take o.header)))
unfolding book_step
take-eq b o x = refl

pub offer-open : (s : State) (b : Book) (c t : ℕ) (p : List ℕ) (l : Ledger) (y : Offered) (x : Choice) → Agrees s b → IsOpen s.session c l
    → y ≡ offered_as (read_pdu limits p) → book_step b (offer c t p) x ≡ offer_by b c t p y
unfolding book_step
offer-open s b c t p l y x g i h =
    let v = open_at s b c l g i in
    reach-open b c no_outputs (λ q. offer_by b c t p (offered_as (read_pdu q.limits p))) v.book v.near v.is ∙ rw (v.agrees.limits, ← h)

pub offer-refused : (b : Book) (c t n : ℕ) (p : List ℕ) → offer_by b c t p (denied n) ≡ step (refused n) no_outputs b
unfolding offer_by
offer-refused b c t n p = refl

pub offer-immediate : (b : Book) (c t : ℕ) (p : List ℕ) → offer_by b c t p at_once ≡ step immediate no_outputs b
unfolding offer_by
offer-immediate b c t p = refl

pub offer-numbered : (b : Book) (c t n : ℕ) (p : List ℕ) → offer_by b c t p (numbered n) ≡ by_window b (W.book_step b.window (W.offer n t c (ListN.take 48 p)))
unfolding offer_by
offer-numbered b c t n p = refl

pub numbered-long : (m : Limits) (p : List ℕ) (n : ℕ) → numbered n ≡ offered_as (read_pdu m p) → 48 ≤ length p
numbered-long m p n e = go (read_pdu m p) refl e
  where
    go : (r : Read.Answer) → read_pdu m p ≡ r → numbered n ≡ offered_as r → 48 ≤ length p
    go (Read.refused k) q e = let z : ◌≡◌ {A = ℕ} 0 1 = cc in absurd (omega arith)
    go (Read.got x) q e = got-long m p x q
