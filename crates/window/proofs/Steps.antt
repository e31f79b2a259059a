-- What the steps of the code share: the book's step known whole, where a number lies, and what the bits of a place say.
use Rattle.std.proofs.Common.{◌≡◌, ℕ, ◌+◌, ◌-◌, ◌%◌, ◌^◌, Bool, true, false, List, length, sym, refl, ap, ◌∙◌, subst, arith, eq-eqb}
use borrow.Author.Tests.{tests}
use Rattle.window.specs.Book.{Origin, none, connection, Place, empty, holds, Book, next, distance, Call, Answer, Step, step, book_step, one-if, is_from}
use Rattle.window.specs.declared.Window.{Window}
use Rattle.window.specs.Agree.{State, held_bit, origin_bit, OriginAt, Agrees, MeetsAt}

-- from the book's step, known whole
pub met : (call : Call) (s : State) (a : Answer) (o : List ℕ) (s' : State) (b b' : Book) → book_step b call ≡ step a o b' → Agrees s' b'
    → MeetsAt call s a o s' b
met call s a o s' b b' e g = record {
  answer = sym (ap (λ (x : Step). x.answer) e);
  bytes = sym (ap (λ (x : Step). x.bytes) e);
  agrees = subst (λ (x : Step). Agrees s' x.book) (sym e) g;
}

pub held_none : (p : Place) → held_bit p ≡ 0 → p ≡ empty
unfolding held_bit
held_none p h = grind arith

-- the places are as many as the slots
pub all-places : (s : State) (b : Book) → Agrees s b → length b.held ≡ 64
all-places s b g = g.size ∙ g.share

-- where a number lies, by the code's difference
abbrev pub difference : Window → ℕ → ℕ
difference w n = (n + (2 ^ 32 - w.next)) % 2 ^ 32

pub distance_is : (b : Book) (w : Window) (n : ℕ) → w.next ≡ next b → distance b n ≡ difference w n
unfolding distance
distance_is b w n e = rw e

-- ---- a place's bits

-- a 1 of a Bool
pub true-of-one : (t : Bool) → one-if t ≡ 1 → t ≡ true
true-of-one t e = grind arith

pub false-of-none : (t : Bool) → (one-if t ≡ 1 → ⊥) → t ≡ false
false-of-none t e = grind arith

pub origin-connection : (c : ℕ) (p : Place) → origin_bit c p ≡ 1 → OriginAt (connection c) p
unfolding origin_bit is_from OriginAt
origin-connection c p e = grind (arith, tests)

pub origin-none : (p : Place) → ((c : ℕ) → origin_bit c p ≡ 0) → OriginAt none p
unfolding origin_bit is_from OriginAt
origin-none empty f = tt
origin-none (holds e) f = go e.origin f
  where
    go : (o : Origin) → ((c : ℕ) → one-if (is_from c o) ≡ 0) → none ≡ o
    go none f = refl
    go (connection x) f = absurd (omega (arith, f x, ap one-if (eq-eqb x x refl)))
