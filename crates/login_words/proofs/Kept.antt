-- A login is what its words say: the words that `store` writes load the same one. A refusal but 6 leaves the login.
use Rattle.std.specs.Prelude.{Result, Ok, Err}
use mathlib.Core.Path.{◌≡◌, refl, sym, ap, ◌∙◌}
use mathlib.Core.Bool.{Bool, true, false, not, ◌&&◌}
use mathlib.Core.List.{List}
use Prim.Native.Nat.{ℕ, ◌<◌, ◌^◌}
use native.Mathlib.Omega.{arith}
use borrow.Author.Tests.{lt-ltb}
use lib.Dec.{eqb, ltb}
use Rattle.field.specs.Field.{pick}
use Rattle.refusal.specs.Refusal.{number}
use Rattle.words.specs.Words.{fits, flag_word}
use Rattle.words.proofs.Flags.{flag-back}
use Rattle.words.proofs.Fit.{Within, both, one, two, four}
use Rattle.login_words.specs.Login.{login_fits, login_of, words_of, changes_nothing}
use Rattle.login_book.specs.Book.{LoginBook}
use Rattle.login_book.specs.Login.{Outcome}
use Rattle.login_book.specs.Events.{Call, accepted, step_of}
use Rattle.login_book.proofs.Promised.{promised}
use Rattle.login_types.specs.Agree.{answer_of, ended_state, Stays}
use Rattle.login_types.specs.declared.state.State.{State}
use Rattle.login_types.specs.declared.state.Accepted.{Accepted}
use Rattle.refusal.specs.declared.Refusal.{Refusal}

flag-fits : (b : Bool) → ltb (flag_word b) 2 ≡ true
flag-fits true = refl
flag-fits false = refl

pub login-kept : (l : State) → l.stage < 2 ^ 8 → l.tsih < 2 ^ 16 → l.cid < 2 ^ 16 → l.gathered < 2 ^ 16 → login_of (words_of l) ≡ l
unfolding login_of
login-kept l hs ht hc hg =
    rw (
      flag-fits l.over,
      flag-fits l.begun,
      flag-fits l.judged,
      lt-ltb l.stage (2 ^ 8) hs,
      lt-ltb l.tsih (2 ^ 16) ht,
      lt-ltb l.cid (2 ^ 16) hc,
      lt-ltb l.gathered (2 ^ 16) hg,
      flag-back l.over,
      flag-back l.begun,
      flag-back l.judged,
    )

-- the four numbers that are narrower than their words
pub fitting : (n : List ℕ) → login_fits n ≡ true → Within n 8 3 × (Within n 16 5 × Within n 16 6) × Within n 16 7
fitting n e =
    let p = both ((fits n 1 0 && fits n 1 1) && (fits n 1 2 && fits n 8 3)) ((fits n 16 5 && fits n 16 6) && fits n 16 7) e in
    let q = both (fits n 16 5 && fits n 16 6) (fits n 16 7) p.1 in
    ((four n 1 0 1 1 1 2 8 3 p.0).1.1, two n 16 5 16 6 q.0, one n 16 7 q.1)

left : (x : Bool) (l m : State) → m ≡ pick x (ended_state l) l → not x ≡ true → m ≡ l
left true l m s e = let z : ◌≡◌ {A = ℕ} 0 1 = cc in absurd (omega arith)
left false l m s e = s

pub unmoved : (a : Result Accepted Refusal) (l m : State) → Stays a l m → changes_nothing a ≡ true → m ≡ l
unmoved (Err f) l m s e = left (eqb (number f) 6) l m s e
unmoved (Ok a) l m s e = let z : ◌≡◌ {A = ℕ} 0 1 = cc in absurd (omega arith)

no_answer : (a : Result Accepted Refusal) (t : List ℕ) → changes_nothing a ≡ true → accepted (answer_of a t) ≡ false
no_answer (Err f) t e = refl
no_answer (Ok a) t e = let z : ◌≡◌ {A = ℕ} 0 1 = cc in absurd (omega arith)

-- a refusal leaves the gather area and the text output
pub areas-left : (b m : LoginBook) (c : Call) (a : Result Accepted Refusal) (g t : List ℕ)
    → ◌≡◌ {A = Outcome} (record { book = m; answer = answer_of a t; gather = g; text = t }) (step_of b c)
    → changes_nothing a ≡ true → (g ≡ c.gather) × (t ≡ c.text)
areas-left b m c a g t o e =
    let s = (promised b c).bytes_stay (sym (ap (λ (x : Outcome). accepted x.answer) o) ∙ no_answer a t e) in
    (ap (λ (x : Outcome). x.gather) o ∙ s.0, ap (λ (x : Outcome). x.text) o ∙ s.1)
