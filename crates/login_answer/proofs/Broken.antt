-- The first two checks of a request, and the others as one.
use mathlib.Core.Path.{◌≡◌, refl, sym, ap, ◌∙◌}
use mathlib.Core.Bool.{Bool, true, false, not, ◌&&◌, ◌||◌}
use Prim.Native.Nat.{ℕ, ◌+◌}
use lib.Dec.{eqb, ltb}
use Rattle.text.specs.Text.{pick}
use Rattle.text.proofs.Laws.{past, here}
use Rattle.request_header.specs.declared.Login.{Login}
use Rattle.login_book.specs.Book.{in_stage, permitted, at_start, begun}
use Rattle.login_book.specs.Login.{status_of, differs, strays}
use Rattle.login_types.specs.Agree.{phase_of, book_of}
use Rattle.login_answer.specs.Promises.{later_broken}
use Rattle.std.proofs.lemmas.Bool.Decides.{nat_tests}
use Rattle.login_types.specs.declared.state.State.{State}

-- the rules of status 0x0200 as one
or-pick : (a b : Bool) (x y : ℕ) → pick a x (pick b x y) ≡ pick (a || b) x y
or-pick true b x y = refl
or-pick false b x y = refl

any_of : (a b c d e : Bool) (x y : ℕ) → pick a x (pick b x (pick c x (pick d x (pick e x y)))) ≡ pick ((((a || b) || c) || d) || e) x y
any_of a b c d e x y = or-pick a b x _ ∙ or-pick (a || b) c x _ ∙ or-pick ((a || b) || c) d x _ ∙ or-pick (((a || b) || c) || d) e x y

or-false : (a : Bool) → (a || false) ≡ a
or-false true = refl
or-false false = refl

-- those of a login that has begun, and those of one at the start
phase-go : (b : Bool) (s i t c : ℕ) (q : Login) (u v : Bool)
    → (((((b && differs (begun s i t c) q) || (q.continues && q.transit)) || (b && not (eqb q.csg s))) || (not b && not (eqb q.csg 0 || eqb q.csg 1))) || u) || v
    ≡ (((differs (pick b (begun s i t c) at_start) q || (q.continues && q.transit)) || strays (pick b (begun s i t c) at_start) q) || u) || v
unfolding permitted
phase-go true s i t c q u v = ap (λ (m : Bool). (m || u) || v) (or-false ((differs (begun s i t c) q || (q.continues && q.transit)) || not (eqb q.csg s)))
phase-go false s i t c q u v = ap (λ (m : Bool). ((m || not (eqb q.csg 0 || eqb q.csg 1)) || u) || v) (or-false (q.continues && q.transit))

pub status-version : (l : State) (q : Login) (n live : ℕ) → ltb 0 q.version_min ≡ true → status_of (book_of l) q n live ≡ 0x0205
unfolding status_of
status-version l q n live a = here _ _ _ a

module _ (l : State) (q : Login) (n live : ℕ) (a : ltb 0 q.version_min ≡ false) where
  pub status-handle : (not (eqb q.tsih 0) && not (eqb q.tsih live)) ≡ true → status_of (book_of l) q n live ≡ 0x020a
  unfolding status_of
  status-handle b = past _ _ _ _ a (here _ _ _ b)

  module _ (b : (not (eqb q.tsih 0) && not (eqb q.tsih live)) ≡ false) where
    pub status-later : status_of (book_of l) q n live ≡ pick (later_broken l q n) 0x0200 0
    unfolding status_of
    status-later =
        let u = q.transit && not (permitted (in_stage q.csg) q.nsg) in
        let v = ltb 8192 (l.gathered + n) in
        past _ _ _ _ a (past _ _ _ _ b (any_of (differs (phase_of l) q) (q.continues && q.transit) (strays (phase_of l) q) u v 0x0200 0
        ∙ ap (λ (m : Bool). pick m 0x0200 0) (sym (phase-go l.begun l.stage l.isid l.tsih l.cid q u v))))

-- the rules of a request, in their order
pub ruleset checks = (nat_tests, status-version, status-handle, status-later)
