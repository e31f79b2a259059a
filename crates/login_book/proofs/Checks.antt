-- The checks of a request, as the list of Login and as the rules of Rules have them: the same (`breach-at`, `breach-of`); the first broken one gives the
-- status, one that breaks none has status 0 and fits the gather area.
use mathlib.Core.Path.{◌≡◌, refl, sym, ap, ◌∙◌, subst}
use mathlib.Core.Bool.{Bool, true, false, not, ◌&&◌, ◌||◌}
use mathlib.Core.List.{List, [], ◌∷◌}
use mathlib.Core.Logic.{◌⊎◌, inl, inr, ⊎_elim}
use Prim.Native.Nat.{ℕ, zero, suc, ◌+◌, ◌<◌, ◌≤◌}
use native.Mathlib.Omega.{arith}
use borrow.Author.Tests.{ltb-true, ltb-false, lt-ltb, eqb-true, eqb-false, eq-eqb, ne_eqb, not-true}
use lib.ListN.{get_or}
use Rattle.std.proofs.lemmas.Bool.{not_from_false, false_from_ne_true}
use lib.Dec.{eqb}
use Rattle.text.proofs.Laws.{&&-left, &&-right, false-true, past, here}
use Rattle.request_header.specs.declared.Login.{Login}
use Rattle.login_book.specs.Book.{Stage, start, in_stage, permitted, Phase, at_start, begun, LoginBook}
use Rattle.login_book.specs.Login.{Check, check, checks, differs, strays, first_broken, status_of}
use Rattle.login_book.specs.Rules.{Permitted, start_security, start_operational, security_operational, security_full, operational_full, Breaks, version, session, other_first, both_set, other_start, other_stage, no_step, too_long}

pub split {ℓ} : {A : Type ℓ} (b : Bool) → (b ≡ true → A) → (b ≡ false → A) → A
split true f g = f refl
split false f g = g refl

-- the permitted steps
either : {A : Type 0} (a b : Bool) → (a || b) ≡ true → (a ≡ true → A) → (b ≡ true → A) → A
either true b e f g = f refl
either false b e f g = g e

pub step-of : (from : Stage) (to : ℕ) → Permitted from to → permitted from to ≡ true
unfolding permitted
step-of from to start_security = refl
step-of from to start_operational = refl
step-of from to security_operational = refl
step-of from to security_full = refl
step-of from to operational_full = refl

pub step_is : (from : Stage) (to : ℕ) → permitted from to ≡ true → Permitted from to
unfolding permitted
step_is start to e =
    either (eqb to 0) (eqb to 1) e (λ z. subst (Permitted start) (sym (eqb-true to 0 z)) start_security)
    (λ z. subst (Permitted start) (sym (eqb-true to 1 z)) start_operational)
step_is (in_stage from) to e =
    let at : (x y : ℕ) → Permitted (in_stage x) y → from ≡ x → to ≡ y → Permitted (in_stage from) to =
    λ x y p a b. subst (λ (s : ℕ). Permitted (in_stage s) to) (sym a) (subst (Permitted (in_stage x)) (sym b) p) in
    either (eqb from 0 && (eqb to 1 || eqb to 3)) (eqb from 1 && eqb to 3) e
    (λ z. either (eqb to 1) (eqb to 3) (&&-right (eqb from 0) _ z)
    (λ y. at 0 1 security_operational (eqb-true from 0 (&&-left _ _ z)) (eqb-true to 1 y))
    (λ y. at 0 3 security_full (eqb-true from 0 (&&-left _ _ z)) (eqb-true to 3 y)))
    (λ z. at 1 3 operational_full (eqb-true from 1 (&&-left _ _ z)) (eqb-true to 3 (&&-right (eqb from 1) _ z)))

-- ---- a list of checks, place by place

abbrev broken_at : List Check → ℕ → Bool
broken_at cs k = (get_or cs k (check false 1)).broken

abbrev status_at : List Check → ℕ → ℕ
status_at cs k = (get_or cs k (check false 1)).status

first-broken : (cs : List Check) (k : ℕ) → broken_at cs k ≡ true → ((j : ℕ) → j < k → broken_at cs j ≡ false) → first_broken cs ≡ status_at cs k
first-broken [] k e h = false-true e
first-broken (c ∷ cs) zero e h = here _ _ _ e
first-broken (c ∷ cs) (suc k) e h = past _ _ _ _ (h 0 (omega arith)) (first-broken cs k e (λ j p. h (suc j) (omega arith)))

first-kept : (cs : List Check) → ((k : ℕ) → broken_at cs k ≡ false) → first_broken cs ≡ 0
first-kept [] h = refl
first-kept (c ∷ cs) h = past _ _ _ _ (h 0) (first-kept cs (λ k. h (suc k)))

-- the first broken check of a list
pub record First (cs : List Check) : Type 0 where
  pub place : ℕ
  pub broken : broken_at cs place ≡ true
  pub kept : (j : ℕ) → j < place → broken_at cs j ≡ false

later-kept : (c : Check) (cs : List Check) → c.broken ≡ false → (n : ℕ) → ((j : ℕ) → j < n → broken_at cs j ≡ false)
    → (j : ℕ) → j < suc n → broken_at (c ∷ cs) j ≡ false
later-kept c cs e n h zero p = e
later-kept c cs e n h (suc j) p = h j (omega arith)

all-kept : (c : Check) (cs : List Check) → c.broken ≡ false → ((k : ℕ) → broken_at cs k ≡ false) → (k : ℕ) → broken_at (c ∷ cs) k ≡ false
all-kept c cs e h zero = e
all-kept c cs e h (suc k) = h k

checked : (cs : List Check) → ((k : ℕ) → broken_at cs k ≡ false) ⊎ First cs
checked [] = inl (λ k. refl)
checked (c ∷ cs) =
    split c.broken (λ e. inr (record { place = 0; broken = e; kept = λ j p. absurd (omega arith) }))
    (λ e. ⊎_elim (λ k. inl (all-kept c cs e k))
    (λ w. inr (record { place = suc w.place; broken = w.broken; kept = later-kept c cs e w.place w.kept })) (checked cs))

-- ---- small laws

some_go : (a b c : Bool) → ((a ≡ true) × (b ≡ true) × (c ≡ true) → ⊥) → ((not a || not b) || not c) ≡ true
some_go true true true h = absurd (h (refl, refl, refl))
some_go true true false h = refl
some_go true false c h = refl
some_go false b c h = refl

all_go : (a b c : Bool) → ((not a || not b) || not c) ≡ true → a ≡ true → b ≡ true → c ≡ true → ⊥
all_go a b c h x y z = false-true (rw (x, y, z) at h)

pub both_go : (a b : Bool) → a ≡ true → b ≡ true → (a && b) ≡ true
both_go a b e f = rw (e, f) refl

-- ---- the two forms of the checks

module _ (l : LoginBook) (q : Login) (n live : ℕ) where
  -- a rule that is broken is a broken check of the list, with its status
  breach-at : (k s : ℕ) → Breaks l q n live k s → (broken_at (checks l q n live) k ≡ true) × (status_at (checks l q n live) k ≡ s) × (1 ≤ s)
  breach-at k s (version h) = (lt-ltb _ _ h, refl, omega arith)
  breach-at k s (session h i) = (both_go _ _ (ap not (ne_eqb _ _ h)) (ap not (ne_eqb _ _ i)), refl, omega arith)
  breach-at k s (other_first stage isid tsih cid e h) =
      (ap (λ (x : Phase). differs x q) e ∙ some_go _ _ _ (λ w. h (eqb-true _ _ w.0, eqb-true _ _ w.1, eqb-true _ _ w.2)), refl, omega arith)
  breach-at k s (both_set h i) = (both_go _ _ h i, refl, omega arith)
  breach-at k s (other_start e h) =
      (ap (λ (x : Phase). strays x q) e ∙ not_from_false _ (false_from_ne_true _ (λ p. h (step_is start q.csg p))), refl, omega arith)
  breach-at k s (other_stage stage isid tsih cid e h) = (ap (λ (x : Phase). strays x q) e ∙ ap not (ne_eqb _ _ h), refl, omega arith)
  breach-at k s (no_step h i) = (both_go _ _ h (not_from_false _ (false_from_ne_true _ (λ p. i (step_is (in_stage q.csg) q.nsg p)))), refl, omega arith)
  breach-at k s (too_long h) = (lt-ltb _ _ h, refl, omega arith)

  differs-of : (x : Phase) → l.phase ≡ x → differs x q ≡ true → Breaks l q n live 2 0x0200
  differs-of at_start e h = false-true h
  differs-of (begun stage isid tsih cid) e h =
      other_first stage isid tsih cid e
      (λ w. all_go (eqb q.isid isid) (eqb q.tsih tsih) (eqb q.cid cid) h (eq-eqb _ _ w.0) (eq-eqb _ _ w.1) (eq-eqb _ _ w.2))

  strays-of : (x : Phase) → l.phase ≡ x → strays x q ≡ true → Breaks l q n live 4 0x0200
  strays-of at_start e h = other_start e (λ p. false-true (sym (not-true _ h) ∙ step-of start q.csg p))
  strays-of (begun stage isid tsih cid) e h = other_stage stage isid tsih cid e (eqb-false _ _ (not-true _ h))

  -- and a broken check of the list breaks a rule
  breach-of : (k : ℕ) → broken_at (checks l q n live) k ≡ true → Breaks l q n live k (status_at (checks l q n live) k)
  breach-of zero e = version (ltb-true 0 _ e)
  breach-of (suc zero) e = session (eqb-false _ 0 (not-true _ (&&-left _ _ e))) (eqb-false _ live (not-true _ (&&-right (not (eqb q.tsih 0)) _ e)))
  breach-of (suc (suc zero)) e = differs-of l.phase refl e
  breach-of (suc (suc (suc zero))) e = both_set (&&-left _ _ e) (&&-right q.continues _ e)
  breach-of (suc (suc (suc (suc zero)))) e = strays-of l.phase refl e
  breach-of (suc (suc (suc (suc (suc zero))))) e =
      no_step (&&-left _ _ e) (λ p. false-true (sym (not-true _ (&&-right q.transit _ e)) ∙ step-of (in_stage q.csg) q.nsg p))
  breach-of (suc (suc (suc (suc (suc (suc zero)))))) e = too_long (ltb-true 8192 _ e)
  breach-of (suc (suc (suc (suc (suc (suc (suc k))))))) e = false-true e

  -- where no rule is broken no check of the list is
  pub check-kept : ((k s : ℕ) → Breaks l q n live k s → ⊥) → (k : ℕ) → broken_at (checks l q n live) k ≡ false
  check-kept h k = split (broken_at (checks l q n live) k) (λ e. absurd (h k _ (breach-of k e))) (λ e. e)

  pub status-first : (k s : ℕ) → Breaks l q n live k s → ((j t : ℕ) → j < k → Breaks l q n live j t → ⊥) → (status_of l q n live ≡ s) × (1 ≤ s)
  unfolding status_of
  status-first k s x h =
      let w = breach-at k s x in
      let before : (j : ℕ) → j < k → broken_at (checks l q n live) j ≡ false =
      λ j p. split (broken_at (checks l q n live) j) (λ e. absurd (h j _ p (breach-of j e))) (λ e. e) in
      (first-broken (checks l q n live) k w.0 before ∙ w.1, w.2)

  pub status-none : ((k s : ℕ) → Breaks l q n live k s → ⊥) → status_of l q n live ≡ 0
  unfolding status_of
  status-none h = first-kept (checks l q n live) (check-kept h)

  -- a request breaks no check, or a first one
  pub decided-checks : {A : Type 0} → (((k s : ℕ) → Breaks l q n live k s → ⊥) → A)
      → ((k s : ℕ) → Breaks l q n live k s → ((j t : ℕ) → j < k → Breaks l q n live j t → ⊥) → A) → A
  decided-checks f g =
      ⊎_elim (λ h. f (λ k s x. false-true (sym (h k) ∙ (breach-at k s x).0)))
      (λ w. g w.place _ (breach-of w.place w.broken) (λ j t p x. false-true (sym (w.kept j p) ∙ (breach-at j t x).0)))
      (checked (checks l q n live))

  pub status-fits : status_of l q n live ≡ 0 → l.gathered + n ≤ 8192
  status-fits e = decided-checks (λ h. ltb-false 8192 (l.gathered + n) (check-kept h 6))
      (λ k s x h. let w = status-first k s x h in absurd (let z : s ≡ 0 = sym w.0 ∙ e in omega (arith, z, w.1)))
