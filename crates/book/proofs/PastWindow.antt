-- The book's window against what a history says of the commands. The invariant: what the history has under a number n, any n, is
-- what the book has at n's place; each effect is one law that carries it on.
use Prim.Native.Nat.{ℕ, zero, suc, ◌+◌, ◌-◌, ◌%◌, ◌^◌, ◌≤◌, ◌<◌, min}
use mathlib.Core.Path.{◌≡◌, refl, sym, ap, ap₂, ◌∙◌}
use mathlib.Core.Bool.{Bool, true, false, not, ◌&&◌, ◌||◌}
use mathlib.Core.List.{List, [], ◌∷◌, ◌++◌}
use native.Mathlib.Nat.{add-zero, zero-add}
use native.Mathlib.Omega.{arith}
use native.Mathlib.Decide.{dec_lt}
use borrow.Author.Tests.{tests, lt-ltb, le-ltb, le-leb, lt-leb, eq-eqb, eqb-true}
use lib.Dec.{ltb, leb, eqb}
use lib.ListN.{length, get_or, set, drop, replicate, length-append, length-drop, length-set, length-replicate, get_or-eq_default}
use lib.Seq.{get_or-set_same, get_or-set_other}
use Rattle.field.specs.Field.{pick}
use Rattle.task_book.proofs.Tests.{both}
use Rattle.window.specs.Book as W
use Rattle.window.specs.Book.{Origin, connection, is_from, Place, empty, holds, Command, sum_of, emptied_at, one-if}
use Rattle.window.specs.Agree.{held_bit}
use Rattle.window.proofs.Bits.{shifted, alike}
use Rattle.window.proofs.Left.{left-before, left_after, length-left, held-before}
use Rattle.book.proofs.Small.{share-some, share-fits}
use Rattle.book.specs.declared.Given.{Given}
use Rattle.book.specs.Book.{share}
use Rattle.book.specs.Effects.{WindowEffect, keeps, hands_out, logs_out}
use Rattle.book.specs.Commands.{same, hand_outs, next, distance, among_last, Latest, by, latest_offer, origin_of, concerned, held_run, held, gapless, exp_cmd_sn_of, max_cmd_sn_of, before_exp, voided_since, kept_offers, emptied, held_count, held_now}

-- ---- what the history has under a number

abbrev pub header_in : Latest → List ℕ
header_in Latest.none = []
header_in (by c t h) = h

abbrev pub ticket_in : Latest → ℕ
ticket_in Latest.none = 0
ticket_in (by c t h) = t

unfoldable pub place_of : Bool → Latest → Origin → Bool → Place
place_of h l o v = pick h (holds (record { header = header_in l; ticket = ticket_in l; origin = o; void = v })) empty

unfoldable pub place_in : Given → List WindowEffect → ℕ → Place
place_in g ds n = place_of (held g ds n) (latest_offer ds n) (origin_of ds n) (voided_since g ds n)

unfoldable pub is_held : Place → Bool
is_held empty = false
is_held (holds e) = true

-- each number handed out was the next one
unfoldable pub AllNumbered : Given → List WindowEffect → Type 0
AllNumbered g [] = Unit {0}
AllNumbered g (keeps m c t h ∷ ds) = AllNumbered g ds
AllNumbered g (hands_out m ∷ ds) = (m ≡ next g ds) × AllNumbered g ds
AllNumbered g (logs_out c r e v ∷ ds) = AllNumbered g ds
AllNumbered g (WindowEffect.none ∷ ds) = AllNumbered g ds

pub record WindowInv (g : Given) (ds : List WindowEffect) (w : W.Book) : Type 0 where
  pub first : w.first ≡ g.first % 2 ^ 32
  pub handed : w.handed ≡ hand_outs ds
  pub size : length w.held ≡ share g
  pub share : w.share ≡ share g
  pub places : (n : ℕ) → place_in g ds n ≡ get_or w.held (W.distance w n) empty
  pub numbered : AllNumbered g ds
  pub balance : kept_offers ds ≡ hand_outs ds + sum_of held_bit w.held + emptied ds

pub next-is : (g : Given) (ds : List WindowEffect) (w : W.Book) → WindowInv g ds w → next g ds ≡ W.next w
unfolding next W.next
next-is g ds w i = rw (i.first, i.handed) (omega arith)

pub distance_is : (g : Given) (ds : List WindowEffect) (w : W.Book) (n : ℕ) → WindowInv g ds w → distance g ds n ≡ W.distance w n
unfolding distance W.distance
distance_is g ds w n i = rw (next-is g ds w i)

pub held-is : (g : Given) (ds : List WindowEffect) (w : W.Book) (n : ℕ) → WindowInv g ds w → held g ds n ≡ is_held (get_or w.held (W.distance w n) empty)
unfolding place_in place_of is_held
held-is g ds w n i = grind (arith, i.places n)

-- ---- a call that does nothing to the window

pub window-quiet : {g : Given} {ds : List WindowEffect} {w : W.Book} → WindowInv g ds w → WindowInv g (WindowEffect.none ∷ ds) w
unfolding hand_outs place_in held latest_offer origin_of voided_since AllNumbered kept_offers emptied
window-quiet i = record { first = i.first; handed = i.handed; share = i.share; size = i.size; places = i.places; numbered = i.numbered; balance = i.balance }

-- ---- numbers modulo 2 ^ 32

pub same_true : (n m : ℕ) → same n m ≡ true → n % 2 ^ 32 ≡ m % 2 ^ 32
unfolding same
same_true n m e = eqb-true (n % 2 ^ 32) (m % 2 ^ 32) e

pub same_false : (n m : ℕ) → same n m ≡ false → n % 2 ^ 32 ≡ m % 2 ^ 32 → ⊥
unfolding same
same_false n m e q = cc (e, eq-eqb (n % 2 ^ 32) (m % 2 ^ 32) q)

shift_same : (x n m : ℕ) → x < 2 ^ 32 → n % 2 ^ 32 ≡ m % 2 ^ 32 → (n + (2 ^ 32 - x)) % 2 ^ 32 ≡ (m + (2 ^ 32 - x)) % 2 ^ 32
shift_same x n m l e = omega arith

shift_back : (x n m : ℕ) → x < 2 ^ 32 → (n + (2 ^ 32 - x)) % 2 ^ 32 ≡ (m + (2 ^ 32 - x)) % 2 ^ 32 → n % 2 ^ 32 ≡ m % 2 ^ 32
shift_back x n m l e = omega arith

next-lt : (w : W.Book) → W.next w < 2 ^ 32
unfolding W.next
next-lt w = omega arith

distance-same : (w : W.Book) (n m : ℕ) → n % 2 ^ 32 ≡ m % 2 ^ 32 → W.distance w n ≡ W.distance w m
unfolding W.distance
distance-same w n m e = shift_same (W.next w) n m (next-lt w) e

distance_back : (w : W.Book) (n m : ℕ) → W.distance w n ≡ W.distance w m → n % 2 ^ 32 ≡ m % 2 ^ 32
unfolding W.distance
distance_back w n m e = shift_back (W.next w) n m (next-lt w) e

-- ---- an offer that is kept

held-set : (l : List Place) (d : ℕ) (e : Command) → d < length l → get_or l d empty ≡ empty → sum_of held_bit (set l d (holds e)) ≡ suc (sum_of held_bit l)
unfolding sum_of held_bit
held-set [] d e h z = absurd (omega arith)
held-set (p ∷ l) zero e h z = rw z (omega arith)
held-set (p ∷ l) (suc d) e h z = omega (arith, held-set l d e (omega arith) z)

pub window-keeps : (g : Given) (ds : List WindowEffect) (w : W.Book) (m c t : ℕ) (h : List ℕ) → WindowInv g ds w → W.distance w m < share g
    → get_or w.held (W.distance w m) empty ≡ empty
    → WindowInv g (keeps m c t h ∷ ds) (W.keeping w (W.distance w m) (record { header = h; ticket = t; origin = connection c; void = false }))
unfolding W.keeping hand_outs place_in held latest_offer origin_of voided_since AllNumbered kept_offers emptied
window-keeps g ds w m c t h i l z = record {
  first = i.first;
  handed = i.handed;
  share = i.share;
  size = length-set w.held (W.distance w m) (holds e) ∙ i.size;
  places = λ n. at n (same n m) refl;
  numbered = i.numbered;
  balance = omega (arith, i.balance, held-set w.held (W.distance w m) e (omega (arith, i.size)) z);
}
  where
    e : Command
    e = record { header = h; ticket = t; origin = connection c; void = false }

    stays : (n : ℕ) → W.distance (W.keeping w (W.distance w m) e) n ≡ W.distance w n
    stays n = unfold W.distance in (unfold W.next in refl)

    at : (n : ℕ) (u : Bool) → same n m ≡ u
        → place_of (pick (same n m) true (held g ds n)) (pick (same n m) (by c t h) (latest_offer ds n)) (pick (same n m) (connection c) (origin_of ds n))
        (pick (same n m) false (voided_since g ds n))
        ≡ get_or (set w.held (W.distance w m) (holds e)) (W.distance (W.keeping w (W.distance w m) e) n) empty
    at n true q =
        rw (q, stays n, distance-same w n m (same_true n m q), get_or-set_same w.held (W.distance w m) (holds e) empty (omega (arith, i.size)))
        (unfold place_of in refl)
    at n false q =
        rw (q, stays n, get_or-set_other w.held (W.distance w m) (W.distance w n) (holds e) empty (λ x. same_false n m q (distance_back w n m x))) (i.places n)

-- ---- a hand-out

held-end : (l : List Place) → sum_of held_bit (l ++ empty ∷ []) ≡ sum_of held_bit l
unfolding sum_of held_bit
held-end [] = refl
held-end (p ∷ l) = ap (λ (x : ℕ). held_bit p + x) (held-end l)

held_first : (l : List Place) (e : Command) → get_or l 0 empty ≡ holds e → sum_of held_bit l ≡ suc (sum_of held_bit (drop 1 l ++ empty ∷ []))
unfolding sum_of held_bit
held_first [] e q = absurd (omega (arith, ap held_bit q))
held_first (p ∷ l) e q = omega (arith, ap held_bit q, held-end l)

turn : (a n : ℕ) → (n % 2 ^ 32 ≡ a % 2 ^ 32 → ⊥) → suc ((n + (2 ^ 32 - suc a % 2 ^ 32)) % 2 ^ 32) ≡ (n + (2 ^ 32 - a % 2 ^ 32)) % 2 ^ 32
turn a n h = omega arith

last : (a n : ℕ) → n % 2 ^ 32 ≡ a % 2 ^ 32 → suc ((n + (2 ^ 32 - suc a % 2 ^ 32)) % 2 ^ 32) ≡ 2 ^ 32
last a n h = omega arith

on-distance : (w : W.Book) (n : ℕ) → (n % 2 ^ 32 ≡ W.next w → ⊥) → suc (W.distance (W.handed_on w) n) ≡ W.distance w n
unfolding W.distance W.next W.handed_on
on-distance w n h =
    let e : w.first + suc w.handed ≡ suc (w.first + w.handed) = omega arith in
    rw e (turn (w.first + w.handed) n (λ q. h q))

on-last : (w : W.Book) (n : ℕ) → n % 2 ^ 32 ≡ W.next w → suc (W.distance (W.handed_on w) n) ≡ 2 ^ 32
unfolding W.distance W.next W.handed_on
on-last w n h =
    let e : w.first + suc w.handed ≡ suc (w.first + w.handed) = omega arith in
    rw e (last (w.first + w.handed) n h)

next-mod : (w : W.Book) → W.next w % 2 ^ 32 ≡ W.next w
unfolding W.next
next-mod w = omega arith

pub window-hands : (g : Given) (ds : List WindowEffect) (w : W.Book) (e : Command) → WindowInv g ds w → W.first_place w ≡ holds e
    → WindowInv g (hands_out (W.next w) ∷ ds) (W.handed_on w)
unfolding hand_outs place_in held latest_offer origin_of voided_since AllNumbered kept_offers emptied W.first_place
window-hands g ds w e i q = record {
  first = unfold W.handed_on in i.first;
  handed = unfold W.handed_on in (ap suc i.handed);
  share = unfold W.handed_on in i.share;
  size = unfold W.handed_on in (rw (length-append, length-drop) (omega (arith, i.size, share-some g)));
  places = λ n. at n (same n (W.next w)) refl;
  numbered = (sym (next-is g ds w i), i.numbered);
  balance = unfold W.handed_on in (omega (arith, i.balance, held_first w.held e q));
}
  where
    line : (n : ℕ) → get_or (W.handed_on w).held (W.distance (W.handed_on w) n) empty ≡ get_or w.held (suc (W.distance (W.handed_on w) n)) empty
    line n = unfold W.handed_on in (shifted w.held (W.distance (W.handed_on w) n))

    at : (n : ℕ) (u : Bool) → same n (W.next w) ≡ u
        → place_of (pick (same n (W.next w)) false (held g ds n)) (latest_offer ds n) (origin_of ds n) (voided_since g ds n)
        ≡ get_or (W.handed_on w).held (W.distance (W.handed_on w) n) empty
    at n true s =
        rw (s, line n, on-last w n (same_true n (W.next w) s ∙ next-mod w))
        (sym (get_or-eq_default w.held empty {n = 2 ^ 32} (omega (arith, i.size, share-fits g)) ∙ unfold place_of in refl))
    at n false s =
        rw (s, line n, on-distance w n (λ x. same_false n (W.next w) s (x ∙ sym (next-mod w)))) (i.places n)

-- ---- the gap, and counts

next_at : (k j : ℕ) → suc k + j ≡ k + suc j
next_at k j = omega arith

run-gap : (h : ℕ → Bool) (l : List Place) (k m : ℕ) → length l ≡ m → ((j : ℕ) → j < m → h (k + j) ≡ is_held (get_or l j empty)) → held_run h k m ≡ W.gapless l
unfolding held_run W.gapless
run-gap h [] k zero e q = refl
run-gap h [] k (suc m) e q = absurd (omega arith)
run-gap h (x ∷ l) k zero e q = absurd (omega arith)
run-gap h (x ∷ l) k (suc m) e q =
    let here : h k ≡ is_held x = ap h (sym (add-zero k)) ∙ q 0 (omega arith) in
    let rest : held_run h (suc k) m ≡ W.gapless l = run-gap h l (suc k) m (omega arith) (λ j b. ap h (next_at k j) ∙ q (suc j) (omega arith)) in
    rw (here, rest) (go x l)
  where
    go : (x : Place) (l : List Place) → pick (is_held x) (suc (W.gapless l)) 0 ≡ W.gapless (x ∷ l)
    go empty l = unfold is_held in refl
    go (holds e) l = unfold is_held in refl

count_held : (h : ℕ → Bool) (l : List Place) (k m : ℕ) → length l ≡ m → ((j : ℕ) → j < m → h (k + j) ≡ is_held (get_or l j empty))
    → held_count h k m ≡ sum_of held_bit l
unfolding held_count sum_of
count_held h [] k zero e q = refl
count_held h [] k (suc m) e q = absurd (omega arith)
count_held h (x ∷ l) k zero e q = absurd (omega arith)
count_held h (x ∷ l) k (suc m) e q =
    let here : h k ≡ is_held x = ap h (sym (add-zero k)) ∙ q 0 (omega arith) in
    let rest : held_count h (suc k) m ≡ sum_of held_bit l = count_held h l (suc k) m (omega arith) (λ j b. ap h (next_at k j) ∙ q (suc j) (omega arith)) in
    ap₂ (λ (a b : ℕ). a + b) (ap one-if here ∙ go x) rest
  where
    go : (x : Place) → one-if (is_held x) ≡ held_bit x
    go x = unfold is_held in (unfold held_bit in (grind arith))

near : (x j : ℕ) → x < 2 ^ 32 → j < 64 → (x + j + (2 ^ 32 - x)) % 2 ^ 32 ≡ j
near x j l h = omega arith

place-near : (g : Given) (ds : List WindowEffect) (w : W.Book) → WindowInv g ds w → (j : ℕ) → j < share g → W.distance w (next g ds + j) ≡ j
unfolding W.distance
place-near g ds w i j l = ap (λ (x : ℕ). (x + j + (2 ^ 32 - W.next w)) % 2 ^ 32) (next-is g ds w i)
    ∙ near (W.next w) j (next-lt w) (omega (arith, share-fits g))

held-near : (g : Given) (ds : List WindowEffect) (w : W.Book) → WindowInv g ds w → (j : ℕ) → j < share g
    → held g ds (next g ds + j) ≡ is_held (get_or w.held j empty)
held-near g ds w i j l = held-is g ds w (next g ds + j) i ∙ ap (λ (d : ℕ). is_held (get_or w.held d empty)) (place-near g ds w i j l)

pub place-first : (g : Given) (ds : List WindowEffect) (w : W.Book) → WindowInv g ds w → place_in g ds (next g ds) ≡ W.first_place w
unfolding W.first_place
place-first g ds w i =
    ap (place_in g ds) (sym (add-zero (next g ds))) ∙ i.places (next g ds + 0)
    ∙ ap (λ (d : ℕ). get_or w.held d empty) (place-near g ds w i 0 (share-some g))

pub gap_is : (g : Given) (ds : List WindowEffect) (w : W.Book) → WindowInv g ds w → gapless g ds ≡ W.gapless w.held
unfolding gapless
gap_is g ds w i = run-gap (λ k. held g ds (next g ds + k)) w.held 0 (share g) i.size (λ j l. ap (λ (x : ℕ). held g ds (next g ds + x)) (zero-add j)
    ∙ held-near g ds w i j l)

pub count-is : (g : Given) (ds : List WindowEffect) (w : W.Book) → WindowInv g ds w → held_now g ds ≡ sum_of held_bit w.held
unfolding held_now
count-is g ds w i = count_held (λ k. held g ds (next g ds + k)) w.held 0 (share g) i.size (λ j l. ap (λ (x : ℕ). held g ds (next g ds + x)) (zero-add j)
    ∙ held-near g ds w i j l)

pub exp-is : (g : Given) (ds : List WindowEffect) (w : W.Book) → WindowInv g ds w → exp_cmd_sn_of g ds ≡ W.exp_cmd_sn_of w
unfolding exp_cmd_sn_of W.exp_cmd_sn_of
exp-is g ds w i = rw (next-is g ds w i, gap_is g ds w i)

pub max-is : (g : Given) (ds : List WindowEffect) (w : W.Book) → WindowInv g ds w → max_cmd_sn_of g ds ≡ W.max_cmd_sn_of w
unfolding max_cmd_sn_of W.max_cmd_sn_of
max-is g ds w i = rw (next-is g ds w i, i.share)

-- ---- a logout

-- what a logout leaves of a place, before ExpCmdSN and after it
left_in : (c r : ℕ) (h : Bool) (l : Latest) (o : Origin) (v : Bool)
    → place_of (h && not (concerned c r o && not true)) l (pick (eqb r 2 && is_from c o) W.none o) (v || (not (eqb r 2) && (concerned c r o && true)))
    ≡ W.before c r (place_of h l o v)
unfolding place_of W.before W.spared W.concerns concerned
left_in c r h l o v = grind (arith, tests)

left_out : (c r : ℕ) (h : Bool) (l : Latest) (o : Origin) (v : Bool)
    → place_of (h && not (concerned c r o && not false)) l (pick (eqb r 2 && is_from c o) W.none o) (v || (not (eqb r 2) && (concerned c r o && false)))
    ≡ W.after c r (place_of h l o v)
unfolding place_of W.after W.concerns concerned
left_out c r h l o v = grind (arith, tests)

after-sum : (c r : ℕ) (p : Place) → held_bit (W.after c r p) + emptied_at c r p ≡ held_bit p
unfolding held_bit W.after emptied_at
after-sum c r p = grind arith

left-sum : (c r g : ℕ) (l : List Place) → sum_of held_bit (W.left c r g l) + sum_of (emptied_at c r) (drop g l) ≡ sum_of held_bit l
unfolding sum_of W.left
left-sum c r zero [] = refl
left-sum c r (suc g) [] = refl
left-sum c r zero (p ∷ l) = omega (arith, left-sum c r zero l, after-sum c r p)
left-sum c r (suc g) (p ∷ l) = omega (arith, left-sum c r g l, held-before c r p)

pub window-logs : (g : Given) (ds : List WindowEffect) (w : W.Book) (c r v : ℕ) → WindowInv g ds w
    → WindowInv g (logs_out c r (sum_of (emptied_at c r) (drop (W.gapless w.held) w.held)) v ∷ ds) (W.after_logout w c r (W.gapless w.held))
unfolding hand_outs place_in held latest_offer origin_of voided_since AllNumbered kept_offers emptied W.after_logout before_exp
window-logs g ds w c r v i = record {
  first = i.first;
  handed = i.handed;
  share = i.share;
  size = length-left c r (W.gapless w.held) w.held ∙ i.size;
  places = λ n.
      let gp : held_run (λ k. held g ds (next g ds + k)) 0 (share g) ≡ W.gapless w.held = unfold gapless in (gap_is g ds w i) in
      rw (gp, gap_is g ds w i, distance_is g ds w n i) (at n (dec_lt (W.distance w n) (W.gapless w.held)));
  numbered = i.numbered;
  balance = omega (arith, i.balance, left-sum c r (W.gapless w.held) w.held);
}
  where
    gap : ℕ
    gap = W.gapless w.held

    stays : (n : ℕ) → W.distance (W.after_logout w c r gap) n ≡ W.distance w n
    stays n = unfold W.distance in (unfold W.next in refl)

    at : (n : ℕ) → Dec (W.distance w n < gap)
        → place_of (held g ds n && not (concerned c r (origin_of ds n) && not (ltb (W.distance w n) gap))) (latest_offer ds n)
        (pick (eqb r 2 && is_from c (origin_of ds n)) W.none (origin_of ds n))
        (voided_since g ds n || (not (eqb r 2) && (concerned c r (origin_of ds n) && ltb (W.distance w n) gap)))
        ≡ get_or (W.left c r gap w.held) (W.distance (W.after_logout w c r gap) n) empty
    at n (yes l) =
        rw (lt-ltb (W.distance w n) gap l, stays n, left-before c r gap w.held (W.distance w n) l)
        (left_in c r (held g ds n) (latest_offer ds n) (origin_of ds n) (voided_since g ds n) ∙ ap (W.before c r) (i.places n))
    at n (no l) =
        let k : gap ≤ W.distance w n = omega arith in
        rw (le-ltb (W.distance w n) gap k, stays n, left_after c r gap w.held (W.distance w n) k)
        (left_out c r (held g ds n) (latest_offer ds n) (origin_of ds n) (voided_since g ds n) ∙ ap (W.after c r) (i.places n))

-- ---- the last numbers handed out

one_more : (x k h : ℕ) → 0 < k → leb x (min (k - 1) h) ≡ leb (suc x) (min k (suc h))
one_more x k h l = grind (arith, tests)

distance-lt : (g : Given) (ds : List WindowEffect) (n : ℕ) → distance g ds n < 2 ^ 32
unfolding distance
distance-lt g ds n = omega arith

hand-turn : (g : Given) (ds : List WindowEffect) (m n : ℕ) → m ≡ next g ds → same n m ≡ false → suc (distance g (hands_out m ∷ ds) n) ≡ distance g ds n
unfolding distance next hand_outs
hand-turn g ds m n e s =
    let q : g.first + suc (hand_outs ds) ≡ suc (g.first + hand_outs ds) = omega arith in
    rw q (turn (g.first + hand_outs ds) n (λ x. same_false n m s (x ∙ mods (g.first + hand_outs ds) m e)))
  where
    mods : (a m : ℕ) → m ≡ a % 2 ^ 32 → a % 2 ^ 32 ≡ m % 2 ^ 32
    mods a m e = omega arith

hand-last : (g : Given) (ds : List WindowEffect) (m n : ℕ) → m ≡ next g ds → same n m ≡ true → suc (distance g (hands_out m ∷ ds) n) ≡ 2 ^ 32
unfolding distance next hand_outs
hand-last g ds m n e s =
    let q : g.first + suc (hand_outs ds) ≡ suc (g.first + hand_outs ds) = omega arith in
    rw q (last (g.first + hand_outs ds) n (same_true n m s ∙ mods (g.first + hand_outs ds) m e))
  where
    mods : (a m : ℕ) → m ≡ a % 2 ^ 32 → m % 2 ^ 32 ≡ a % 2 ^ 32
    mods a m e = omega arith

last-hands : (g : Given) (k : ℕ) (ds : List WindowEffect) (m n : ℕ) → m ≡ next g ds
    → among_last (k - 1) ds n ≡ leb (2 ^ 32 - distance g ds n) (min (k - 1) (hand_outs ds))
    → (ltb 0 k && (same n m || among_last (k - 1) ds n)) ≡ leb (2 ^ 32 - distance g (hands_out m ∷ ds) n) (min k (suc (hand_outs ds)))
last-hands g k ds m n e ih = go (dec_lt 0 k) (same n m) refl
  where
    go : Dec (0 < k) → (t : Bool) → same n m ≡ t
        → (ltb 0 k && (same n m || among_last (k - 1) ds n)) ≡ leb (2 ^ 32 - distance g (hands_out m ∷ ds) n) (min k (suc (hand_outs ds)))
    go (no z) t s =
        let lt : min k (suc (hand_outs ds)) < 2 ^ 32 - distance g (hands_out m ∷ ds) n = omega (arith, distance-lt g (hands_out m ∷ ds) n) in
        rw (le-ltb 0 k (omega arith)) (sym (lt-leb _ _ lt))
    go (yes p) true s =
        let le : 2 ^ 32 - distance g (hands_out m ∷ ds) n ≤ min k (suc (hand_outs ds)) = omega (arith, hand-last g ds m n e s) in
        rw (lt-ltb 0 k p, s) (sym (le-leb _ _ le))
    go (yes p) false s =
        let x : 2 ^ 32 - distance g (hands_out m ∷ ds) n ≡ suc (2 ^ 32 - distance g ds n) = omega (arith, hand-turn g ds m n e s, distance-lt g ds n) in
        rw (lt-ltb 0 k p, s, x, ih) (one_more (2 ^ 32 - distance g ds n) k (hand_outs ds) p)

pub last-is : (g : Given) (k : ℕ) (ds : List WindowEffect) (n : ℕ) → AllNumbered g ds → k ≤ 2 ^ 31
    → among_last k ds n ≡ leb (2 ^ 32 - distance g ds n) (min k (hand_outs ds))
unfolding among_last AllNumbered hand_outs
last-is g k [] n h l = sym (lt-leb (2 ^ 32 - distance g [] n) (min k 0) (omega (arith, distance-lt g [] n)))
last-is g k (keeps m c t x ∷ ds) n h l = last-is g k ds n h l ∙ unfold distance in (unfold next in refl)
last-is g k (hands_out m ∷ ds) n h l = last-hands g k ds m n h.0 (last-is g (k - 1) ds n h.1 (omega arith))
last-is g k (logs_out c r e v ∷ ds) n h l = last-is g k ds n h l ∙ unfold distance in (unfold next in refl)
last-is g k (WindowEffect.none ∷ ds) n h l = last-is g k ds n h l ∙ unfold distance in (unfold next in refl)

-- ---- a number that is held was offered

pub was-offered : (g : Given) (ds : List WindowEffect) (n : ℕ) → held g ds n ≡ true → latest_offer ds n ≡ Latest.none → ⊥
unfolding held latest_offer
was-offered g [] n h l = cc
was-offered g (keeps m c t x ∷ ds) n h l = go (same n m) refl (λ a b. was-offered g ds n a b)
  where
    go : (u : Bool) → same n m ≡ u → (held g ds n ≡ true → latest_offer ds n ≡ Latest.none → ⊥) → ⊥
    go true s ih = let y : by c t x ≡ Latest.none = rw s at l in cc
    go false s ih = ih (rw s at h) (rw s at l)
was-offered g (hands_out m ∷ ds) n h l = go (same n m) refl (λ a. was-offered g ds n a l)
  where
    go : (u : Bool) → same n m ≡ u → (held g ds n ≡ true → ⊥) → ⊥
    go true s ih = cc (rw s at h)
    go false s ih = ih (rw s at h)
was-offered g (logs_out c r e v ∷ ds) n h l = was-offered g ds n (both _ _ h).0 l
was-offered g (WindowEffect.none ∷ ds) n h l = was-offered g ds n h l

-- ---- a fresh window

none-held : (n : ℕ) → sum_of held_bit (replicate n empty) ≡ 0
unfolding sum_of held_bit
none-held zero = refl
none-held (suc n) = omega (arith, none-held n)

pub window-fresh : (g : Given) → WindowInv g [] (W.fresh_book g.first (share g))
unfolding W.fresh_book place_in place_of held hand_outs AllNumbered kept_offers emptied
window-fresh g = record {
  first = refl;
  handed = refl;
  share = refl;
  size = length-replicate {A = Place} (share g) empty;
  places = λ n. sym (alike empty (share g) (W.distance (W.fresh_book g.first (share g)) n));
  numbered = tt;
  balance = omega (arith, none-held (share g));
}
