-- A logout of the code against the book's: what each place is after it, and so each bit of the maps. `mine` is the map of the commands
-- that the logout concerns, and `first` that of the g places before ExpCmdSN.
use Prim.Native.Nat.{ℕ, ◌-◌, ◌^◌, ◌≤◌, ◌<◌, min, max}
use mathlib.Core.Path.{◌≡◌, refl, sym, ap, ◌∙◌}
use mathlib.Core.Bool.{Bool, true, false}
use mathlib.Core.List.{List, [], map}
use native.Mathlib.Nat.{lt_of_le_of_lt}
use native.Mathlib.Omega.{arith}
use native.Mathlib.Decide.{dec_lt}
use borrow.Author.Tests.{tests}
use lib.Dec.{eqb, ltb}
use lib.Pow.{pow_mono, pow_pos}
use lib.Bits.{bit_and, bit_or, and_le_l, and_le_r}
use lib.Count.{ones}
use lib.ListN as ListN
use lib.ListN.{length, get_or, drop, set, length-set, get_or-eq_default, get_or-map}
use Rattle.std.proofs.lemmas.Grind.{common_steps}
use Rattle.field.specs.Field.{pick}
use Rattle.place_map.specs.Bit.{bit_at, without, each_without, Gapless}
use Rattle.place_map.proofs.Bits.{four, bit-none, bit-lt, bit-or, bit-and, bit_high, bit_below, bit-above, bit-without, without-lt}
use Rattle.window.specs.declared.Window.{Window}
use Rattle.window.specs.PlaceSlot.{slot_of}
use Rattle.window.specs.Book.{Place, empty, Book, next, logout, logged_out, is_from, concerns, spared, before, after, left, emptied_at, voided_at, sum_of, after_logout, logout_step}
use Rattle.window.specs.Agree.{Commands, state, held_bit, void_bit, origin_bit, Maps, SlotHas, Agrees, MeetsAt}
use Rattle.window.proofs.Bits.{counts}
use Rattle.window.proofs.PlaceSlot.{slot-stays}
use Rattle.window.proofs.Steps.{met, all-places}
use Rattle.window.proofs.Left.{length-left, left-before, left_after, held-before, logout-at}
use Rattle.window_logout.proofs.Counts.{ones-to, ones-from}

-- ---- a place after the logout

held-lt : (p : Place) → held_bit p < 2
unfolding held_bit
held-lt p = grind arith

void-lt : (p : Place) → void_bit p < 2
unfolding void_bit
void-lt p = grind arith

origin-lt : (k : ℕ) (p : Place) → origin_bit k p < 2
unfolding origin_bit
origin-lt k p = grind arith

voided-lt : (c r : ℕ) (p : Place) → voided_at c r p < 2
unfolding voided_at
voided-lt c r p = grind arith

concerned : (c r : ℕ) (p : Place) → emptied_at c r p ≡ pick (eqb r 0) (held_bit p) (origin_bit c p)
unfolding emptied_at concerns held_bit origin_bit
concerned c r p = grind arith

newly : (c r : ℕ) (p : Place) → voided_at c r p ≡ pick (eqb r 2) 0 (min (emptied_at c r p) (1 - void_bit p))
unfolding voided_at emptied_at void_bit
newly c r p = grind arith

-- whatever a map has of a command
emptied : (f : Place → ℕ) → f empty ≡ 0 → (c r : ℕ) (p : Place) → f p < 2 → f (after c r p) ≡ min (f p) (1 - emptied_at c r p)
unfolding after emptied_at
emptied f z c r p l = grind arith

void-before : (c r : ℕ) (p : Place) → void_bit (before c r p) ≡ max (void_bit p) (voided_at c r p)
unfolding void_bit before spared voided_at
void-before c r p = grind arith

-- the origin stays, but with reason 2, with which a command of c has none any more, before ExpCmdSN and after it
origin-before : (k c r : ℕ) (p : Place) → eqb r 2 ≡ false → origin_bit k (before c r p) ≡ origin_bit k p
unfolding origin_bit before spared
origin-before k c r p q = grind arith

lost-before : (k c r : ℕ) (p : Place) → eqb r 2 ≡ true → origin_bit k (before c r p) ≡ pick (eqb k c) 0 (origin_bit k p)
unfolding origin_bit before spared concerns is_from
lost-before k c r p q = grind (arith, tests)

lost-after : (k c r : ℕ) (p : Place) → eqb r 2 ≡ true → origin_bit k (after c r p) ≡ pick (eqb k c) 0 (origin_bit k p)
unfolding origin_bit after concerns is_from
lost-after k c r p q = grind (arith, tests)

slot-before : (cs : Commands) (j c r : ℕ) (p : Place) → SlotHas cs j p → SlotHas cs j (before c r p)
unfolding SlotHas before spared
slot-before cs j c r p s = grind arith

slot-after : (cs : Commands) (j c r : ℕ) (p : Place) → SlotHas cs j p → SlotHas cs j (after c r p)
unfolding SlotHas after
slot-after cs j c r p s = grind arith

-- ---- the maps of origins

-- with that of c empty
lost : (l : List ℕ) (c k : ℕ) → length l ≡ 4 → get_or (pick (ltb c 4) (set l c 0) l) k 0 ≡ pick (eqb k c) 0 (get_or l k 0)
lost l c k e = grind (arith, tests, common_steps)

each : (l : List ℕ) (m k : ℕ) → length l ≡ 4 → get_or (each_without l m) k 0 ≡ without (get_or l k 0) m
unfolding each_without
each l m k e =
    let none : without 0 m ≡ 0 = unfold without in (omega (arith, and_le_l 0 (2 ^ 64 - 1 - m))) in
    let all = get_or-map (λ (n : ℕ). without n m) l k 0 in
    ap (λ (x : List ℕ). get_or (map (λ (n : ℕ). without n m) x) k 0) (four 0 l e) ∙ rw none at all

left-size : (l : List ℕ) (u : Bool) (c m : ℕ) → length l ≡ 4 → length (pick u (pick (ltb c 4) (set l c 0) l) (each_without l m)) ≡ 4
unfolding each_without
left-size l u c m e = grind (arith, common_steps)

-- ---- the maps

module _ (x : Window) (cs : Commands) (b : Book) (c r g first mine : ℕ) (a : Agrees (state x cs) b) (run : Gapless x.held g) (first-is : first ≡ 2 ^ g - 1)
    (mine-is : mine ≡ pick (eqb r 0) x.held (get_or x.origins c 0)) (lm : mine < 2 ^ 64) (lv : x.voided < 2 ^ 64) where
  abbrev at : ℕ → Place
  at d = get_or b.held d empty

  abbrev gone : ℕ
  gone = without mine first

  -- what holds of each place before and of each after holds of all
  left-all : (P : ℕ → Place → Type 0) → ((d : ℕ) → d < g → P d (before c r (at d))) → ((d : ℕ) → g ≤ d → P d (after c r (at d)))
      → (d : ℕ) → P d (get_or (left c r g b.held) d empty)
  left-all P i o d = go (dec_lt d g)
    where
      go : Dec (d < g) → P d (get_or (left c r g b.held) d empty)
      go (yes h) = rw (left-before c r g b.held d h) (i d h)
      go (no h) = let k : g ≤ d = omega arith in rw (left_after c r g b.held d k) (o d k)

  mine-bit : (d : ℕ) → bit_at mine d ≡ emptied_at c r (at d)
  unfolding Maps
  mine-bit d = grind (arith, mine-is, a.held d, a.origins c d, concerned c r (at d))

  first-in : (d : ℕ) → d < g → bit_at first d ≡ 1
  first-in d l = rw first-is (bit_below g d l)

  first-out : (d : ℕ) → g ≤ d → bit_at first d ≡ 0
  first-out d l = rw first-is (bit-above g d l)

  gone-bit : (d : ℕ) → bit_at gone d ≡ min (emptied_at c r (at d)) (1 - bit_at first d)
  gone-bit d =
      omega (arith, bit-without mine first d (bit_high 64 mine d lm) (omega (arith, first-is, pow_mono {i = g} {j = 64} run.fits)), mine-bit d)

  gone-lt : gone < 2 ^ 64
  gone-lt = without-lt mine first lm

  -- a map without what is emptied
  maps-left : (f : Place → ℕ) → f empty ≡ 0 → ((p : Place) → f p < 2) → (n : ℕ) → ((d : ℕ) → d < g → bit_at n d ≡ f (before c r (at d)))
      → ((d : ℕ) → g ≤ d → bit_at n d ≡ f (at d)) → Maps (without n gone) f (left c r g b.held)
  unfolding Maps
  maps-left f z s n i o = left-all (λ d p. bit_at (without n gone) d ≡ f p)
      (λ d l. omega (arith, bit-without n gone d (λ k. absurd (omega (arith, run.fits))) gone-lt, gone-bit d, first-in d l, bit-lt n d, i d l))
      (λ d l. omega (arith, bit-without n gone d (λ k. o d l ∙ past d k ∙ z) gone-lt, gone-bit d, first-out d l, o d l, emptied f z c r (at d) (s (at d))))
    where
      past : (d : ℕ) → 64 ≤ d → f (at d) ≡ f empty
      past d l = ap f (get_or-eq_default b.held empty {n = d} (omega (arith, all-places (state x cs) b a)))

  module _ (new : ℕ) (new-is : new ≡ pick (eqb r 2) 0 (without (bit_and mine first) x.voided)) where
    new-bit : (d : ℕ) → bit_at new d ≡ min (voided_at c r (at d)) (bit_at first d)
    unfolding Maps
    new-bit d =
        let both : bit_and mine first < 2 ^ 64 = lt_of_le_of_lt (and_le_l mine first) lm in
        grind (
          arith,
          new-is,
          bit-none d,
          bit-without (bit_and mine first) x.voided d (bit_high 64 (bit_and mine first) d both) lv,
          bit-and mine first d,
          mine-bit d,
          a.voided d,
          newly c r (at d),
        )

    new-le : new ≤ first
    unfolding without
    new-le = grind (arith, new-is, and_le_l (bit_and mine first) (2 ^ 64 - 1 - x.voided), and_le_r mine first)

    void-in : (d : ℕ) → d < g → bit_at (bit_or x.voided new) d ≡ void_bit (before c r (at d))
    unfolding Maps
    void-in d l =
        omega (arith, bit-or x.voided new d, a.voided d, new-bit d, first-in d l, voided-lt c r (at d), void-before c r (at d))

    void-out : (d : ℕ) → g ≤ d → bit_at (bit_or x.voided new) d ≡ void_bit (at d)
    unfolding Maps
    void-out d l = omega (arith, bit-or x.voided new d, a.voided d, new-bit d, first-out d l)

    origins-left : (k : ℕ) (u : Bool) → eqb r 2 ≡ u
        → Maps (get_or (pick u (pick (ltb c 4) (set x.origins c 0) x.origins) (each_without x.origins gone)) k 0) (origin_bit k) (left c r g b.held)
    unfolding Maps
    origins-left k true e =
        let bit : (d : ℕ) → bit_at (pick (eqb k c) 0 (get_or x.origins k 0)) d ≡ pick (eqb k c) 0 (origin_bit k (at d)) =
        λ d. grind (arith, bit-none d, a.origins k d) in
        rw (lost x.origins c k a.origins_size) (left-all (λ d p. bit_at (pick (eqb k c) 0 (get_or x.origins k 0)) d ≡ origin_bit k p)
        (λ d l. bit d ∙ sym (lost-before k c r (at d) e)) (λ d l. bit d ∙ sym (lost-after k c r (at d) e)))
    origins-left k false e =
        rw (each x.origins gone k a.origins_size)
        (maps-left (origin_bit k) (unfold origin_bit in refl) (origin-lt k) (get_or x.origins k 0)
        (λ d l. a.origins k d ∙ sym (origin-before k c r (at d) e)) (λ d l. a.origins k d))

    count-emptied : ones gone ≡ sum_of (emptied_at c r) (drop g b.held)
    count-emptied =
        ones-from (emptied_at c r) b.held g gone (λ d l. omega (arith, gone-bit d, first-in d l))
        (λ d l. omega (arith, gone-bit d, first-out d l, mine-bit d, bit-lt mine d)) (rw (all-places (state x cs) b a) gone-lt)

    count-voided : ones new ≡ sum_of (voided_at c r) (ListN.take g b.held)
    count-voided =
        ones-to (voided_at c r) b.held g new (λ d l. omega (arith, new-bit d, first-in d l, voided-lt c r (at d)))
        (omega (arith, run.fits, all-places (state x cs) b a)) (omega (arith, new-le, first-is, pow_pos g))

    pub logout-meets : (x' : Window) → x'.next ≡ x.next → x'.handed ≡ x.handed → x'.held ≡ without x.held gone
        → x'.voided ≡ without (bit_or x.voided new) gone
        → x'.origins ≡ pick (eqb r 2) (pick (ltb c 4) (set x.origins c 0) x.origins) (each_without x.origins gone)
        → MeetsAt (logout c r) (state x cs) (logged_out (ones gone) (ones new)) [] (state x' cs) b
    unfolding after_logout next logout_step
    logout-meets x' e1 e2 e3 e4 e5 =
        met _ _ _ _ _ b (after_logout b c r g)
        (logout-at b c r g (counts b.held x.held g (all-places (state x cs) b a) a.held run) ∙ rw (count-emptied, count-voided))
        (record {
          next = e1 ∙ a.next;
          handed = e2 ∙ a.handed;
          share = a.share;
          size = length-left c r g b.held ∙ a.size;
          headers_size = a.headers_size;
          tickets_size = a.tickets_size;
          origins_size = rw e5 (left-size x.origins (eqb r 2) c gone a.origins_size);
          held = rw e3 (maps-left held_bit (unfold held_bit in refl) held-lt x.held
              (λ d l. unfold Maps in a.held d ∙ sym (held-before c r (at d))) (λ d l. unfold Maps in a.held d));
          voided = rw e4 (maps-left void_bit (unfold void_bit in refl) void-lt (bit_or x.voided new) void-in void-out);
          origins = λ k. rw e5 (origins-left k (eqb r 2) refl);
          in_slots = λ d. rw (slot-stays x x' d e1) (left-all (λ d p. SlotHas cs (slot_of x d) p)
              (λ d l. slot-before cs (slot_of x d) c r (at d) (a.in_slots d))
              (λ d l. slot-after cs (slot_of x d) c r (at d) (a.in_slots d)) d);
        })
