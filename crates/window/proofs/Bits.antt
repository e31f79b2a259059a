-- Laws of the maps of a list of places. By induction on the place, with n / 2 and n % 2 for the bits that are left and the
-- lowest.
use Rattle.std.proofs.Common.{◌≡◌, ℕ, zero, suc, ◌/◌, ◌%◌, ◌^◌, ◌<◌, ◌≤◌, List, [], ◌∷◌, ◌++◌, length, get_or, drop, set, replicate, sym, refl, ap, ◌∙◌, arith}
use Rattle.std.proofs.lemmas.Grind.{common_steps}
use Rattle.place_map.specs.Bit.{bit_at, with_bit, Gapless}
use Rattle.place_map.proofs.Bits.{bit-zero, bit-suc, bit-lt, bit-none, bit-or, bit-same, bit-other}
use Rattle.window.specs.Book.{Place, empty, holds, gapless}
use Rattle.window.specs.Agree.{Maps, held_bit}

-- ---- maps

module _ (f : Place → ℕ) where
  pub maps-tail : (n : ℕ) (p : Place) (l : List Place) → Maps n f (p ∷ l) → Maps (n / 2) f l
  unfolding Maps
  maps-tail n p l h d = sym (bit-suc n d) ∙ h (suc d)

  pub maps-head : (n : ℕ) (p : Place) (l : List Place) → Maps n f (p ∷ l) → n % 2 ≡ f p
  unfolding Maps
  maps-head n p l h = sym (bit-zero n) ∙ h 0

-- the places after one is handed out
pub shifted : (l : List Place) (d : ℕ) → get_or (drop 1 l ++ empty ∷ []) d empty ≡ get_or l (suc d) empty
shifted [] zero = refl
shifted [] (suc d) = refl
shifted (p ∷ l) d = padded l d
  where
    padded : (l : List Place) (d : ℕ) → get_or (l ++ empty ∷ []) d empty ≡ get_or l d empty
    padded [] zero = refl
    padded [] (suc d) = refl
    padded (p ∷ l) zero = refl
    padded (p ∷ l) (suc d) = padded l d

pub maps-shift : (f : Place → ℕ) (n : ℕ) (l : List Place) → Maps n f l → Maps (n / 2) f (drop 1 l ++ empty ∷ [])
unfolding Maps
maps-shift f n l h d = sym (bit-suc n d) ∙ h (suc d) ∙ ap f (sym (shifted l d))

-- a place that is set, with its bit
pub maps-set : (f : Place → ℕ) (n k : ℕ) (x : Place) (l : List Place) → Maps n f l → k < length l → f x ≡ 1 → Maps (with_bit n k) f (set l k x)
unfolding Maps with_bit
maps-set f n k x l h b e d = grind (arith, common_steps, bit-or n (2 ^ k) d, bit-same, bit-other, bit-lt)

-- a place that is set, whose bit stays
pub maps-keep : (f : Place → ℕ) (n k : ℕ) (x : Place) (l : List Place) → Maps n f l → k < length l → f x ≡ f (get_or l k empty) → Maps n f (set l k x)
unfolding Maps
maps-keep f n k x l h b e d = grind (arith, common_steps)

-- a list of one thing alone
pub alike : {A : Type 0} (x : A) (n d : ℕ) → get_or (replicate n x) d x ≡ x
alike x zero d = refl
alike x (suc n) zero = refl
alike x (suc n) (suc d) = alike x n d

pub maps_none : (f : Place → ℕ) (n : ℕ) → f empty ≡ 0 → Maps 0 f (replicate n empty)
unfolding Maps
maps_none f n e d = bit-none d ∙ sym e ∙ ap f (sym (alike empty n d))

-- the held places without a gap
pub gapless-is : (l : List Place) (n g : ℕ) → Maps n held_bit l → g ≤ length l → ((d : ℕ) → d < g → bit_at n d ≡ 1) → (g < length l → bit_at n g ≡ 0)
    → g ≡ gapless l
unfolding gapless held_bit
gapless-is [] n g m f s e = omega arith
gapless-is (empty ∷ l) n zero m f s e = refl
gapless-is (empty ∷ l) n (suc g) m f s e = absurd (omega (arith, maps-head held_bit n empty l m, bit-zero n, s 0 (omega arith)))
gapless-is (holds p ∷ l) n zero m f s e = absurd (omega (arith, maps-head held_bit n (holds p) l m, bit-zero n, e (omega arith)))
gapless-is (holds p ∷ l) n (suc g) m f s e =
    ap suc (gapless-is l (n / 2) g (maps-tail held_bit n (holds p) l m) (omega arith)
    (λ d k. sym (bit-suc n d) ∙ s (suc d) (omega arith)) (λ k. sym (bit-suc n g) ∙ e (omega arith)))

pub counts : (l : List Place) (n g : ℕ) → length l ≡ 64 → Maps n held_bit l → Gapless n g → g ≡ gapless l
counts l n g e m c = gapless-is l n g m (omega (arith, c.fits)) c.set_below (λ k. c.clear_at (omega arith))
