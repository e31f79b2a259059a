-- The places after a logout of the book: the first g lie before ExpCmdSN.
use Rattle.std.proofs.Common.{◌≡◌, ℕ, zero, suc, ◌<◌, ◌≤◌, List, [], ◌∷◌, length, get_or, sym, refl, ap, arith}
use Rattle.window.specs.Agree.{held_bit}
use Rattle.window.specs.Book.{Place, empty, Book, gapless, logout, before, after, left, logout_step, book_step}

module _ (c r : ℕ) where
  pub length-left : (g : ℕ) (l : List Place) → length (left c r g l) ≡ length l
  unfolding left
  length-left zero [] = refl
  length-left (suc g) [] = refl
  length-left zero (p ∷ l) = ap suc (length-left zero l)
  length-left (suc g) (p ∷ l) = ap suc (length-left g l)

  pub left-before : (g : ℕ) (l : List Place) (d : ℕ) → d < g → get_or (left c r g l) d empty ≡ before c r (get_or l d empty)
  unfolding left before
  left-before zero l d h = absurd (omega arith)
  left-before (suc g) [] d h = refl
  left-before (suc g) (p ∷ l) zero h = refl
  left-before (suc g) (p ∷ l) (suc d) h = left-before g l d (omega arith)

  pub left_after : (g : ℕ) (l : List Place) (d : ℕ) → g ≤ d → get_or (left c r g l) d empty ≡ after c r (get_or l d empty)
  unfolding left after
  left_after zero [] d h = refl
  left_after (suc g) [] d h = refl
  left_after zero (p ∷ l) zero h = refl
  left_after zero (p ∷ l) (suc d) h = left_after zero l d (omega arith)
  left_after (suc g) (p ∷ l) zero h = absurd (omega arith)
  left_after (suc g) (p ∷ l) (suc d) h = left_after g l d (omega arith)

  pub held-before : (p : Place) → held_bit (before c r p) ≡ held_bit p
  unfolding held_bit before
  held-before p = grind arith

-- "ExpCmdSN is the one before the logout"
pub logout-at : (b : Book) (c r g : ℕ) → g ≡ gapless b.held → book_step b (logout c r) ≡ logout_step b c r g
unfolding book_step
logout-at b c r g e = ap (logout_step b c r) (sym e)
