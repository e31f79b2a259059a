-- Words that fit, one by one, of a test over several.
use mathlib.Core.Path.{◌≡◌, refl}
use mathlib.Core.Bool.{Bool, true, false, ◌&&◌}
use mathlib.Core.List.{List}
use Prim.Native.Nat.{ℕ, ◌<◌, ◌^◌}
use native.Mathlib.Omega.{arith}
use borrow.Author.Tests.{ltb-true}
use Rattle.words.specs.Words.{word, fits}

pub both : (a b : Bool) → (a && b) ≡ true → (a ≡ true) × (b ≡ true)
both true b e = (refl, e)
both false b e = let z : ◌≡◌ {A = ℕ} 0 1 = cc in absurd (omega arith)

module _ (w : List ℕ) where
  -- word i has at most n bits
  abbrev pub Within : ℕ → ℕ → Type 0
  Within n i = word w i < 2 ^ n

  pub one : (n i : ℕ) → fits w n i ≡ true → Within n i
  one n i e = ltb-true (word w i) (2 ^ n) e

  pub two : (n i m j : ℕ) → (fits w n i && fits w m j) ≡ true → Within n i × Within m j
  two n i m j e = let p = both (fits w n i) (fits w m j) e in (one n i p.0, one m j p.1)

  pub four : (n i m j k a l b : ℕ) → ((fits w n i && fits w m j) && (fits w k a && fits w l b)) ≡ true → (Within n i × Within m j) × (Within k a × Within l b)
  four n i m j k a l b e =
      let p = both (fits w n i && fits w m j) (fits w k a && fits w l b) e in
      (two n i m j p.0, two k a l b p.1)
