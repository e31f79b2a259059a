-- Counts of set bits, by induction on the places, with n / 2 and n % 2 for the bits that are left and the lowest.
use Prim.Native.Nat.{ℕ, zero, suc, ◌/◌, ◌^◌, ◌≤◌, ◌<◌}
use mathlib.Core.Path.{◌≡◌, sym, ap, ◌∙◌}
use mathlib.Core.List.{List, [], ◌∷◌}
use native.Mathlib.Nat.{pow-suc}
use native.Mathlib.Omega.{arith}
use lib.Count.{ones, ones_step, ones-ones}
use lib.ListN.{length, get_or, take, drop}
use Rattle.std.proofs.Math.Seq.{take-length}
use Rattle.place_map.specs.Bit.{bit_at}
use Rattle.place_map.proofs.Bits.{bit-zero, bit-suc}
use Rattle.window.specs.Book.{Place, empty, sum_of}

-- of the bits of the first g places
pub ones-to : (f : Place → ℕ) (l : List Place) (g n : ℕ) → ((d : ℕ) → d < g → bit_at n d ≡ f (get_or l d empty)) → g ≤ length l → n < 2 ^ g
    → ones n ≡ sum_of f (take g l)
unfolding sum_of
ones-to f l zero n m s h = ap ones (omega arith) ∙ ones-ones 0
ones-to f [] (suc g) n m s h = absurd (omega arith)
ones-to f (p ∷ l) (suc g) n m s h =
    omega (
      arith,
      ones_step n,
      bit-zero n,
      m 0 (omega arith),
      ones-to f l g (n / 2) (λ d k. sym (bit-suc n d) ∙ m (suc d) (omega arith)) (omega arith) (omega (arith, pow-suc 2 g)),
    )

-- of the bits from g on
pub ones-from : (f : Place → ℕ) (l : List Place) (g n : ℕ) → ((d : ℕ) → d < g → bit_at n d ≡ 0) → ((d : ℕ) → g ≤ d → bit_at n d ≡ f (get_or l d empty))
    → n < 2 ^ length l → ones n ≡ sum_of f (drop g l)
unfolding sum_of
ones-from f l zero n z m h = ones-to f l (length l) n (λ d k. m d (omega arith)) (omega arith) h ∙ ap (sum_of f) (take-length l)
ones-from f [] (suc g) n z m h = ap ones (omega arith) ∙ ones-ones 0
ones-from f (p ∷ l) (suc g) n z m h =
    omega (
      arith,
      ones_step n,
      bit-zero n,
      z 0 (omega arith),
      ones-from f l g (n / 2) (λ d k. sym (bit-suc n d) ∙ z (suc d) (omega arith)) (λ d k. sym (bit-suc n d) ∙ m (suc d) (omega arith))
          (omega (arith, pow-suc 2 (length l))),
    )
