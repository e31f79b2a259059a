-- `window::origin_at` meets its contract: the first connection whose map has the place, since a place has one origin at most.
use Rattle.std.proofs.Common.{◌≡◌, ℕ, ◌<◌, ◌≤◌, Option, Some, None, MatchOption, get_or, sym, ap, ◌∙◌, arith}
use Rattle.std.proofs.lemmas.Iterator.{first_from_Range}
use native.Mathlib.Decide.{dec_lt}
use lib.ListN.{get_or-eq_default}
use borrow.Author.Rules.{rules}
use borrow.Author.Tests.{tests}
use Rattle.place_map.specs.Bit.{bit_at}
use Rattle.place_map.proofs.Bits.{bit-lt, bit-none}
use Rattle.window.specs.declared.Window.{Window}
use Rattle.window.specs.Book.{Book, empty}
use Rattle.window.specs.Agree.{Commands, state, Maps, Agrees, OriginAt, origin_of}
use Rattle.window.proofs.Steps.{origin-connection, origin-none}
use Rattle.window.proofs.origin_at.Goals as goal

module _ (w : Window) (cs : Commands) (b : Book) (d : ℕ) (g : Agrees (state w cs) b) where
  abbrev pub Has : ℕ → Type 0
  Has k = bit_at (get_or w.origins k 0) d ≡ 1

  none-at : ((k : ℕ) → 0 ≤ k → k < 4 → Has k → ⊥) → (k : ℕ) → Dec (k < 4) → bit_at (get_or w.origins k 0) d ≡ 0
  none-at h k (yes l) = omega (arith, bit-lt (get_or w.origins k 0) d, h k (omega arith) l)
  none-at h k (no l) = ap (λ (x : ℕ). bit_at x d) (get_or-eq_default w.origins 0 {n = k} (omega (arith, g.origins_size))) ∙ bit-none d

  pub first : (r : Option ℕ)
      → MatchOption r ((k : ℕ) → 0 ≤ k → k < 4 → Has k → ⊥) (λ i. (0 ≤ i) × (i < 4) × Has i × ((k : ℕ) → 0 ≤ k → k < i → Has k → ⊥))
      → OriginAt (origin_of r) (get_or b.held d empty)
  unfolding Maps
  first None h = origin-none (get_or b.held d empty) (λ k. sym (g.origins k d) ∙ none-at h k (dec_lt k 4))
  first (Some c) h = origin-connection c (get_or b.held d empty) (sym (g.origins c d) ∙ h.2)

pub returns : goal.returns
returns c cs b g =
    let w = c.args.w in
    let d = c.args.d in
    first w cs b d g c.find.result
    (first_from_Range _ _ _ _ (Has w cs b d g) (λ k. Has w cs b d g k → ⊥) c.find.ensures.ran
    (λ x q k. search (rules, tests)) (λ x q k. search (rules, tests)))
