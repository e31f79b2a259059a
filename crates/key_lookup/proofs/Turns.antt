-- A known name's key is the first of its candidates or the second, and a name without candidates isn't known.
use mathlib.Core.Path.{◌≡◌, refl, sym, ap, ◌∙◌, subst}
use mathlib.Core.Bool.{Bool, true, false}
use mathlib.Core.List.{List, []}
use Prim.Native.Nat.{ℕ, ◌<◌}
use native.Mathlib.Omega.{arith}
use lib.ListN.{get_or}
use Rattle.std.specs.Prelude.{Option, Some, None, MatchOption}
use Rattle.std.specs.Bool.{then_some}
use Rattle.text.specs.Text.{has, same}
use Rattle.text.proofs.Laws.{false-true}
use Rattle.key_table.specs.Table.{name_at, key_of, place_of_key, place_of_found}
use Rattle.key_table.specs.declared.table.Key.{Key}
use Rattle.key_table.proofs.Tables.{unknown, place-few}
use Rattle.key_names.specs.Candidates.{candidates_of}
use Rattle.key_names.proofs.Laws.{found, there, hit, missed, known-candidate}
use Rattle.key_lookup.specs.Lookup.{AreFirstTwo}

module _ (n : List ℕ) where
  pub none_there : candidates_of n ≡ [] → 28 ≡ key_of n
  unfolding has
  none_there e = unknown n (λ p. false-true (sym (ap (has (key_of n)) e) ∙ known-candidate n p))

  pub among : (k : Key) (i : ℕ) → place_of_key k ≡ get_or (candidates_of n) i 28 → has (place_of_key k) (candidates_of n) ≡ true
  among k i e = subst (λ (x : ℕ). has x (candidates_of n) ≡ true) (sym e) (there (candidates_of n) i (λ z. omega (arith, e, z, place-few k)))

  -- The second is left, or none.
  module _ (f : Key) (miss : same n (name_at (place_of_key f)) ≡ false) where
    left : (s : Option Key) → AreFirstTwo (candidates_of n) (f, s) → key_of n < 28 → key_of n ≡ place_of_found s
    left s t p = found n p (λ e. absurd (missed n (place_of_key f) miss p (e ∙ sym t.first))) (λ b e. e ∙ sym t.second)

    go : (k : Key) (b : Bool) → same n (name_at (place_of_key k)) ≡ b → AreFirstTwo (candidates_of n) (f, Some k) → place_of_found (then_some b k) ≡ key_of n
    go k true e t = hit n (place_of_key k) (among k 1 t.second) e
    go k false e t = unknown n (λ p. missed n (place_of_key k) e p (left (Some k) t p))

    pub last : (s r : Option Key) → AreFirstTwo (candidates_of n) (f, s) → MatchOption s (r ≡ None) (λ k. r ≡ then_some (same n (name_at (place_of_key k))) k)
        → place_of_found r ≡ key_of n
    last None r t e = rw e (unknown n (λ p. omega (arith, left None t p, p)))
    last (Some k) r t e = rw e (go k (same n (name_at (place_of_key k))) refl t)
