-- Laws of the ring in which the open R2Ts lie: how many they are, the oldest and those after it, and one more at the end.
use Prim.Native.Nat.{ℕ, zero, suc, ◌+◌, ◌-◌, ◌%◌, ◌<◌}
use mathlib.Core.Path.{◌≡◌, refl, ap}
use mathlib.Core.List.{List, [], ◌∷◌, ◌++◌}
use native.Mathlib.Omega.{arith}
use lib.ListN.{length, set}
use lib.Seq.{get_or-set_same, get_or-set_other}
use Rattle.task.specs.Agree.{place_of, open_of}

pub open-length : (ts es : List ℕ) (i n : ℕ) → length (open_of ts es i n) ≡ n
unfolding open_of
open-length ts es i zero = refl
open-length ts es i (suc n) = ap suc (open-length ts es (i + 1) n)

-- Places are taken modulo 8.
pub open-same : (ts es : List ℕ) (i j n : ℕ) → i % 8 ≡ j % 8 → open_of ts es i n ≡ open_of ts es j n
unfolding open_of
open-same ts es i j zero h = refl
open-same ts es i j (suc n) h = rw (h, open-same ts es (i + 1) (j + 1) n (omega arith))

pub open-oldest : (ts es : List ℕ) (i n : ℕ) → 0 < n → open_of ts es i n ≡ place_of ts es i ∷ open_of ts es (i + 1) (n - 1)
unfolding open_of
open-oldest ts es i zero h = let z : ⊥ = omega arith in absurd z
open-oldest ts es i (suc n) h = let e : suc n - 1 ≡ n = omega arith in rw e

-- The latest is at the end.
open-latest : (ts es : List ℕ) (i n : ℕ) → open_of ts es i (suc n) ≡ open_of ts es i n ++ place_of ts es (i + n) ∷ []
unfolding open_of
open-latest ts es i zero = let e : i + 0 ≡ i = omega arith in rw e
open-latest ts es i (suc n) = let e : i + suc n ≡ i + 1 + n = omega arith in rw e (ap (◌∷◌ (place_of ts es i)) (open-latest ts es (i + 1) n))

-- A place that none of them has may be set.
open-other : (ts es : List ℕ) (i n j t e : ℕ) → ((k : ℕ) → k < n → (i + k) % 8 ≡ j → ⊥) → open_of (set ts j t) (set es j e) i n ≡ open_of ts es i n
unfolding open_of
open-other ts es i zero j t e h = refl
open-other ts es i (suc n) j t e h =
    let apart : i % 8 ≡ j → ⊥ = λ z. h 0 (omega arith) (omega arith) in
    let rest : (k : ℕ) → k < n → (i + 1 + k) % 8 ≡ j → ⊥ = λ k l z. h (suc k) (omega arith) (omega arith) in
    rw (get_or-set_other ts j (i % 8) t 0 apart, get_or-set_other es j (i % 8) e 0 apart, open-other ts es (i + 1) n j t e rest)

pub open-push : (ts es : List ℕ) (i n t e : ℕ) → length ts ≡ 8 → length es ≡ 8 → n < 8
    → open_of (set ts ((i + n) % 8) t) (set es ((i + n) % 8) e) i (suc n) ≡ open_of ts es i n ++ record { tag = t; end = e } ∷ []
open-push ts es i n t e p q h =
    let j = (i + n) % 8 in
    let apart : (k : ℕ) → k < n → (i + k) % 8 ≡ (i + n) % 8 → ⊥ = λ k l z. omega arith in
    rw (
      open-latest (set ts j t) (set es j e) i n,
      open-other ts es i n j t e apart,
      get_or-set_same ts j t 0 (omega arith),
      get_or-set_same es j e 0
          (omega arith),
    )
