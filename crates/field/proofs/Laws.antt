-- Big-endian fields, over the width: reading (`be-suc`, `be-lt`) and writing (`bytes-join`, `bytes_cut`; `sets-append`, `paste-sets`).
use mathlib.Core.Path.{◌≡◌, refl, sym, ap, subst, ◌∙◌}
use mathlib.Core.List.{List, [], ◌∷◌, ◌++◌, append_assoc, append-nil}
use Prim.Native.Nat.{ℕ, zero, suc, ◌+◌, ◌*◌, ◌/◌, ◌%◌, ◌^◌, ◌<◌, ◌≤◌}
use native.Mathlib.Nat.{pow-suc, pow-succ', div-div-eq-div-mul, mod-lt, div-add-mod', zero-add, mul_assoc, add-suc, suc-add, add-zero}
use native.Mathlib.Numerals.{add-one}
use native.Mathlib.Omega.{arith}
use lib.ListN.{length, get_or, set, take, length-append}
use lib.Seq.{paste, sets, sets-eq, take_all}
use Rattle.std.specs.Int.{byte_at, bytes_high_first}
use Rattle.field.specs.Field.{be_at, bytes_of}

pub be-suc : (s : List ℕ) (at n : ℕ) → be_at s at (n + 1) ≡ be_at s at n * 256 + get_or s (at + n) 0
unfolding be_at
be-suc s at n = rw add-one

-- a number of n bytes is below 256 ^ n
pub be-lt : (s : List ℕ) (at n : ℕ) → ((i : ℕ) → get_or s i 0 < 256) → be_at s at n < 256 ^ n
unfolding be_at
be-lt s at zero h = omega arith
be-lt s at (suc n) h = rw pow-suc (omega (arith, be-lt s at n h, h (at + n)))

pub length-bytes : (n v : ℕ) → length (bytes_of n v) ≡ n
unfolding bytes_of
length-bytes zero v = refl
length-bytes (suc n) v = length-append (bytes_of n (v / 256)) (v % 256 ∷ []) ∙ ap (λ (k : ℕ). k + 1) (length-bytes n (v / 256)) ∙ add-one n

-- the bytes of a number that is made of two: the higher n bytes, then the lower m
pub bytes-join : (n m v u : ℕ) → u < 256 ^ m → bytes_of (n + m) (v * 256 ^ m + u) ≡ bytes_of n v ++ bytes_of m u
unfolding bytes_of
bytes-join n zero v u h =
    let e : v * 256 ^ 0 + u ≡ v = omega arith in
    rw (add-zero, e) (sym (append-nil (bytes_of n v)))
bytes-join n (suc m) v u h =
    let p : u < 256 ^ m * 256 = subst (λ (k : ℕ). u < k) (pow-suc 256 m) h in
    let x : v * 256 ^ suc m ≡ v * 256 ^ m * 256 = ap (λ (k : ℕ). v * k) (pow-suc 256 m) ∙ sym (mul_assoc v (256 ^ m) 256) in
    let high : (v * 256 ^ suc m + u) / 256 ≡ v * 256 ^ m + u / 256 = omega (arith, x) in
    let low : (v * 256 ^ suc m + u) % 256 ≡ u % 256 = omega (arith, x) in
    rw (add-suc, high, low, bytes-join n m v (u / 256) (omega (arith, p))) (append_assoc (bytes_of n v) (bytes_of m (u / 256)) (u % 256 ∷ []))

-- the library's bytes of a number are these
byte_above : (i v : ℕ) → byte_at (suc i) v ≡ byte_at i (v / 256)
byte_above zero v = refl
byte_above (suc i) v = ap (λ (p : ℕ). v / p % 256) (pow-succ' 256 (suc i)) ∙ ap (λ (p : ℕ). p % 256) (sym (div-div-eq-div-mul v 256 (256 ^ suc i)))

last_apart : (n v : ℕ) → bytes_high_first (suc n) v ≡ bytes_high_first n (v / 256) ++ (v % 256 ∷ [])
last_apart zero v = refl
last_apart (suc n) v = rw (byte_above n v, last_apart n v)

pub bytes-high_first : (n v : ℕ) → bytes_high_first n v ≡ bytes_of n v
unfolding bytes_of
bytes-high_first zero v = refl
bytes-high_first (suc n) v = last_apart n v ∙ ap (λ (b : List ℕ). b ++ (v % 256 ∷ [])) (bytes-high_first n (v / 256))

pos-pow : (n : ℕ) → 0 < 256 ^ n
pos-pow zero = omega arith
pos-pow (suc n) = rw pow-suc (omega (arith, pos-pow n))

-- what is above n bytes is left out
pub bytes_cut : (n v : ℕ) → bytes_of n (v % 256 ^ n) ≡ bytes_of n v
unfolding bytes_of
bytes_cut n v =
    sym (bytes-join 0 n (v / 256 ^ n) (v % 256 ^ n) (mod-lt v (pos-pow n)))
    ∙ ap (λ (k : ℕ). bytes_of k (v / 256 ^ n * 256 ^ n + v % 256 ^ n)) (zero-add n)
    ∙ ap (λ (k : ℕ). bytes_of n k) (div-add-mod' v (256 ^ n))

-- a run of stores after another
pub sets-append : (l : List ℕ) (i : ℕ) (a b : List ℕ) → sets (sets l i a) (i + length a) b ≡ sets l i (a ++ b)
sets-append l i [] b = rw add-zero
sets-append l i (x ∷ xs) b =
    ap (λ (k : ℕ). sets (sets (set l i x) (suc i) xs) k b) (add-suc i (length xs) ∙ sym (suc-add i (length xs)))
    ∙ sets-append (set l i x) (suc i) xs b

-- a list pasted whole is a run of stores
pub paste-sets : (l : List ℕ) (at : ℕ) (b : List ℕ) (n : ℕ) → length b ≡ n → at + n ≤ length l → paste l at b n ≡ sets l at b
paste-sets l at b n e h =
    let all : take n b ≡ b = ap (λ (k : ℕ). take k b) (sym e) ∙ take_all (length b) b (omega arith) in
    rw (all, ← e) (sym (sets-eq b l at (subst (λ (k : ℕ). at + k ≤ length l) (sym e) h)))
