-- What a table writes it reads back, and what it reads it writes again: over every table.
use mathlib.Core.Path.{◌≡◌, refl, sym, ap, ◌∙◌}
use mathlib.Core.Bool.{Bool, true, false, ◌&&◌}
use mathlib.Core.List.{List, [], ◌∷◌, ◌++◌, append_assoc}
use Prim.Native.Nat.{ℕ, zero, suc, ◌+◌, ◌-◌, ◌*◌, ◌/◌, ◌%◌, ◌^◌, ◌<◌, ◌≤◌}
use native.Mathlib.Nat.{add-mul-mod_self_left, add-mul-div_left, mod-eq_of_lt, div-eq_of_lt, zero-add, add-zero, pow-suc, div-add-mod', div-lt_iff_lt-mul, mul-suc, mul-le-mul_left, mod-add-div, add_comm}
use native.Mathlib.Omega.{arith}
use lib.Pow.{pow_pos, pow-add, shr_lt}
use lib.Dec.{T, eqb, eqb→eq, lit<}
use lib.ListN.{length, get_or, take, drop, length-append, get_or-append, length-drop, take-append-drop}
use lib.Seq.{get_or-append-add, get_or_at, get_or-drop, take-suc, take-add, drop-drop}
use Rattle.field.specs.Field.{be_at, bytes_of}
use Rattle.header_tables.specs.Table.{Bits, field, unnamed, width, Row, total, digits, pack, Fit, Fits, sound, written, read_by, count_in, count, named_in, named, filled_in, filled}
use Rattle.field.proofs.Laws.{length-bytes, be-lt}

-- ---- big-endian numbers

-- only the bytes read count
be-ext : (s t : List ℕ) (a b n : ℕ) → ((i : ℕ) → i < n → get_or s (a + i) 0 ≡ get_or t (b + i) 0) → be_at s a n ≡ be_at t b n
unfolding be_at
be-ext s t a b zero h = refl
be-ext s t a b (suc n) h = rw (be-ext s t a b n (λ i p. h i (omega arith)), h n (omega arith))

be-bytes : (n v : ℕ) → v < 256 ^ n → be_at (bytes_of n v) 0 n ≡ v
unfolding be_at bytes_of
be-bytes zero v h = omega arith
be-bytes (suc n) v h =
    let b = bytes_of n (v / 256) in
    let t = v % 256 ∷ [] in
    let l : length b ≡ n = length-bytes n (v / 256) in
    let front : be_at (b ++ t) 0 n ≡ v / 256 =
    be-ext (b ++ t) b 0 0 n (λ i p. get_or-append b t 0 (0 + i) (omega arith))
    ∙ be-bytes n (v / 256) ((div-lt_iff_lt-mul (lit< tt)).1 (rw pow-suc at h)) in
    let last : get_or (b ++ t) (0 + n) 0 ≡ v % 256 = get_or_at b (v % 256) [] 0 (0 + n) (omega arith) in
    rw (front, last) (div-add-mod' v 256)

-- a number written in the middle is read back there
be-middle : (p q : List ℕ) (n v : ℕ) → v < 256 ^ n → be_at (p ++ (bytes_of n v ++ q)) (length p) n ≡ v
be-middle p q n v h =
    let b = bytes_of n v in
    be-ext (p ++ (b ++ q)) b (length p) 0 n (λ i l. get_or-append-add p (b ++ q) i 0 ∙ get_or-append b q 0 i (omega (arith, length-bytes n v)) ∙ ap (λ (k : ℕ). get_or b k 0) (sym (zero-add i)))
    ∙ be-bytes n v h

-- the bytes that were read, written again
bytes-be : (s : List ℕ) (at n : ℕ) → at + n ≤ length s → ((i : ℕ) → get_or s i 0 < 256) → bytes_of n (be_at s at n) ≡ take n (drop at s)
unfolding be_at bytes_of
bytes-be s at zero h b = refl
bytes-be s at (suc n) h b =
    let x = be_at s at n in
    let y = get_or s (at + n) 0 in
    let hi : (x * 256 + y) / 256 ≡ x = omega (arith, b (at + n)) in
    let lo : (x * 256 + y) % 256 ≡ y = omega (arith, b (at + n)) in
    rw (hi, lo, bytes-be s at n (omega arith) b, ← (get_or-drop at s n 0))
    (sym (take-suc (drop at s) n 0 (simp length-drop (omega arith))))

-- ---- the bits of a row

digits-pack : (bs : List Bits) (vs : List ℕ) → Fit bs vs → digits bs (pack bs vs) ≡ vs
digits-pack [] [] f = refl
digits-pack [] (v ∷ vs) f = absurd f
digits-pack (b ∷ bs) [] f = absurd f
digits-pack (b ∷ []) (v ∷ []) f = refl
digits-pack (b ∷ []) (v ∷ (u ∷ vs)) f = absurd f.1
digits-pack (b ∷ (d ∷ bs)) (v ∷ vs) f =
    let w = 2 ^ width b in
    let k = pack (d ∷ bs) vs in
    let low : (v + w * k) % w ≡ v = add-mul-mod_self_left v w k ∙ mod-eq_of_lt f.0 in
    let high : (v + w * k) / w ≡ k = add-mul-div_left v k (pow_pos (width b)) ∙ ap (λ (j : ℕ). j + k) (div-eq_of_lt f.0) ∙ zero-add k in
    rw (low, high, digits-pack (d ∷ bs) vs f.1)

pack-digits : (bs : List Bits) (n : ℕ) → n < 2 ^ total bs → pack bs (digits bs n) ≡ n
pack-digits [] n h = omega arith
pack-digits (b ∷ []) n h = refl
pack-digits (b ∷ (d ∷ bs)) n h =
    let t = total (d ∷ bs) in
    rw (pack-digits (d ∷ bs) (n / 2 ^ width b) (shr_lt t (width b) (rw (add_comm (width b) t) at h))) (mod-add-div n (2 ^ width b))

pack-lt : (bs : List Bits) (vs : List ℕ) → Fit bs vs → pack bs vs < 2 ^ total bs
pack-lt [] vs f = lit< tt
pack-lt (b ∷ bs) [] f = absurd f
pack-lt (b ∷ []) (v ∷ vs) f = rw add-zero f.0
pack-lt (b ∷ (d ∷ bs)) (v ∷ vs) f = rw pow-add (omega (arith, f.0, mul-le-mul_left (2 ^ width b) (pack-lt (d ∷ bs) vs f.1)))

-- ---- a sound table

pow-256 : (n : ℕ) → 2 ^ (8 * n) ≡ 256 ^ n
pow-256 zero = refl
pow-256 (suc n) = rw (mul-suc, pow-add, pow-256 n) (sym (pow-suc 256 n))

both : (a b : Bool) → T (a && b) → T a × T b
both true b t = (tt, t)
both false b t = absurd t

-- what soundness says of the first row
record First (at : ℕ) (r : Row) (rs : List Row) : Type 0 where
  pub here : r.at ≡ at
  pub wide : 2 ^ total r.bits ≡ 256 ^ r.size
  pub rest : T (sound (at + r.size) rs)

first : (at : ℕ) (r : Row) (rs : List Row) → T (sound at (r ∷ rs)) → First at r rs
first at r rs t =
    let a = eqb r.at at in
    let b = eqb (total r.bits) (8 * r.size) in
    let u = both (a && b) (sound (at + r.size) rs) t in
    let v = both a b u.0 in
    record {
      here = eqb→eq r.at at v.0;
      wide = rw (eqb→eq (total r.bits) (8 * r.size) v.1) (pow-256 r.size);
      rest = u.1;
    }

ends : (at : ℕ) (rs : List Row) → T (sound at rs) → at ≤ 48
ends at [] t = omega (arith, eqb→eq at 48 t)
ends at (r ∷ rs) t = omega (arith, ends (at + r.size) rs (first at r rs t).rest)

-- THE law: what is written by a table is read back by it, wherever it stands
pub back : (at : ℕ) (rs : List Row) (vss : List (List ℕ)) (p q : List ℕ) → T (sound at rs) → length p ≡ at → Fits rs vss → read_by rs (p ++ (written rs vss ++ q)) ≡ vss
back at [] [] p q t e f = refl
back at [] (v ∷ vs) p q t e f = absurd f
back at (r ∷ rs) [] p q t e f = absurd f
back at (r ∷ rs) (vs ∷ vss) p q t e f =
    let g = first at r rs t in
    let v = pack r.bits vs in
    let b = bytes_of r.size v in
    let w = written rs vss in
    let s : p ++ ((b ++ w) ++ q) ≡ (p ++ b) ++ (w ++ q) = simp append_assoc in
    let n : length (p ++ b) ≡ at + r.size = simp (length-append, length-bytes, e) in
    let here : be_at (p ++ ((b ++ w) ++ q)) r.at r.size ≡ v =
    rw (append_assoc, g.here, ← e) (be-middle p (w ++ q) r.size v (rw g.wide at (pack-lt r.bits vs f.0))) in
    let there : read_by rs (p ++ ((b ++ w) ++ q)) ≡ vss = rw s (back (at + r.size) rs vss (p ++ b) q g.rest n f.1) in
    rw (here, there, digits-pack r.bits vs f.0)

-- and what a table reads, the unnamed bits with it, written again is the same bytes
again : (at : ℕ) (rs : List Row) (s : List ℕ) → T (sound at rs) → 48 ≤ length s → ((i : ℕ) → get_or s i 0 < 256) → written rs (read_by rs s) ≡ take (48 - at) (drop at s)
again at [] s t h b = let e : 48 - at ≡ 0 = omega (arith, eqb→eq at 48 t) in rw e
again at (r ∷ rs) s t h b =
    let g = first at r rs t in
    let n = r.size in
    let l : at + n ≤ 48 = ends (at + n) rs g.rest in
    let e : 48 - at ≡ n + (48 - (at + n)) = omega arith in
    let lt : be_at s at n < 2 ^ total r.bits = rw g.wide (be-lt s at n b) in
    rw (
      g.here,
      pack-digits r.bits (be_at s at n) lt,
      bytes-be s at n (omega arith) b,
      again (at + n) rs s g.rest h b,
      e,
      take-add n (48 - (at + n)) (drop at s),
      drop-drop n at s,
    )

pub forth : (rs : List Row) (s : List ℕ) → T (sound 0 rs) → 48 ≤ length s → ((i : ℕ) → get_or s i 0 < 256) → written rs (read_by rs s) ≡ take 48 s
forth rs s t h b = again 0 rs s t h b

-- ---- the fields alone

named-in : (bs : List Bits) (vs : List ℕ) → count_in bs ≤ length vs → named_in bs (filled_in bs vs) ≡ take (count_in bs) vs
named-in [] vs h = refl
named-in (field w ∷ bs) [] h = absurd (omega arith)
named-in (field w ∷ bs) (v ∷ vs) h = rw (named-in bs vs (omega arith))
named-in (unnamed w ∷ bs) vs h = named-in bs vs h

-- the fields that the rows were filled with
pub named-filled : (rs : List Row) (vs : List ℕ) → length vs ≡ count rs → named rs (filled rs vs) ≡ vs
named-filled [] [] h = refl
named-filled [] (v ∷ vs) h = absurd (omega arith)
named-filled (r ∷ rs) vs h =
    let k = count_in r.bits in
    rw (named-in r.bits vs (omega arith), named-filled rs (drop k vs) (simp length-drop (omega arith))) (take-append-drop k vs)
