-- The bytes of a header that is resent: what is renewed of it, and that no other byte is.
use Prim.Native.Nat.{ℕ, suc, ◌+◌, ◌≤◌, ◌<◌}
use mathlib.Core.Path.{◌≡◌, refl, sym, ap, ◌∙◌}
use mathlib.Core.Bool.{Bool, true, false}
use mathlib.Core.List.{List, [], ◌∷◌, ◌++◌, append_assoc}
use mathlib.Core.Logic.{◌⊎◌, inl, inr, ⊎_elim}
use native.Mathlib.Omega.{arith}
use borrow.Author.Tests.{eq-eqb, ne_eqb}
use lib.Dec.{eqb}
use lib.ListN as ListN
use lib.ListN.{length, get_or, set, drop, get_or-append}
use lib.Seq.{sets, sets-eq, length-sets, length-take-le, get_or-set_other, get_or-append-add}
use Rattle.field.specs.Field.{pick, byte, bytes_of}
use Rattle.field.proofs.Laws.{length-bytes}
use Rattle.task_book.specs.Steps.{exp_data_sn_of}
use Rattle.ledger.specs.Book as L
use Rattle.ledger.specs.declared.Renewal.{Renewal}
use Rattle.ledger.proofs.Laws as Laws

sets-other : (l : List ℕ) (i j : ℕ) (vs : List ℕ) → (j < i) ⊎ (i + length vs ≤ j) → get_or (sets l i vs) j 0 ≡ get_or l j 0
sets-other l i j [] h = refl
sets-other l i j (x ∷ vs) h =
    let ne : j ≡ i → ⊥ = λ e. ⊎_elim (λ a. omega arith) (λ a. omega arith) h in
    sets-other (set l i x) (suc i) j vs (⊎_elim (λ a. inl (omega arith)) (λ a. inr (omega arith)) h) ∙ get_or-set_other l i j x 0 ne

sets_same : (l : List ℕ) (i j : ℕ) (vs : List ℕ) → j < length vs → i + length vs ≤ length l → get_or (sets l i vs) (i + j) 0 ≡ get_or vs j 0
sets_same l i j vs h b =
    let front : length (ListN.take i l) ≡ i = length-take-le i l (omega arith) in
    ap (λ (x : List ℕ). get_or x (i + j) 0) (sets-eq vs l i b ∙ append_assoc (ListN.take i l) vs (drop (i + length vs) l))
    ∙ ap (λ (n : ℕ). get_or (ListN.take i l ++ (vs ++ drop (i + length vs) l)) (n + j) 0) (sym front)
    ∙ get_or-append-add (ListN.take i l) (vs ++ drop (i + length vs) l) j 0
    ∙ get_or-append vs (drop (i + length vs) l) 0 j h

-- four bytes of a number
put_other : (l : List ℕ) (i j v : ℕ) → (j < i) ⊎ (i + 4 ≤ j) → get_or (sets l i (bytes_of 4 v)) j 0 ≡ get_or l j 0
put_other l i j v h = sets-other l i j (bytes_of 4 v) (⊎_elim (λ a. inl a) (λ a. inr (omega (arith, length-bytes 4 v))) h)

put_same : (l : List ℕ) (i j v : ℕ) → j < 4 → i + 4 ≤ length l → get_or (sets l i (bytes_of 4 v)) (i + j) 0 ≡ get_or (bytes_of 4 v) j 0
put_same l i j v h b = sets_same l i j (bytes_of 4 v) (omega (arith, length-bytes 4 v)) (omega (arith, length-bytes 4 v))

module _ (h : List ℕ) (x : Renewal) where
  -- what the two numbers of the window leave
  numbers-other : (i : ℕ) → (i < 28) ⊎ (36 ≤ i) → get_or (L.renewed h x) i 0 ≡ get_or (L.renewed_for x.numbering h) i 0
  unfolding L.renewed
  numbers-other i s =
      let f = L.renewed_for x.numbering h in
      put_other (sets f 28 (bytes_of 4 x.exp_cmd_sn)) 32 i x.max_cmd_sn (⊎_elim (λ a. inl (omega arith)) (λ a. inr (omega arith)) s)
      ∙ put_other f 28 i x.exp_cmd_sn (⊎_elim (λ a. inl a) (λ a. inr (omega arith)) s)

  pub length-renewed : length (L.renewed h x) ≡ length h
  length-renewed = Laws.length-renewed h x

  pub renewed-exp : length h ≡ 48 → (i : ℕ) → i < 4 → get_or (L.renewed h x) (28 + i) 0 ≡ get_or (bytes_of 4 x.exp_cmd_sn) i 0
  unfolding L.renewed
  renewed-exp l i k =
      let f = L.renewed_for x.numbering h in
      let z = Laws.length-renewed-for x.numbering h in
      put_other (sets f 28 (bytes_of 4 x.exp_cmd_sn)) 32 (28 + i) x.max_cmd_sn (inl (omega arith))
      ∙ put_same f 28 i x.exp_cmd_sn k (omega (arith, z))

  pub renewed-max : length h ≡ 48 → (i : ℕ) → i < 4 → get_or (L.renewed h x) (32 + i) 0 ≡ get_or (bytes_of 4 x.max_cmd_sn) i 0
  unfolding L.renewed
  renewed-max l i k =
      let f = L.renewed_for x.numbering h in
      let z = Laws.length-renewed-for x.numbering h in
      put_same (sets f 28 (bytes_of 4 x.exp_cmd_sn)) 32 i x.max_cmd_sn k (omega (arith, z, length-sets f 28 (bytes_of 4 x.exp_cmd_sn)))

  tagged-other : (i : ℕ) → (i < 20) ⊎ (24 ≤ i) → get_or (L.with_tag h x.numbering.snack_tag) i 0 ≡ get_or h i 0
  unfolding L.with_tag
  tagged-other i s = go (eqb x.numbering.snack_tag 0)
    where
      go : (u : Bool) → get_or (pick u h (sets h 20 (bytes_of 4 x.numbering.snack_tag))) i 0 ≡ get_or h i 0
      go true = refl
      go false = put_other h 20 i x.numbering.snack_tag s

  -- of another status than a SCSI Response nothing else
  pub renewed-other : (byte h 0 ≡ 0x21 → ⊥) → (i : ℕ) → (i < 28) ⊎ (36 ≤ i) → get_or (L.renewed h x) i 0 ≡ get_or h i 0
  renewed-other q i s = numbers-other i s ∙ unfold L.renewed_for in (rw (ne_eqb (byte h 0) 0x21 q))

  -- of a SCSI Response the SNACK tag and ExpDataSN
  pub renewed-apart : (i : ℕ) → (i < 20) ⊎ (((24 ≤ i) × (i < 28)) ⊎ (40 ≤ i)) → get_or (L.renewed h x) i 0 ≡ get_or h i 0
  unfolding L.renewed_for
  renewed-apart i s =
      numbers-other i (⊎_elim (λ a. inl (omega arith)) (λ r. ⊎_elim (λ a. inl a.1) (λ a. inr (omega arith)) r) s) ∙ go (eqb (byte h 0) 0x21) refl
    where
      t : List ℕ
      t = L.with_tag h x.numbering.snack_tag

      go : (u : Bool) → eqb (byte h 0) 0x21 ≡ u → get_or (L.renewed_for x.numbering h) i 0 ≡ get_or h i 0
      go true e =
          rw e (put_other t 36 i (exp_data_sn_of x.numbering (byte h 2))
          (⊎_elim (λ a. inl (omega arith)) (λ r. ⊎_elim (λ a. inl (omega (arith, a.1))) (λ a. inr (omega arith)) r) s)
          ∙ tagged-other i (⊎_elim (λ a. inl a) (λ r. ⊎_elim (λ a. inr a.0) (λ a. inr (omega arith)) r) s))
      go false e = rw e

  pub renewed-data : byte h 0 ≡ 0x21 → length h ≡ 48 → (i : ℕ) → i < 4
      → get_or (L.renewed h x) (36 + i) 0 ≡ get_or (bytes_of 4 (exp_data_sn_of x.numbering (byte h 2))) i 0
  unfolding L.renewed_for
  renewed-data q l i k = numbers-other (36 + i) (inr (omega arith)) ∙ here
    where
      here : get_or (L.renewed_for x.numbering h) (36 + i) 0 ≡ get_or (bytes_of 4 (exp_data_sn_of x.numbering (byte h 2))) i 0
      here =
          rw (eq-eqb (byte h 0) 0x21 q) (put_same (L.with_tag h x.numbering.snack_tag) 36 i (exp_data_sn_of x.numbering (byte h 2)) k
          (omega (arith, Laws.length-tagged h x.numbering.snack_tag)))

  pub renewed-tag : byte h 0 ≡ 0x21 → (x.numbering.snack_tag ≡ 0 → ⊥) → length h ≡ 48 → (i : ℕ) → i < 4
      → get_or (L.renewed h x) (20 + i) 0 ≡ get_or (bytes_of 4 x.numbering.snack_tag) i 0
  unfolding L.renewed_for L.with_tag
  renewed-tag q t l i k = numbers-other (20 + i) (inl (omega arith)) ∙ here
    where
      here : get_or (L.renewed_for x.numbering h) (20 + i) 0 ≡ get_or (bytes_of 4 x.numbering.snack_tag) i 0
      here =
          rw (eq-eqb (byte h 0) 0x21 q, ne_eqb x.numbering.snack_tag 0 t)
          (put_other (sets h 20 (bytes_of 4 x.numbering.snack_tag)) 36 (20 + i) (exp_data_sn_of x.numbering (byte h 2)) (inl (omega arith))
          ∙ put_same h 20 i x.numbering.snack_tag k (omega arith))

  pub renewed-untagged : x.numbering.snack_tag ≡ 0 → (i : ℕ) → i < 4 → get_or (L.renewed h x) (20 + i) 0 ≡ get_or h (20 + i) 0
  unfolding L.renewed_for L.with_tag
  renewed-untagged t i k = numbers-other (20 + i) (inl (omega arith)) ∙ here (eqb (byte h 0) 0x21) refl
    where
      here : (u : Bool) → eqb (byte h 0) 0x21 ≡ u → get_or (L.renewed_for x.numbering h) (20 + i) 0 ≡ get_or h (20 + i) 0
      here true e =
          rw (e, eq-eqb x.numbering.snack_tag 0 t) (put_other h 36 (20 + i) (exp_data_sn_of x.numbering (byte h 2)) (inl (omega arith)))
      here false e = rw e
