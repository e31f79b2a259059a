-- Pairs judged one after another: where judging goes on and where it stops; a key's value in force changes by that key's own offers alone, and a
-- known key came where it was offered; how long the answer can be.
use Rattle.std.specs.Prelude as Std
use Rattle.std.specs.Prelude.{Ok, Err}
use mathlib.Core.Path.{◌≡◌, refl, sym, ap, ◌∙◌}
use mathlib.Core.Bool.{Bool, true, false, not, ◌&&◌, ◌||◌}
use mathlib.Core.List.{List, [], ◌∷◌, ◌++◌, append_assoc, append-nil}
use Prim.Native.Nat.{ℕ, zero, suc, ◌*◌, ◌<◌, ◌≤◌}
use native.Mathlib.Omega.{arith}
use borrow.Author.Tests.{ne_eqb, eqb-true, eqb-false}
use lib.ListN.{length, length-append}
use lib.Dec.{eqb}
use Rattle.text.specs.Text.{pick, same}
use Rattle.text_block.specs.Block.{Pair, name_in, value_in, rest_of, good_first, formed, pairs, empty}
use Rattle.text.proofs.Laws.{&&-left, &&-right, false-true, same-eq}
use Rattle.text_block.proofs.Pairs.{name-short}
use Rattle.key_table.specs.Table.{key_of, kind_at, row_at, known}
use Rattle.key_values.specs.Settle.{settling}
use Rattle.keys.specs.Judge.{judge_by, stands, leading_only, judge_key, judge_named}
use Rattle.key_replies.specs.Answer.{said_text}
use Rattle.key_values.specs.declared.value.Judgement.{Judgement}
use Rattle.key_values.specs.declared.value.Judgement.TheVariants as J
use Rattle.key_table.proofs.Tables.{is-negotiated}
use Rattle.key_replies.proofs.Said.{said-length}
use Rattle.login_book.specs.Keys.{Keys, after_known, after}
use Rattle.login_book.specs.Block.{Result, stopped, went, onward, judge_pair, judge}
use Rattle.login_book.specs.Login.{start_text}
use Rattle.login_book.specs.Events.{is_refused, unrefused, keys_after, replies}
use Rattle.login_book.specs.Demand.{taken, value_after, is_offered}

pub and_none : (k w : Bool) → w ≡ ((k && false) || w)
and_none true w = refl
and_none false w = refl

-- A pair of a key of the table that is not refused is settled by its own row.
table-go : (k : ℕ) (ours v : List ℕ) (t : Bool) → eqb k 6 ≡ t → k < 12 → judge_by (kind_at k) k ours v ≡ Ok (settling (row_at k) v)
unfolding kind_at known
table-go k ours v true e h = rw (eqb-true k 6 e)
table-go k ours v false e h = rw (is-negotiated k h (eqb-false k 6 e))

pick-on : (b : Bool) (n : ℕ) (x : Std.Result Judgement ℕ) → is_refused (pick b (Err n) x) ≡ false → pick b (Err n) x ≡ x
pick-on true n x e = false-true (sym e)
pick-on false n x e = refl

judged-as : (came : Bool) (stage : ℕ) (leading : Bool) (ours : List ℕ) (k : ℕ) (v : List ℕ) → k < 12
    → is_refused (judge_named came stage leading ours k v) ≡ false
    → judge_named came stage leading ours k v ≡ Ok (settling (row_at k) v)
unfolding judge_named judge_key
judged-as came stage leading ours k v h e =
    let z : eqb k 28 ≡ false = ne_eqb k 28 (λ q. omega arith) in
    let e0 = rw z at e in
    let p1 = pick-on (not (stands (kind_at k) stage)) 0x0200 _ e0 in
    let e1 = rw p1 at e0 in
    let p2 = pick-on (leading_only (kind_at k) && not leading) 0x0200 _ e1 in
    let e2 = rw p2 at e1 in
    let p3 = pick-on came 0x0200 _ e2 in
    rw z (p1 ∙ p2 ∙ p3 ∙ table-go k ours v (eqb k 6) refl h)

-- What is in force after a judged pair.
same-either : (b : Bool) (x : ℕ) → x ≡ pick b x x
same-either true x = refl
same-either false x = refl

known-value : (s : Keys) (i n : List ℕ) (j : Std.Result Judgement ℕ) → (after_known s i j).value n ≡ pick (same n i) (taken (s.value n) j) (s.value n)
known-value s i n (Err x) = same-either (same n i) (s.value n)
known-value s i n (Ok (J.Said r)) = same-either (same n i) (s.value n)
known-value s i n (Ok (J.Settles x r)) = refl

after-go : (t u : Bool) (s : Keys) (i n : List ℕ) (j : Std.Result Judgement ℕ) → eqb (key_of i) 28 ≡ t → same n i ≡ u → key_of n < 12
    → (pick t s (after_known s i j)).value n ≡ pick u (taken (s.value n) j) (s.value n)
after-go true true s i n j p q h =
    absurd (let a : key_of i ≡ 28 = eqb-true (key_of i) 28 p in let b : key_of n ≡ key_of i = ap key_of (same-eq n i q) in omega arith)
after-go true false s i n j p q h = refl
after-go false u s i n j p q h = known-value s i n j ∙ ap (λ (y : Bool). pick y (taken (s.value n) j) (s.value n)) q

after-value : (s : Keys) (i n : List ℕ) (j : Std.Result Judgement ℕ) → key_of n < 12 → (after s i j).value n ≡ pick (same n i) (taken (s.value n) j) (s.value n)
unfolding after
after-value s i n j h = after-go (eqb (key_of i) 28) (same n i) s i n j refl refl h

pair-go : (t : Bool) (s : Keys) (stage : ℕ) (leading : Bool) (ours : List ℕ) (p : Pair) (n : List ℕ) → same n p.name ≡ t → key_of n < 12
    → is_refused (judge_pair stage leading ours s p) ≡ false
    → pick t (taken (s.value n) (judge_pair stage leading ours s p)) (s.value n)
    ≡ pick t (taken (s.value n) (Ok (settling (row_at (key_of n)) p.value))) (s.value n)
pair-go true s stage leading ours p n e h g =
    let q : key_of p.name ≡ key_of n = ap key_of (sym (same-eq n p.name e)) in
    let z : judge_pair stage leading ours s p ≡ Ok (settling (row_at (key_of n)) p.value) =
    judged-as (s.came p.name) stage leading ours (key_of p.name) p.value (rw q h) g
    ∙ ap (λ (k : ℕ). Ok (settling (row_at k) p.value)) q in
    ap (taken (s.value n)) z
pair-go false s stage leading ours p n e h g = refl

-- ---- which keys came

known-came : (s : Keys) (i n : List ℕ) (j : Std.Result Judgement ℕ) → is_refused j ≡ false → (after_known s i j).came n ≡ (same n i || s.came n)
known-came s i n (Err x) e = false-true (sym e)
known-came s i n (Ok (J.Said r)) e = refl
known-came s i n (Ok (J.Settles x r)) e = refl

came-go : (t u : Bool) (s : Keys) (i n : List ℕ) (j : Std.Result Judgement ℕ) → eqb (key_of i) 28 ≡ t → same n i ≡ u → is_refused j ≡ false
    → (pick t s (after_known s i j)).came n ≡ ((not (eqb (key_of n) 28) && u) || s.came n)
came-go true true s i n j p q h =
    let b : key_of n ≡ key_of i = ap key_of (same-eq n i q) in
    let k : eqb (key_of n) 28 ≡ true = ap (λ (x : ℕ). eqb x 28) b ∙ p in
    rw k refl
came-go true false s i n j p q h = and_none (not (eqb (key_of n) 28)) (s.came n)
came-go false true s i n j p q h =
    let b : key_of n ≡ key_of i = ap key_of (same-eq n i q) in
    let k : eqb (key_of n) 28 ≡ false = ap (λ (x : ℕ). eqb x 28) b ∙ p in
    known-came s i n j h ∙ ap (λ (x : Bool). x || s.came n) q ∙ (rw k refl)
came-go false false s i n j p q h = known-came s i n j h ∙ ap (λ (x : Bool). x || s.came n) q ∙ and_none (not (eqb (key_of n) 28)) (s.came n)

after-came : (s : Keys) (i n : List ℕ) (j : Std.Result Judgement ℕ) → is_refused j ≡ false
    → (after s i j).came n ≡ ((not (eqb (key_of n) 28) && same n i) || s.came n)
unfolding after
after-came s i n j h = came-go (eqb (key_of i) 28) (same n i) s i n j refl refl h

-- ---- pairs, one after another

not-refused : (j : Std.Result Judgement ℕ) (b : Bool) → (not (is_refused j) && b) ≡ true → is_refused j ≡ false
not-refused (Err n) b e = false-true e
not-refused (Ok x) b e = refl

goes_on : (j : Std.Result Judgement ℕ) (r : Result) → is_refused j ≡ false → onward j r ≡ r
goes_on (Err n) r e = false-true (sym e)
goes_on (Ok x) r e = refl

came-turn : (k u v w : Bool) → ((k && v) || ((k && u) || w)) ≡ ((k && (u || v)) || w)
came-turn true true true w = refl
came-turn true true false w = refl
came-turn true false v w = refl
came-turn false u v w = refl

module _ (stage : ℕ) (leading : Bool) (ours : List ℕ) where
  -- Where no pair is refused judging goes through, with the answers in offer order after t.
  pub judge-went : (s : Keys) (t : List ℕ) (ps : List Pair) → unrefused stage leading ours s ps ≡ true
      → judge stage leading ours s t ps ≡ went (keys_after stage leading ours s ps) (t ++ replies stage leading ours s ps)
  unfolding judge
  judge-went s t [] e = ap (went s) (sym (append-nil t))
  judge-went s t (p ∷ ps) e =
      let j = judge_pair stage leading ours s p in
      let s₁ = after s p.name j in
      goes_on j _ (not-refused j _ e)
      ∙ judge-went s₁ (t ++ said_text p.name j) ps (&&-right (not (is_refused j)) _ e)
      ∙ ap (went (keys_after stage leading ours s₁ ps)) (append_assoc t (said_text p.name j) (replies stage leading ours s₁ ps))

  -- It stops at a refused pair, after pairs that are not.
  pub judge-stopped : (s : Keys) (t : List ℕ) (before : List Pair) (p : Pair) (later : List Pair) (n : ℕ) → unrefused stage leading ours s before ≡ true
      → judge_pair stage leading ours (keys_after stage leading ours s before) p ≡ Err n → judge stage leading ours s t (before ++ (p ∷ later)) ≡ stopped n
  unfolding judge
  judge-stopped s t [] p later n e r =
      let k = judge_pair stage leading ours s p in
      ap (λ (j : Std.Result Judgement ℕ). onward j (judge stage leading ours (after s p.name k) (t ++ said_text p.name k) later)) r
  judge-stopped s t (o ∷ before) p later n e r =
      let j = judge_pair stage leading ours s o in
      goes_on j _ (not-refused j _ e) ∙ judge-stopped (after s o.name j) (t ++ said_text o.name j) before p later n (&&-right (not (is_refused j)) _ e) r

  -- the first refused pair
  pub record Stops (s : Keys) (ps : List Pair) : Type 0 where
    pub before : List Pair
    pub pair : Pair
    pub later : List Pair
    pub status : ℕ
    pub split : ps ≡ before ++ (pair ∷ later)
    pub gone : unrefused stage leading ours s before ≡ true
    pub refused : judge_pair stage leading ours (keys_after stage leading ours s before) pair ≡ Err status

  stop-later : (p : Pair) (ps : List Pair) (s : Keys) → is_refused (judge_pair stage leading ours s p) ≡ false
      → Stops (after s p.name (judge_pair stage leading ours s p)) ps → Stops s (p ∷ ps)
  stop-later p ps s q w = record {
    before = p ∷ w.before;
    pair = w.pair;
    later = w.later;
    status = w.status;
    split = ap (λ (x : List Pair). p ∷ x) w.split;
    gone = ap (λ (x : Bool). not x && unrefused stage leading ours (after s p.name (judge_pair stage leading ours s p)) w.before) q ∙ w.gone;
    refused = w.refused;
  }

  stop-go : (p : Pair) (ps : List Pair) (s : Keys) (j : Std.Result Judgement ℕ) (b : Bool) → judge_pair stage leading ours s p ≡ j
      → (not (is_refused j) && b) ≡ false
      → (b ≡ false → Stops (after s p.name (judge_pair stage leading ours s p)) ps) → Stops s (p ∷ ps)
  stop-go p ps s (Err m) b q e ih = record { before = []; pair = p; later = ps; status = m; split = refl; gone = refl; refused = q }
  stop-go p ps s (Ok x) b q e ih = stop-later p ps s (ap is_refused q) (ih e)

  pub stops : (s : Keys) (ps : List Pair) → unrefused stage leading ours s ps ≡ false → Stops s ps
  stops s [] e = false-true (sym e)
  stops s (p ∷ ps) e =
      let j = judge_pair stage leading ours s p in
      stop-go p ps s j (unrefused stage leading ours (after s p.name j) ps) refl e (λ f. stops (after s p.name j) ps f)

  -- Values and keys after pairs that are not refused.
  pub values-after : (s : Keys) (ps : List Pair) → unrefused stage leading ours s ps ≡ true → (n : List ℕ) → key_of n < 12
      → (keys_after stage leading ours s ps).value n ≡ value_after n (s.value n) ps
  values-after s [] e n h = refl
  values-after s (p ∷ ps) e n h =
      let j = judge_pair stage leading ours s p in
      values-after (after s p.name j) ps (&&-right (not (is_refused j)) _ e) n h
      ∙ ap (λ (x : ℕ). value_after n x ps) (after-value s p.name n j h ∙ pair-go (same n p.name) s stage leading ours p n refl h (not-refused j _ e))

  pub came-after : (s : Keys) (ps : List Pair) → unrefused stage leading ours s ps ≡ true → (n : List ℕ)
      → (keys_after stage leading ours s ps).came n ≡ ((not (eqb (key_of n) 28) && is_offered n ps) || s.came n)
  came-after s [] e n = and_none (not (eqb (key_of n) 28)) (s.came n)
  came-after s (p ∷ ps) e n =
      let j = judge_pair stage leading ours s p in
      let k = not (eqb (key_of n) 28) in
      came-after (after s p.name j) ps (&&-right (not (is_refused j)) _ e) n
      ∙ ap (λ (x : Bool). (k && is_offered n ps) || x) (after-came s p.name n j (not-refused j _ e))
      ∙ came-turn k (same n p.name) (is_offered n ps) (s.came n)

  -- How long the answer can be: 78 bytes a pair.
  length-go : (x : Bool) (n : ℕ) (s : Keys) (b : List ℕ) → (x || (good_first b && formed n (rest_of b))) ≡ true
      → ((s₁ : Keys) → formed n (rest_of b) ≡ true → length (replies stage leading ours s₁ (pairs n (rest_of b))) ≤ 78 * n)
      → length (replies stage leading ours s (pick x [] (record { name = name_in b; value = value_in b } ∷ pairs n (rest_of b)))) ≤ 78 * suc n
  length-go true n s b f ih = omega arith
  length-go false n s b f ih =
      let p : Pair = record { name = name_in b; value = value_in b } in
      let j = judge_pair stage leading ours s p in
      let r = ih (after s (name_in b) j) (&&-right (good_first b) _ f) in
      let l = length-append (said_text (name_in b) j) (replies stage leading ours (after s (name_in b) j) (pairs n (rest_of b))) in
      omega (arith, r, l, said-length (name_in b) j (name-short b (&&-left _ _ f)))

  pub replies-length : (n : ℕ) (s : Keys) (b : List ℕ) → formed n b ≡ true → length (replies stage leading ours s (pairs n b)) ≤ 78 * n
  unfolding formed pairs
  replies-length zero s b f = omega arith
  replies-length (suc n) s b f = length-go (empty b) n s b f (λ s₁ f₁. replies-length n s₁ (rest_of b) f₁)

pub start-length : (b : Bool) → length (start_text b) ≤ 23
unfolding start_text
start-length true = omega arith
start-length false = omega arith
