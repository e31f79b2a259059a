-- One turn of the loop that judges the pairs of a block: of what is left, b.
use Rattle.std.proofs.Common.{◌≡◌, ℕ, zero, suc, ◌+◌, ◌≤◌, ◌<◌, Bool, true, false, List, [], ◌∷◌, ◌++◌, length, take, drop, Ok, Err, refl, sym, ap, ◌∙◌, arith}
use Rattle.std.proofs.Common.{Result as Answer}
use native.Mathlib.Nat.{zero-add}
use mathlib.Core.Path.{subst}
use lib.ListN.{take-append-drop}
use lib.Seq.{length-take-le}
use borrow.Author.Tests.{eqb-true}
use Rattle.text.specs.Text.{pick, before, has}
use Rattle.text_block.specs.Block.{name_in, value_in, rest_of, pairs, formed, good_first, good_name, empty}
use Rattle.text_block.proofs.Pairs.{rest_at, name-short, good-whole, whole-ends, whole-inside, good-first, cut-name}
use Rattle.key_table.proofs.Tables.{known-formed, place-few}
use Rattle.key_replies.specs.Answer.{said_text}
use Rattle.key_values.specs.declared.value.Judgement.{Judgement}
use Rattle.login_book.specs.Keys.{Keys, after}
use Rattle.login_book.specs.Block.{judge, judge_first, judge_block, Result, stopped}
use Rattle.login_block.specs.declared.block.Pair.{Pair}
use Rattle.login_block.specs.Promises.{PairIs, first_of, Walked, walked, walk, result_of, count_of, JudgedAs}

-- what `&b[e + 1..]` is, where the first pair ends at e
pub rest-is : (b : List ℕ) (e : ℕ) → e ≡ length (name_in b) + 1 + length (value_in b) → drop (e + 1) b ≡ rest_of b
rest-is b e q = ap (λ (n : ℕ). drop (n + 1) b) (sym (zero-add e)) ∙ rest_at b 0 e q

pairs_step : (b : List ℕ) (n : ℕ) → empty b ≡ false → pairs (suc n) b ≡ record { name = name_in b; value = value_in b } ∷ pairs n (rest_of b)
unfolding pairs
pairs_step b n h = rw h

-- where nothing is left
pub pairs_end : (b : List ℕ) (n : ℕ) → empty b ≡ true → pairs n b ≡ []
unfolding pairs
pairs_end b zero h = refl
pairs_end b (suc n) h = rw h

pub formed_end : (b : List ℕ) (n : ℕ) → empty b ≡ true → formed n b ≡ true
unfolding formed
formed_end b zero h = h
formed_end b (suc n) h = rw h

none_good : (b : List ℕ) → empty b ≡ true → good_first b ≡ false
unfolding good_first good_name before has
none_good [] h = refl
none_good (x ∷ b) h = absurd (let z : length (x ∷ b) ≡ 0 = eqb-true _ 0 h in omega arith)

-- and after 64 pairs something is
pub formed-long : (b : List ℕ) (n : ℕ) → empty b ≡ false → n ≡ 0 → formed n b ≡ false
unfolding formed
formed-long b n h e = rw e h

-- only a pair of a good form is judged
first-good : (g : Bool) (x : Answer Judgement ℕ) (j : Judgement) → pick g x (Err 0x0200) ≡ Ok j → (g ≡ true) × (x ≡ Ok j)
first-good true x j e = (refl, e)
first-good false x j e = cc

-- the status of a refused pair, where the form is good
stop-status : (g : Bool) (status : ℕ) (r : Result) → r ≡ stopped status → stopped (pick g status 0x0200) ≡ pick g r (stopped 0x0200)
stop-status true status r e = sym e
stop-status false status r e = refl

module _ (stage : ℕ) (leading : Bool) (ours : List ℕ) (s : Keys) (t b : List ℕ) where
  -- after a first pair that is not refused comes the rest
  module _ (j : Judgement) (f : first_of stage leading ours s b ≡ Ok j) (h : empty b ≡ false) (m : ℕ) {s' : Keys} {t' b' : List ℕ}
      (p : s' ≡ after s (name_in b) (Ok j)) (q : t' ≡ t ++ said_text (name_in b) (Ok j)) (r : b' ≡ rest_of b) where
    pub form-on : formed m b' ≡ formed (suc m) b
    unfolding formed
    form-on = rw (h, (first-good (good_first b) _ j f).0, r)

    pub judge-on : judge stage leading ours s' t' (pairs m b') ≡ judge stage leading ours s t (pairs (suc m) b)
    unfolding judge
    judge-on = rw (p, q, r, pairs_step b m h, (first-good (good_first b) _ j f).1)

    pub walk-on : walk m stage leading ours s' t' b' ≡ walk (suc m) stage leading ours s t b
    unfolding walk
    walk-on = rw (p, q, r, f)

  -- a refused one ends the block
  module _ (status : ℕ) (f : first_of stage leading ours s b ≡ Err status) where
    pub walk-refused : (n : ℕ) → walk n stage leading ours s t b ≡ walked s t
    unfolding walk
    walk-refused zero = refl
    walk-refused (suc n) = rw f

    module _ (h : empty b ≡ false) (m : ℕ) where
      refused-go : (g : Bool) → good_first b ≡ g → stopped (pick (formed (suc m) b) status 0x0200) ≡ pick (formed (suc m) b) (judge stage leading ours s t (pairs (suc m) b)) (stopped 0x0200)
      unfolding judge formed
      refused-go true g =
          let j : judge_first stage leading ours s b ≡ Err status = rw g at f in
          stop-status (formed (suc m) b) status _ (rw (pairs_step b m h, j))
      refused-go false g = let x : formed (suc m) b ≡ false = rw (h, g) in rw x

      pub status-refused : stopped (pick (formed (suc m) b) status 0x0200) ≡ pick (formed (suc m) b) (judge stage leading ours s t (pairs (suc m) b)) (stopped 0x0200)
      status-refused = refused-go (good_first b) refl

  -- no pair is walked after 64, nor where nothing is left
  pub walk-none : (n : ℕ) → n ≡ 0 → walk n stage leading ours s t b ≡ walked s t
  unfolding walk
  walk-none n e = rw e

  pub walk-end : (n : ℕ) → empty b ≡ true → walk n stage leading ours s t b ≡ walked s t
  unfolding walk
  walk-end zero h = refl
  walk-end (suc n) h = rw (none_good b h)

-- The contract, by how far the pairs were walked.
pub judged-as : (stage : ℕ) (leading : Bool) (ours : List ℕ) (s : Keys) (a b old : List ℕ) (v : Answer ℕ ℕ) (t : Keys) (new : List ℕ) (count : ℕ)
    → walked t (take count new) ≡ walk 64 stage leading ours s a b → count ≤ length new → drop count new ≡ drop count old
    → result_of v t new ≡ judge_block stage leading ours s a b → count_of v ≤ length new → JudgedAs stage leading ours s a b old v t new
judged-as stage leading ours s a b old v t new count w h r e f = record {
  result = e;
  few = f;
  keys = ap (λ (x : Walked). x.keys) w;
  bytes = subst (λ (x : Walked). new ≡ x.text ++ drop (length x.text) old) w
      (sym (take-append-drop count new) ∙ ap (λ (x : List ℕ). take count new ++ x) (r ∙ ap (λ (n : ℕ). drop n old) (sym (length-take-le count new h))));
}

-- where a good pair's name and value end
module _ (s : List ℕ) (p : Pair) (f : PairIs s p) where
  pub ended : p.end ≡ length (name_in s) + 1 + length (value_in s)
  ended = f.value ∙ whole-ends s (good-whole s f.right)

  pub within : p.end < length s
  within = omega (arith, ended, whole-inside s (good-whole s f.right))

  pub in_order : p.eq + 1 ≤ p.end
  in_order = omega (arith, f.name, ended)

  pub reaches : p.eq + 1 ≤ length s
  reaches = omega (arith, within, in_order)

  pub short : p.eq + 1 ≤ 64
  short = omega (arith, f.name, name-short s f.right)

pub ruleset pair_ends = (within, in_order, reaches, short, length-take-le)

pub ruleset pair_form = (good-first, cut-name, whole-inside, length-take-le, known-formed, place-few)
