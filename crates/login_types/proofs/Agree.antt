-- The struct stands for the book: fresh, and after a judged pair, where the places of the keys are told apart as their names are.
use Rattle.std.specs.Prelude.{Result, Ok, Err}
use mathlib.Core.Path.{◌≡◌, refl, sym, ap, ◌∙◌, fun_ext}
use mathlib.Core.Bool.{Bool, true, false, not, ◌&&◌, ◌||◌}
use mathlib.Core.List.{List}
use Prim.Native.Nat.{ℕ, zero, suc, ◌<◌, ◌≤◌}
use native.Mathlib.Omega.{arith}
use borrow.Author.Tests.{eqb-false}
use lib.ListN.{length, get_or, set, replicate, get_or-map}
use lib.Seq.{get_or-set_same, get_or-set_other}
use lib.Dec.{eqb}
use Rattle.text.specs.Text.{pick, same, bytes, listed}
use Rattle.text.proofs.Laws.{same-eq, false-true}
use Rattle.key_table.specs.Table.{key_of, name_at, kind_at, none_seen, standards, rows, row_at, row}
use Rattle.key_table.specs.declared.table.Row.{Row}
use Rattle.key_table.specs.declared.table.Rule.TheVariants as R
use Rattle.key_table.specs.declared.table.Kind.{Kind}
use Rattle.key_table.specs.declared.table.Kind.TheVariants as K
use Rattle.key_table.specs.declared.parameters.Settled.{Settled}
use Rattle.key_table.proofs.Tables.{same_refl, known-name, key-most, code, in_table}
use Rattle.key_values.specs.declared.value.Judgement.{Judgement}
use Rattle.key_values.specs.declared.value.Judgement.TheVariants as J
use Rattle.keys.specs.Judge.{good_length, initiator_name, target_name, session_type, digest, task_reporting, auth_method, judge_by, stands, leading_only, judge_key, judge_named}
use Rattle.keys.specs.Promises as Code
use Rattle.login_book.specs.Keys.{none_came, after_known, after}
use Rattle.login_book.specs.Book.{at_start, fresh_book}
use Rattle.login_types.specs.Agree.{keys_of, book_of, fresh_login, IsFresh}
use Rattle.login_types.specs.declared.state.State.{State}

-- ---- a fresh login

none-at : (n k : ℕ) → get_or (replicate n false) k false ≡ false
none-at zero k = refl
none-at (suc n) zero = refl
none-at (suc n) (suc k) = none-at n k

fresh-keys : keys_of none_seen ≡ none_came
unfolding none_seen none_came standards row_at
fresh-keys i = record {
  came = fun_ext (λ (n : List ℕ). none-at 28 (key_of n)) i;
  value = fun_ext (λ (n : List ℕ). get_or-map (λ (r : Row). r.standard) rows (key_of n) (row R.Declared 0 0 0 0)) i;
}

fresh-book : book_of fresh_login ≡ fresh_book
unfolding fresh_login fresh_book
fresh-book i = record { over = false; phase = at_start; judged = false; keys = fresh-keys i; gathered = 0 }

pub is-fresh : (l : State) → l ≡ fresh_login → IsFresh l
is-fresh l e = record { book = ap book_of e ∙ fresh-book; struct = e }

-- ---- places and names

key-other : (m n : List ℕ) → key_of n < 28 → same m n ≡ false → key_of m ≡ key_of n → ⊥
key-other m n h e q =
    let a : m ≡ n = known-name m (rw q h) ∙ ap name_at q ∙ sym (known-name n h) in
    false-true (sym e ∙ ap (λ (x : List ℕ). same x n) a ∙ same_refl n)

module _ (n m : List ℕ) where
  came-go : (t : Bool) (xs : List Bool) → same m n ≡ t → key_of n < 28 → length xs ≡ 28 → get_or (set xs (key_of n) true) (key_of m) false ≡ (t || get_or xs (key_of m) false)
  came-go true xs e h l = let q : key_of m ≡ key_of n = ap key_of (same-eq m n e) in rw q (get_or-set_same xs (key_of n) true false (omega arith))
  came-go false xs e h l = get_or-set_other xs (key_of n) (key_of m) true false (key-other m n h e)

  value-go : (t : Bool) (xs : List ℕ) (x : ℕ) → same m n ≡ t → key_of n < 12 → length xs ≡ 12 → get_or (set xs (key_of n) x) (key_of m) 0 ≡ pick t x (get_or xs (key_of m) 0)
  value-go true xs x e h l = let q : key_of m ≡ key_of n = ap key_of (same-eq m n e) in rw q (get_or-set_same xs (key_of n) x 0 (omega arith))
  value-go false xs x e h l = get_or-set_other xs (key_of n) (key_of m) x 0 (key-other m n (omega arith) e)

-- ---- only a key of the table is settled

abbrev settles : Result Judgement ℕ → Bool
settles (Err n) = false
settles (Ok (J.Said r)) = false
settles (Ok (J.Settles n r)) = true

settles-past : (b : Bool) (x y : Result Judgement ℕ) → settles x ≡ false → settles (pick b x y) ≡ true → settles y ≡ true
settles-past true x y e h = false-true (sym e ∙ h)
settles-past false x y e h = h

settles-none : (b : Bool) (x y : Result Judgement ℕ) → settles x ≡ false → settles y ≡ false → settles (pick b x y) ≡ false
settles-none true x y e f = e
settles-none false x y e f = f

never : {A : Type 0} (x : Result Judgement ℕ) → settles x ≡ false → settles x ≡ true → A
never x e h = false-true (sym e ∙ h)

settles-kind : (d : Kind) (k : ℕ) (ours v : List ℕ) → settles (judge_by d k ours v) ≡ true → code d ≤ 1
unfolding code digest task_reporting auth_method initiator_name target_name session_type
settles-kind K.Negotiated k ours v h = omega arith
settles-kind K.Declared k ours v h = omega arith
settles-kind K.Digest k ours v h = never (digest v) (settles-none (listed (bytes "None") v) _ _ refl refl) h
settles-kind K.TaskReporting k ours v h = never (task_reporting v) (settles-none (listed (bytes "RFC3720") v) _ _ refl refl) h
settles-kind K.AuthMethod k ours v h = never (auth_method v) (settles-none (listed (bytes "None") v) _ _ refl refl) h
settles-kind K.InitiatorName k ours v h = never (initiator_name v) (settles-none (good_length v) _ _ refl refl) h
settles-kind K.TargetName k ours v h = never (target_name ours v) (settles-none (good_length v) _ _ (settles-none (same v ours) _ _ refl refl) refl) h
settles-kind K.SessionType k ours v h = never (session_type v) (settles-none (same v (bytes "Normal")) _ _ refl (settles-none (same v (bytes "Discovery")) _ _ refl refl)) h
settles-kind K.InitiatorAlias k ours v h = false-true h
settles-kind K.Marker k ours v h = false-true h
settles-kind K.Refused k ours v h = false-true h

settles-go : (t : Bool) (came : Bool) (stage : ℕ) (leading : Bool) (ours : List ℕ) (k : ℕ) (v : List ℕ) → eqb k 28 ≡ t → k ≤ 28 → settles (judge_named came stage leading ours k v) ≡ true → k < 12
unfolding judge_named judge_key
settles-go true came stage leading ours k v e h s = false-true (rw e at s)
settles-go false came stage leading ours k v e h s =
    let a = settles-past (eqb k 28) _ _ refl s in
    let b = settles-past (not (stands (kind_at k) stage)) _ _ refl a in
    let c = settles-past (leading_only (kind_at k) && not leading) _ _ refl b in
    let d = settles-past came _ _ refl c in
    let z : k ≡ 28 → ⊥ = eqb-false k 28 e in
    in_table k (omega arith) (settles-kind (kind_at k) k ours v d)

-- ---- after a judged pair

module _ (s : Settled) (seen : length s.seen ≡ 28) (values : length s.parameters.values ≡ 12) (n : List ℕ) where
  keys-known : (j : Result Judgement ℕ) → key_of n < 28 → (settles j ≡ true → key_of n < 12) → keys_of (Code.after_key s (key_of n) j) ≡ after_known (keys_of s) n j
  keys-known (Err x) h t = refl
  keys-known (Ok (J.Said r)) h t = λ i. record {
    came = fun_ext (λ (m : List ℕ). came-go n m (same m n) s.seen refl h seen) i;
    value = λ (m : List ℕ). get_or s.parameters.values (key_of m) 0;
  }
  keys-known (Ok (J.Settles x r)) h t = λ i. record {
    came = fun_ext (λ (m : List ℕ). came-go n m (same m n) s.seen refl h seen) i;
    value = fun_ext (λ (m : List ℕ). value-go n m (same m n) s.parameters.values x refl (t refl) values) i;
  }

  keys-go : (t : Bool) (j : Result Judgement ℕ) → eqb (key_of n) 28 ≡ t → (settles j ≡ true → key_of n < 12) → keys_of (pick t s (Code.after_key s (key_of n) j)) ≡ pick t (keys_of s) (after_known (keys_of s) n j)
  keys-go true j e h = refl
  keys-go false j e h = let z : key_of n ≡ 28 → ⊥ = eqb-false (key_of n) 28 e in keys-known j (omega (arith, z, key-most n)) h

  -- what the code settles after a judged pair is what the rules do
  pub keys-after : (came : Bool) (stage : ℕ) (leading : Bool) (ours v : List ℕ) → (let j = judge_named came stage leading ours (key_of n) v in keys_of (Code.after s (key_of n) j) ≡ after (keys_of s) n j)
  unfolding after Code.after
  keys-after came stage leading ours v = keys-go (eqb (key_of n) 28) (judge_named came stage leading ours (key_of n) v) refl (settles-go (eqb (key_of n) 28) came stage leading ours (key_of n) v refl (key-most n))
