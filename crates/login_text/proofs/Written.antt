-- What the code's verdict on a block says, of the text output.
use Rattle.login_book.proofs.Values.{start-length}
use Rattle.std.specs.Prelude as Std
use Rattle.std.specs.Prelude.{Ok, Err}
use mathlib.Core.Path.{◌≡◌, refl, ap}
use mathlib.Core.Bool.{Bool, true, false, not, ◌&&◌, ◌||◌}
use mathlib.Core.List.{List, ◌++◌}
use Prim.Native.Nat.{ℕ, ◌≤◌, zero-le}
use native.Mathlib.Omega.{arith}
use lib.ListN.{length, drop, take, length-append}
use lib.Seq.{take_at, length-take-le}
use Rattle.key_table.specs.declared.parameters.Settled.{Settled}
use Rattle.login_book.specs.Keys.{Keys, named}
use Rattle.login_types.specs.Agree.{keys_of}
use Rattle.login_book.specs.Login.{start_text}
use Rattle.login_text.specs.Promises.{with_names, block_result, verdict_after, text_after, text_of}
use Rattle.login_text.specs.Promises.{settled_after, Written}
use Rattle.login_book.specs.Block.{Result, stopped, went}
use Rattle.login_block.specs.Promises.{result_of, count_of, JudgedAs}
use Rattle.text.specs.Text.{pick}

-- What the verdict v on a judged block says with the keys s, of the text output.
record Shown (r : Result) (s : Keys) (v : Std.Result ℕ ℕ) (old new : List ℕ) : Type 0 where
  result : result_of v s new ≡ r
  few : count_of v ≤ length new
  text : new ≡ text_of r old

module _ (s : Keys) (n : ℕ) (o t : List ℕ) (h : n ≤ length o) where
  text_front : take n (take n o ++ drop (length (take n o)) t) ≡ take n o
  text_front = take_at (take n o) (drop (length (take n o)) t) n (length-take-le n o h)

  text-few : n ≤ length (take n o ++ drop (length (take n o)) t)
  text-few = omega (arith, length-append (take n o) (drop (length (take n o)) t), length-take-le n o h)

  named-go : (j m : Bool) → named s ≡ m
      → Shown (pick (not j && not (named s)) (stopped 0x0207) (went s (take n o))) s (pick (j || m) (Ok n) (Err 0x0207)) t
      (text_after (pick (j || m) (Ok n) (Err 0x0207)) o t)
  named-go true m e = record { result = ap (went s) text_front; few = text-few; text = refl }
  named-go false true e = rw e (record { result = ap (went s) text_front; few = text-few; text = refl })
  named-go false false e = rw e (record { result = refl; few = zero-le; text = refl })

shown-go : (judged : Bool) (s : Keys) (v : Std.Result ℕ ℕ) (o t : List ℕ) → count_of v ≤ length o
    → Shown (with_names judged (result_of v s o)) s (verdict_after (judged || named s) v) t (text_after (verdict_after (judged || named s) v) o t)
shown-go judged s (Err x) o t h = record { result = refl; few = zero-le; text = refl }
shown-go judged s (Ok n) o t h = named-go s n o t h judged (named s) refl

-- and what is settled beside it, t or after a refusal s
written-go : (r : Result) (s t : Settled) (v : Std.Result ℕ ℕ) (old new : List ℕ) → Shown r (keys_of t) v old new
    → Written r s (record { settled = settled_after v s t; verdict = v }) old new
written-go r s t (Err x) old new w = record { result = w.result; few = w.few; stays = refl; text = w.text }
written-go r s t (Ok n) old new w = record { result = w.result; few = w.few; stays = refl; text = w.text }

-- and the same of the block, by what each callee says
pub written-by : (judged : Bool) (stage : ℕ) (leading : Bool) (ours : List ℕ) (s : Settled) (a b old : List ℕ) (t u : Settled)
    → (v w : Std.Result ℕ ℕ) (o x y : List ℕ) (m : Bool) → a ≡ start_text judged → JudgedAs stage leading ours (keys_of s) a b old v (keys_of t) o → m ≡ named (keys_of t)
    → w ≡ verdict_after (judged || m) v → y ≡ text_after (verdict_after (judged || m) v) o x → u ≡ settled_after w s t
    → Written (block_result judged stage leading ours (keys_of s) b) s (record { settled = u; verdict = w }) x y
unfolding block_result
written-by judged stage leading ours s a b old t u v w o x y m e j q f g h =
    let k = rw e at j in
    let z = rw k.result at (shown-go judged (keys_of t) v o x k.few) in
    rw (h, f, g, q) (written-go _ s t (verdict_after (judged || named (keys_of t)) v) x _ z)

-- the portal group is short
pub ruleset start_fits = (start-length)
