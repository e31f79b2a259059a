-- How long an answered pair can be: at most 78 bytes, of a name of 63, =, a reply of 13 and a zero byte.
use Rattle.std.specs.Prelude.{Result}
use mathlib.Core.Path.{◌≡◌, refl}
use mathlib.Core.Bool.{Bool, true, false}
use mathlib.Core.List.{List, [], ◌∷◌, ◌++◌}
use Prim.Native.Nat.{ℕ, ◌≤◌}
use native.Mathlib.Omega.{arith}
use lib.ListN.{length, length-append}
use Rattle.text.specs.Text.{pick, Appended}
use Rattle.text.proofs.Laws.{appended_then}
use Rattle.text_number.proofs.Digits.{decimal-length}
use Rattle.key_replies.specs.Answer.{reply_bytes, is_silent, answer_from, answer_text, reply_in, said_text}
use Rattle.key_values.specs.declared.value.Reply.{Reply}
use Rattle.key_values.specs.declared.value.Reply.TheVariants as A
use Rattle.key_values.specs.declared.value.Judgement.{Judgement}

pub reply_length : (r : Reply) → length (reply_bytes r) ≤ 13
unfolding reply_bytes
reply_length A.Silent = omega arith
reply_length A.Reject = omega arith
reply_length A.NotUnderstood = omega arith
reply_length A.Yes = omega arith
reply_length A.No = omega arith
reply_length A.None = omega arith
reply_length A.Rfc3720 = omega arith
reply_length (A.Number n) = omega (arith, decimal-length 10 n)

pair-length : (t : Bool) (n r : List ℕ) → length n ≤ 63 → length r ≤ 13 → length (pick t [] (((n ++ (61 ∷ [])) ++ r) ++ (0 ∷ []))) ≤ 78
pair-length true n r a b = omega arith
pair-length false n r a b = simp length-append (omega arith)

answer-length : (n : List ℕ) (r : Reply) → length n ≤ 63 → length (answer_text n r) ≤ 78
unfolding answer_text
answer-length n r h = pair-length (is_silent r) n (reply_bytes r) h (reply_length r)

pub said-length : (n : List ℕ) (j : Result Judgement ℕ) → length n ≤ 63 → length (said_text n j) ≤ 78
said-length n j h = answer-length n (reply_in j) h

spoken : (r : Reply) → (r ≡ A.Silent → ⊥) → is_silent r ≡ false
spoken A.Silent n = absurd (n refl)
spoken A.Reject n = refl
spoken A.NotUnderstood n = refl
spoken A.Yes n = refl
spoken A.No n = refl
spoken A.None n = refl
spoken A.Rfc3720 n = refl
spoken (A.Number x) n = refl

-- The pieces of an answer, put one after another.
pub answer-put : {o n p q t : List ℕ} {at a b e : ℕ} → (r : Reply) → (r ≡ A.Silent → ⊥) → Appended o at n p a → Appended p a (reply_bytes r) q b
    → Appended q b (0 ∷ []) t e → Appended o at (answer_from n r) t e
answer-put r s x y z = rw (spoken r s) (appended_then (appended_then x y) z)
