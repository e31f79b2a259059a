-- What reading into words answers, by kind: the field rules decide, and the fields are the bytes'.
use mathlib.Core.Path.{◌≡◌, refl, sym, ap, ◌∙◌}
use mathlib.Core.Bool.{Bool, true, false, ◌&&◌}
use mathlib.Core.List.{List}
use Prim.Native.Nat.{ℕ, ◌%◌, ◌<◌}
use borrow.Author.Tests.{eqb-true, eqb-false}
use lib.Dec.{eqb}
use native.Mathlib.Nat.{add-zero}
use native.Mathlib.Omega.{arith}
use Rattle.field.specs.Field.{pick, be_at, byte}
use Rattle.request_header.specs.declared.Limits.{Limits}
use Rattle.request_header.specs.Request.{read_pdu, pdu_of, request_of, opcode_of}
use Rattle.request_header.specs.Verdicts.{IsHeader, fields_ok, refusal_before_field}
use Rattle.request_header.proofs.Header.{first-opcode, first-pdu, first-fields-ok}
use Rattle.request_header.proofs.FieldRules.{refused-before, rules-past}
use Rattle.request_words.specs.RequestWords.{ReadWords, read_words, kind_words, common_words, own_words}

-- a bit as a word is the number that it is told by
bit-by : (n : ℕ) (b : Bool) → eqb n 1 ≡ b → n < 2 → n ≡ pick b 1 0
bit-by n true e h = eqb-true n 1 e
bit-by n false e h = let f = eqb-false n 1 e in omega arith

pub bit-of : (n : ℕ) → n % 2 ≡ pick (eqb (n % 2) 1) 1 0
bit-of n = bit-by (n % 2) _ refl (omega arith)

-- a field of one byte
pub be-one : (s : List ℕ) (at : ℕ) → be_at s at 1 ≡ byte s at
unfolding be_at
be-one s at = rw add-zero (omega arith)

pub and-false : (b : Bool) → (b && false) ≡ false
and-false true = refl
and-false false = refl

-- bits and single bytes
pub ruleset header_words = (bit-of, be-one)

module _ (m : Limits) (op : ℕ) (s : List ℕ) (c o : List ℕ) where
  -- a kept rule is a PDU
  pub kind-read : (r : Bool) → r ≡ fields_ok m op s → r ≡ true → (cs os : List ℕ) → cs ≡ common_words (pdu_of op s) → os ≡ own_words (request_of op s)
      → record { answer = 0; common = cs; own = os } ≡ kind_words m op s c o
  unfolding kind_words read_words pdu_of
  kind-read r e f cs os x y = rw (← e, f, x, y)

module _ (m : Limits) (s : List ℕ) (c o : List ℕ) where
  -- past the refusals before FIELD, the kind decides
  pub kind_decides : {h : List ℕ} → IsHeader m s h → {op : ℕ} {x : ReadWords} → opcode_of h ≡ op → x ≡ kind_words m op h c o → x ≡ read_words (read_pdu m s) c o
  unfolding kind_words
  kind_decides {h} i {op} g e =
      let same : opcode_of s ≡ op = sym (ap opcode_of i.first ∙ first-opcode s) ∙ g in
      rw (rules-past m s (sym i.passed) refl, same) (e ∙ rw (i.first, first-fields-ok s m op, first-pdu s op))

  pub refused_words : {n : ℕ} → n ≡ refusal_before_field m s → (n ≡ 0 → ⊥) → record { answer = n; common = c; own = o } ≡ read_words (read_pdu m s) c o
  unfolding read_words
  refused_words f e = rw (refused-before m s f e)
