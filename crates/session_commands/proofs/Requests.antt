-- What an offer makes of a PDU, past the refusals before FIELD: it looks at the rules of its own kinds only, since another kind is FIELD
-- whether it meets its rules or not.
use mathlib.Core.Path.{◌≡◌, refl, sym, ◌∙◌}
use mathlib.Core.Bool.{Bool, true, false, ◌&&◌}
use mathlib.Core.List.{List}
use Prim.Native.Nat.{ℕ}
use native.Mathlib.Omega.{arith}
use borrow.Author.Tests.{ne_eqb}
use lib.Dec.{eqb}
use Rattle.field.specs.Field.{pick, be_at, byte, bit}
use Rattle.request_header.specs.declared.Request.TheVariants as Q
use Rattle.request_header.specs.declared.Limits.{Limits}
use Rattle.request_header.specs.Request.{read_pdu, got, refused, opcode_of, request_of, pdu_of, login_of, data_out_of, snack_of}
use Rattle.request_header.specs.Verdicts.{IsHeader, fields_ok}
use Rattle.request_header.proofs.FieldRules.{and-true, rules-past}
use Rattle.request_header.proofs.Header.{first-opcode, first-fields-ok, first-request, first-byte, first-be}
use Rattle.book.specs.Book.{is_offered, offered_as, denied, at_once, numbered}
use Rattle.book.proofs.Small.{has-number}

module _ (m : Limits) (s : List ℕ) where
  last-three : (a b c : Bool) → false ≡ a && is_offered (pick b (Q.Login (login_of s)) (pick c (Q.DataOut (data_out_of s)) (Q.Snack (snack_of s))))
  last-three true true c = refl
  last-three true false true = refl
  last-three true false false = refl
  last-three false b c = refl

  offered-by : (op : ℕ) (a b : Bool) → fields_ok m op s ≡ a → is_offered (request_of op s) ≡ b
      → read_pdu m s ≡ pick (fields_ok m op s) (got (pdu_of op s)) (refused 3)
      → offered_as (read_pdu m s) ≡ pick (a && b) (pick (bit (byte s 0) 64) at_once (numbered (be_at s 24 4))) (denied 3)
  unfolding pdu_of
  offered-by op true true e f g = rw (g, e, f, has-number s op _ _ refl refl f, and-true)
  offered-by op true false e f g = rw (g, e, f)
  offered-by op false b e f g = rw (g, e)

  -- what is read of the header decides
  pub offered-as : {h : List ℕ} → IsHeader m s h
      → {r v : Bool} → r ≡ fields_ok m (opcode_of h) h && is_offered (request_of (opcode_of h) h) → r ≡ v
      → pick v (pick (bit (byte h 0) 64) at_once (numbered (be_at h 24 4))) (denied 3) ≡ offered_as (read_pdu m s)
  offered-as {h} i {r} {v} e f =
      let g : r ≡ fields_ok m (opcode_of s) s && is_offered (request_of (opcode_of s) s)
      = e ∙ rw (i.first, first-opcode s, first-fields-ok s m (opcode_of s), first-request s (opcode_of s)) in
      rw (i.first, first-byte s 0 (omega arith), first-be s 24 4 (omega arith), sym f ∙ g)
      (sym (offered-by (opcode_of s) _ _ refl refl (rules-past m s (sym i.passed) refl)))

  -- Login, Data-Out and SNACK are not offered
  pub not-offered : (op : ℕ) → (op ≡ 0x00 → ⊥) → (op ≡ 0x01 → ⊥) → (op ≡ 0x02 → ⊥) → (op ≡ 0x06 → ⊥)
      → false ≡ fields_ok m op s && is_offered (request_of op s)
  unfolding request_of
  not-offered op x y z w = rw (ne_eqb _ _ x, ne_eqb _ _ y, ne_eqb _ _ z, ne_eqb _ _ w) (last-three (fields_ok m op s) (eqb op 0x03) (eqb op 0x05))
