-- What reading says past the refusals before FIELD, to one who reads one kind only: F is what is made of the answer, and of another kind it makes what
-- it makes of FIELD. So only the rules of that kind are looked at: another is FIELD whether it meets its own or not.
use mathlib.Core.Path.{◌≡◌, refl, sym, ap, ◌∙◌}
use mathlib.Core.Bool.{Bool, true, false, not, ◌||◌}
use mathlib.Core.List.{List}
use Prim.Native.Nat.{ℕ}
use borrow.Author.Tests.{eqb-true, eqb-false, ne_eqb, not-true, not-false}
use lib.Dec.{eqb}
use Rattle.field.specs.Field.{pick}
use Rattle.request_header.specs.declared.DataOut.{DataOut}
use Rattle.request_header.specs.declared.Snack.{Snack}
use Rattle.request_header.specs.declared.Limits.{Limits}
use Rattle.request_header.specs.declared.Pdu.{Pdu}
use Rattle.request_header.specs.declared.Request.{Request}
use Rattle.request_header.specs.declared.Request.TheVariants as Q
use Rattle.request_header.specs.Kind.{if_data_out, if_snack}
use Rattle.request_header.specs.Request.{Answer, read_pdu, got, refused, known, opcode_of, request_of, pdu_of}
use Rattle.request_header.specs.Request.{nop_out_of, scsi_command_of, task_management_of, login_of, data_out_of, logout_of, snack_of}
use Rattle.request_header.specs.Verdicts.{IsHeader, fields_ok, snack_only}
use Rattle.request_header.proofs.FieldRules.{known-last, known_past, rules-past}
use Rattle.request_header.proofs.Header.{header-opcode, header-fields-ok}

module _ {A : Type 0} (F : Answer → A) (m : Limits) (s : List ℕ) (op : ℕ) where
  by-rules : {r : Bool} → r ≡ fields_ok m op s → read_pdu m s ≡ pick (fields_ok m op s) (got (pdu_of op s)) (refused 3) → (b : Bool) → r ≡ b
      → pick b (F (got (pdu_of op s))) (F (refused 3)) ≡ F (read_pdu m s)
  by-rules e g true f = rw (g, ← e, f)
  by-rules e g false f = rw (g, ← e, f)

  other-by : (o : ℕ) (a : Bool) → fields_ok m o s ≡ a → F (got (pdu_of o s)) ≡ F (refused 3)
      → read_pdu m s ≡ pick (fields_ok m o s) (got (pdu_of o s)) (refused 3)
      → F (refused 3) ≡ F (read_pdu m s)
  other-by o true e h g = rw (g, e) (sym h)
  other-by o false e h g = rw (g, e)

  -- by the header
  module _ {h : List ℕ} (i : IsHeader m s h) {r : Bool} (e : r ≡ fields_ok m op h) where
    of-input : {t : Bool} → eqb (opcode_of h) op ≡ t → eqb (opcode_of s) op ≡ t
    of-input f = sym (ap (λ o. eqb o op) (header-opcode s i.first)) ∙ f

    ruled : read_pdu m s ≡ pick (fields_ok m (opcode_of s) s) (got (pdu_of (opcode_of s) s)) (refused 3)
    ruled = rules-past m s (sym i.passed) refl

    -- FIELD for another kind, and for this one where it breaks a rule
    pub denied : ((o : ℕ) → known o ≡ true → (o ≡ op → ⊥) → F (got (pdu_of o s)) ≡ F (refused 3))
        → (t : Bool) → eqb (opcode_of h) op ≡ t → (not t || not r) ≡ true
        → F (refused 3) ≡ F (read_pdu m s)
    denied k false f g = other-by (opcode_of s) _ refl (k (opcode_of s) (known_past m s (sym i.passed) refl) (eqb-false (opcode_of s) op (of-input f))) ruled
    denied k true f g = by-rules (e ∙ header-fields-ok s i.first m op) (rw (eqb-true (opcode_of s) op (of-input f)) at ruled) false (not-true _ g)

    -- a PDU of this kind that keeps its rules
    pub granted : (t : Bool) → eqb (opcode_of h) op ≡ t → (not t || not r) ≡ false → F (got (pdu_of op s)) ≡ F (read_pdu m s)
    granted false f g = cc
    granted true f g = by-rules (e ∙ header-fields-ok s i.first m op) (rw (eqb-true (opcode_of s) op (of-input f)) at ruled) true (not-false _ g)

module _ (s : List ℕ) {A : Type 0} (d : A) where
  data-out-by : (f : DataOut → A) (a b c e g : Bool)
      → if_data_out f d (pick a (Q.NopOut (nop_out_of s)) (pick b (Q.ScsiCommand (scsi_command_of s)) (pick c (Q.TaskManagement (task_management_of s))
      (pick e (Q.Login (login_of s)) (pick false (Q.DataOut (data_out_of s)) (pick g (Q.Logout (logout_of s)) (Q.Snack (snack_of s))))))))
      ≡ d
  data-out-by f true b c e g = refl
  data-out-by f false true c e g = refl
  data-out-by f false false true e g = refl
  data-out-by f false false false true g = refl
  data-out-by f false false false false true = refl
  data-out-by f false false false false false = refl

  -- a request of another opcode is no Data-Out
  pub not-data-out : (f : DataOut → A) (o : ℕ) → (o ≡ 0x05 → ⊥) → if_data_out f d (request_of o s) ≡ d
  unfolding request_of
  not-data-out f o h = rw (ne_eqb o 0x05 h) (data-out-by f (eqb o 0x00) (eqb o 0x01) (eqb o 0x02) (eqb o 0x03) (eqb o 0x06))

  snack-by : (f : Snack → A) (a b c e h g : Bool) → (a ≡ false → b ≡ false → c ≡ false → e ≡ false → h ≡ false → g ≡ false → ⊥)
      → if_snack f d (pick a (Q.NopOut (nop_out_of s)) (pick b (Q.ScsiCommand (scsi_command_of s)) (pick c (Q.TaskManagement (task_management_of s))
      (pick e (Q.Login (login_of s)) (pick h (Q.DataOut (data_out_of s)) (pick g (Q.Logout (logout_of s)) (Q.Snack (snack_of s))))))))
      ≡ d
  snack-by f true b c e h g x = refl
  snack-by f false true c e h g x = refl
  snack-by f false false true e h g x = refl
  snack-by f false false false true h g x = refl
  snack-by f false false false false true g x = refl
  snack-by f false false false false false true x = refl
  snack-by f false false false false false false x = absurd (x refl refl refl refl refl refl)

  -- a request that is read, of another opcode, is no SNACK
  pub not-snack : (f : Snack → A) (o : ℕ) → known o ≡ true → (o ≡ 0x10 → ⊥) → if_snack f d (request_of o s) ≡ d
  unfolding request_of
  not-snack f o k h =
      snack-by f (eqb o 0x00) (eqb o 0x01) (eqb o 0x02) (eqb o 0x03) (eqb o 0x05) (eqb o 0x06)
      (λ a b c d e g.
      h (known-last o k (eqb-false o 0x00 a) (eqb-false o 0x01 b) (eqb-false o 0x02 c)
      (eqb-false o 0x03 d) (eqb-false o 0x05 e) (eqb-false o 0x06 g)))

-- what is made of reading's answer by one who looks at SNACKs only: g of a SNACK, and of another kind what is made of FIELD
module _ {A : Type 0} (F : Answer → A) (g : Pdu → Snack → A) (is : (p : Pdu) → F (got p) ≡ if_snack (g p) (F (refused 3)) p.request) where
  by-kind : (p : Pdu) (r : Request) → p.request ≡ r → F (if_snack (λ q. got p) (refused 3) r) ≡ F (got p)
  by-kind p (Q.NopOut x) e = sym (is p ∙ ap (if_snack (g p) (F (refused 3))) e)
  by-kind p (Q.ScsiCommand x) e = sym (is p ∙ ap (if_snack (g p) (F (refused 3))) e)
  by-kind p (Q.TaskManagement x) e = sym (is p ∙ ap (if_snack (g p) (F (refused 3))) e)
  by-kind p (Q.Login x) e = sym (is p ∙ ap (if_snack (g p) (F (refused 3))) e)
  by-kind p (Q.DataOut x) e = sym (is p ∙ ap (if_snack (g p) (F (refused 3))) e)
  by-kind p (Q.Logout x) e = sym (is p ∙ ap (if_snack (g p) (F (refused 3))) e)
  by-kind p (Q.Snack x) e = refl

  pub of-snack_only : (a : Answer) → F (snack_only a) ≡ F a
  of-snack_only (refused n) = refl
  of-snack_only (got p) = by-kind p p.request refl
