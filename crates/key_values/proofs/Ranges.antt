-- A settled value lies in its key's range: the offer does, ours does (one test over the table), and each rule stays between them.
use mathlib.Core.Path.{◌≡◌, refl}
use mathlib.Core.Bool.{Bool, true, false, not, ◌&&◌, ◌||◌}
use mathlib.Core.List.{List}
use Prim.Native.Nat.{ℕ, ◌<◌}
use native.Mathlib.Omega.{arith}
use borrow.Author.Tests.{leb-true, ltb-false, eqb-true}
use lib.Dec.{eqb, ltb, leb}
use Rattle.std.specs.Prelude.{Option, Some, None}
use Rattle.text.specs.Text.{pick}
use Rattle.text.proofs.Laws.{below, at, &&-left, &&-right}
use Rattle.key_table.specs.Table.{rows, row_at, is_bool}
use Rattle.key_values.specs.Settle.{In, bool_of, ranged, offered, settled_by, settling_offer, settling}
use Rattle.text_number.specs.Number.{number_of}
use Rattle.key_table.specs.declared.table.Rule.{Rule}
use Rattle.key_table.specs.declared.table.Rule.TheVariants as R
use Rattle.key_table.specs.declared.table.Row.{Row}
use Rattle.key_values.specs.declared.value.Reply.{Reply}
use Rattle.key_values.specs.declared.value.Judgement.TheVariants as J

offer-go : (s t : Bool) (a b n m : ℕ) → ltb n a ≡ s → ltb b n ≡ t → pick s None (pick t None (Some n)) ≡ Some m → In a b m
offer-go true t a b n m p q e = cc
offer-go false true a b n m p q e = cc
offer-go false false a b n m p q e =
    let z : n ≡ m = cc in
    record { least = omega (arith, ltb-false n a p, z); most = omega (arith, ltb-false b n q, z) }

ranged-in : (a b : ℕ) (x : Option ℕ) (m : ℕ) → ranged a b x ≡ Some m → In a b m
ranged-in a b None m e = cc
ranged-in a b (Some n) m e = offer-go (ltb n a) (ltb b n) a b n m refl refl e

-- ours lies in the range too, and a boolean's range is 0 to 1
right : Row → Bool
right r = (leb r.low r.ours && leb r.ours r.high) && (not (is_bool r.rule) || (eqb r.low 0 && eqb r.high 1))

unfoldable right-at : ℕ → Bool
right-at k = right (row_at k)

table : below right-at 12 ≡ true
unfolding right right-at row_at rows
table = refl

least-in : (t : Bool) (low high a b : ℕ) → In low high a → In low high b → In low high (pick t a b)
least-in true low high a b p q = p
least-in false low high a b p q = q

bit_in : (t : Bool) (low high : ℕ) → low ≡ 0 → high ≡ 1 → In low high (pick t 1 0)
bit_in true low high p q = record { least = omega arith; most = omega arith }
bit_in false low high p q = record { least = omega arith; most = omega arith }

by-rule : (r : Rule) (low high a b : ℕ) → In low high a → In low high b → (not (is_bool r) || (eqb low 0 && eqb high 1)) ≡ true → In low high (settled_by r a b)
by-rule R.Least low high a b p q e = least-in (ltb a b) low high a b p q
by-rule R.Greatest low high a b p q e = least-in (ltb a b) low high b a q p
by-rule R.Or low high a b p q e = bit_in (eqb a 1 || eqb b 1) low high (eqb-true low 0 (&&-left _ _ e)) (eqb-true high 1 (&&-right (eqb low 0) _ e))
by-rule R.And low high a b p q e = bit_in (eqb a 1 && eqb b 1) low high (eqb-true low 0 (&&-left _ _ e)) (eqb-true high 1 (&&-right (eqb low 0) _ e))
by-rule R.Declared low high a b p q e = p

settled-go : (r : Row) (o : Option ℕ) (n : ℕ) (y : Reply) → ((m : ℕ) → o ≡ Some m → In r.low r.high m) → right r ≡ true → settling_offer r o ≡ J.Settles n y → In r.low r.high n
unfolding right
settled-go r None n y g t e = cc
settled-go r (Some a) n y g t e =
    let c : settled_by r.rule a r.ours ≡ n = cc in
    let o : In r.low r.high r.ours = record { least = leb-true _ _ (&&-left _ _ (&&-left _ _ t)); most = leb-true _ _ (&&-right (leb r.low r.ours) _ (&&-left _ _ t)) } in
    rw (← c) (by-rule r.rule r.low r.high a r.ours (g a refl) o (&&-right (leb r.low r.ours && leb r.ours r.high) _ t))

pub settled-in : (k : ℕ) → k < 12 → (v : List ℕ) (n : ℕ) (y : Reply) → settling (row_at k) v ≡ J.Settles n y → In (row_at k).low (row_at k).high n
unfolding settling offered right-at
settled-in k h v n y e =
    settled-go (row_at k) (offered (row_at k) v) n y (λ m q. ranged-in (row_at k).low (row_at k).high (pick (is_bool (row_at k).rule) (bool_of v) (number_of v)) m q) (at right-at 12 table k h) e
