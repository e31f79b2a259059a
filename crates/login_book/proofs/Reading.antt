-- Reading refuses with no status: its number is never 6.
use mathlib.Core.Path.{◌≡◌}
use mathlib.Core.Bool.{Bool, true, false, not, ◌&&◌}
use mathlib.Core.List.{List}
use Prim.Native.Nat.{ℕ}
use native.Mathlib.Omega.{arith}
use lib.ListN.{length}
use Rattle.text.specs.Text.{pick}
use Rattle.request_header.specs.Request as Read
use Rattle.request_header.specs.Request.{read_pdu, judged, known, opcode_of, data_length_of, stated_length, shared_ok, rule_ok, pdu_of}
use Rattle.request_header.specs.declared.Pdu.{Pdu}
use Rattle.request_header.specs.declared.Limits.{Limits}
use lib.Dec.{eqb, ltb}

-- A refusal of reading has no status: its number is not 6.
reading-go : (b1 b2 b3 b4 b5 : Bool) (p : Pdu)
    → pick b1 (Read.refused 4) (pick b2 (Read.refused 2) (pick b3 (Read.refused 5) (pick b4 (Read.refused 4) (pick b5 (Read.got p) (Read.refused 3)))))
    ≡ Read.refused 6 → ⊥
reading-go true b2 b3 b4 b5 p e = let z : ◌≡◌ {A = ℕ} 4 6 = cc in omega arith
reading-go false true b3 b4 b5 p e = let z : ◌≡◌ {A = ℕ} 2 6 = cc in omega arith
reading-go false false true b4 b5 p e = let z : ◌≡◌ {A = ℕ} 5 6 = cc in omega arith
reading-go false false false true b5 p e = let z : ◌≡◌ {A = ℕ} 4 6 = cc in omega arith
reading-go false false false false true p e = let z : ◌≡◌ {A = ℕ} 0 1 = cc in omega arith
reading-go false false false false false p e = let z : ◌≡◌ {A = ℕ} 3 6 = cc in omega arith

pub reading : (m : Limits) (s : List ℕ) → read_pdu m s ≡ Read.refused 6 → ⊥
unfolding read_pdu judged
reading m s e =
    reading-go (ltb (length s) 48) (not (known (opcode_of s))) (ltb m.data_segment (data_length_of s)) (not (eqb (length s) (stated_length s)))
    (shared_ok (opcode_of s) s && rule_ok m (pdu_of (opcode_of s) s) (pdu_of (opcode_of s) s).request) (pdu_of (opcode_of s) s) e
