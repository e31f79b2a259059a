-- A header is the first 48 bytes of its input: each field is read alike in both.
use Prim.Native.Nat.{ℕ, zero, suc, ◌+◌, ◌≤◌, ◌<◌}
use mathlib.Core.Path.{◌≡◌, refl}
use mathlib.Core.List.{List}
use mathlib.Core.Bool.{Bool}
use native.Mathlib.Omega.{arith}
use lib.ListN.{get_or, take}
use lib.Seq.{get_or-take}
use Rattle.field.specs.Field.{be_at, byte}
use Rattle.request_header.specs.Request.{opcode_of, data_length_of, data_start_of, pdu_of, request_of, snack_of, data_out_of, shared_ok, rule_ok}
use Rattle.request_header.specs.Verdicts.{fields_ok}
use Rattle.request_header.specs.declared.Limits.{Limits}

module _ (s : List ℕ) where
  pub first-be : (at k : ℕ) → at + k ≤ 48 → be_at (take 48 s) at k ≡ be_at s at k
  unfolding be_at
  first-be at zero l = refl
  first-be at (suc k) l = rw (first-be at k (omega arith), get_or-take 48 s (at + k) 0 (omega arith))

  pub first-byte : (i : ℕ) → i < 48 → byte (take 48 s) i ≡ byte s i
  first-byte i l = get_or-take 48 s i 0 l

  pub first-opcode : opcode_of (take 48 s) ≡ opcode_of s
  first-opcode = rw (first-byte 0 (omega arith))

  pub first-data-length : data_length_of (take 48 s) ≡ data_length_of s
  first-data-length = first-be 5 3 (omega arith)

  pub first-data-start : data_start_of (take 48 s) ≡ data_start_of s
  first-data-start = rw (first-byte 4 (omega arith))

  pub first-request : (op : ℕ) → request_of op (take 48 s) ≡ request_of op s
  unfolding request_of
  first-request op =
      rw (
        first-byte 1 (omega arith),
        first-byte 2 (omega arith),
        first-byte 3 (omega arith),
        first-byte 4 (omega arith),
        first-be 8 6 (omega arith),
        first-be 14 2 (omega arith),
        first-be 20 2 (omega arith),
        first-be 20 4 (omega arith),
        first-be 32 4 (omega arith),
        first-be 32 8 (omega arith),
        first-be 36 4 (omega arith),
        first-be 40 4 (omega arith),
        first-be 40 8 (omega arith),
        first-be 44 4 (omega arith),
      )

  pub first-pdu : (op : ℕ) → pdu_of op (take 48 s) ≡ pdu_of op s
  unfolding pdu_of
  first-pdu op =
      rw (
        first-byte 0 (omega arith),
        first-be 8 8 (omega arith),
        first-be 16 4 (omega arith),
        first-be 24 4 (omega arith),
        first-be 28 4 (omega arith),
        first-request op,
        first-byte 4 (omega arith),
        first-data-length,
      )

  pub first-fields-ok : (m : Limits) (op : ℕ) → fields_ok m op (take 48 s) ≡ fields_ok m op s
  unfolding fields_ok shared_ok
  first-fields-ok m op = rw (first-byte 1 (omega arith), first-byte 4 (omega arith), first-pdu op, first-request op)

  -- of any header that is so
  module _ {h : List ℕ} (first : h ≡ take 48 s) where
    pub header-opcode : opcode_of h ≡ opcode_of s
    header-opcode = rw first first-opcode

    pub header-fields-ok : (m : Limits) (op : ℕ) → fields_ok m op h ≡ fields_ok m op s
    header-fields-ok m op = rw first (first-fields-ok m op)

    pub header-byte : (i : ℕ) → i < 48 → byte h i ≡ byte s i
    header-byte i l = rw first (first-byte i l)

    pub header-be : (at k : ℕ) → at + k ≤ 48 → be_at h at k ≡ be_at s at k
    header-be at k l = rw first (first-be at k l)

    pub header-snack : snack_of h ≡ snack_of s
    header-snack =
        rw (
          first,
          first-byte 1 (omega arith),
          first-be 20 4 (omega arith),
          first-be 40 4 (omega arith),
          first-be 44 4 (omega arith),
        )

    pub header-data-out : data_out_of h ≡ data_out_of s
    header-data-out =
        rw (
          first,
          first-byte 1 (omega arith),
          first-be 20 4 (omega arith),
          first-be 36 4 (omega arith),
          first-be 40 4 (omega arith),
        )

    pub header-data-length : data_length_of h ≡ data_length_of s
    header-data-length = rw first first-data-length
