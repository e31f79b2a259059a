-- What the tests of Steps say, where they hold.
use Prim.Native.Nat.{ℕ, ◌+◌, ◌<◌, ◌≤◌}
use mathlib.Core.Path.{◌≡◌}
use mathlib.Core.Bool.{Bool, true, ◌&&◌}
use lib.Dec.{eqb, ltb}
use lib.ListN.{length}
use borrow.Author.Tests.{tests}
use native.Mathlib.Omega.{arith}
use Rattle.field.specs.Field.{pick}
use Rattle.request_header.specs.declared.DataOut.{DataOut}
use Rattle.task_book.specs.Record.{OpenR2T, Record, open_places, last_number, offset_end}
use Rattle.task_book.specs.Steps.{data_in_ok, r2t_ok, data_out_ok}

pub both : (a b : Bool) → (a && b) ≡ true → (a ≡ true) × (b ≡ true)
both a b e = grind arith

pub record DataInFits (x : Record) (len : ℕ) : Type 0 where
  pub burst : x.data_in.burst + len ≤ x.given.max_burst_length
  pub number : x.numbering.sent < last_number
  pub offset : x.data_in.offset < offset_end
  pub end : x.data_in.offset + len ≤ offset_end

pub data-in-fits : (x : Record) (a : Bool) (len : ℕ) → data_in_ok x a len ≡ true → DataInFits x len
unfolding data_in_ok
data-in-fits x a len e = grind (arith, tests)

pub record R2TFits (x : Record) (len : ℕ) : Type 0 where
  pub some : 0 < len
  pub burst : len ≤ x.given.max_burst_length
  pub end : x.data_out.asked + len ≤ offset_end
  pub few : length x.open_r2ts < x.given.max_outstanding_r2t
  pub places : length x.open_r2ts < open_places
  pub number : x.numbering.sent < last_number

pub r2t-fits : (x : Record) (t len : ℕ) → r2t_ok x t len ≡ true → R2TFits x len
unfolding r2t_ok
r2t-fits x t len e = grind (arith, tests)

pub record DataOutFits (x : Record) (q : OpenR2T) (p : DataOut) (len : ℕ) : Type 0 where
  pub tag : p.target_transfer_tag ≡ q.tag
  pub number : p.data_sn ≡ x.data_out.data_sn
  pub below : x.data_out.data_sn < last_number
  pub offset : p.buffer_offset ≡ x.data_out.came
  pub end : pick p.is_final (eqb (x.data_out.came + len) q.end) (ltb (x.data_out.came + len) q.end) ≡ true

pub data-out-fits : (x : Record) (q : OpenR2T) (i : ℕ) (p : DataOut) (len : ℕ) → data_out_ok x q i p len ≡ true → DataOutFits x q p len
unfolding data_out_ok
data-out-fits x q i p len e = grind (arith, tests)
