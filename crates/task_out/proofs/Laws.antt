-- The rules in the code's struct: a Data-Out with an R2T open. The oldest lies at the first place of the ring, and those after it from the next place on.
use Prim.Native.Nat.{ℕ, ◌+◌, ◌-◌, ◌%◌, ◌^◌, ◌<◌}
use mathlib.Core.Path.{◌≡◌, sym, ap, ◌∙◌}
use mathlib.Core.Bool.{Bool, true, false}
use mathlib.Core.List.{List, ◌∷◌}
use native.Mathlib.Omega.{arith}
use lib.ListN.{length}
use Rattle.request_header.specs.declared.DataOut.{DataOut}
use Rattle.task_book.specs.Record.{OpenR2T, Record}
use Rattle.task_book.specs.Steps.{step, came, data_out_ok, data_out_at, after_data_out, data_out_step}
use Rattle.task.specs.declared.Task.{Task}
use Rattle.task.specs.Agree.{place_of, record_of, with_data_out}
use Rattle.task_book.proofs.Tests.{data-out-fits}
use Rattle.task.proofs.Ring.{open-length, open-same, open-oldest}

-- The open R2Ts as they lie in the ring.
pub ruleset ring = (open-length, open-same, open-oldest)

-- A Data-Out that answers the oldest open R2T.
data-out-came : (x : Record) (q : OpenR2T) (rest : List OpenR2T) (i : ℕ) (p : DataOut) (n : ℕ) (f : Bool) → x.open_r2ts ≡ q ∷ rest
    → data_out_ok x q i p n ≡ true → p.is_final ≡ f
    → step (came p.buffer_offset n (length (after_data_out x rest f n).open_r2ts)) (after_data_out x rest f n) ≡ data_out_step x i p n
unfolding data_out_step
data-out-came x q rest i p n f e good final =
    ap (λ (g : Bool). step (came p.buffer_offset n (length (after_data_out x rest g n).open_r2ts)) (after_data_out x rest g n)) (sym final)
    ∙ sym (ap (λ (l : List OpenR2T). data_out_at x l i p n) e ∙ rw good)

module _ (t : Task) (ts es : List ℕ) (i : ℕ) (p : DataOut) (n : ℕ) (opened : 0 < t.open_count) (r : Bool)
    (told : r ≡ data_out_ok (record_of t ts es) (place_of ts es t.first_open) i p n) where
  pub out-left : r ≡ true → t.data_out.data_sn + 1 < 2 ^ 32
  out-left ok = let g = data-out-fits (record_of t ts es) (place_of ts es t.first_open) i p n (sym told ∙ ok) in omega arith

  pub out-ends : r ≡ true → p.is_final ≡ true
      → step (came p.buffer_offset n (t.open_count - 1)) (record_of (with_data_out t
      (record { asked = t.data_out.asked; came = p.buffer_offset + n; data_sn = 0 }) ((t.first_open % 8 + 1) % 8) (t.open_count - 1)) ts es)
      ≡ data_out_step (record_of t ts es) i p n
  unfolding after_data_out
  out-ends ok final =
      let x = record_of t ts es in
      let g = data-out-fits x (place_of ts es t.first_open) i p n (sym told ∙ ok) in
      rw (open-same ts es ((t.first_open % 8 + 1) % 8) (t.first_open + 1) (t.open_count - 1) (omega arith), ap (λ (b : ℕ). b + n) g.offset)
      (rw (open-length ts es (t.first_open + 1) (t.open_count - 1))
      at (data-out-came x _ _ i p n true (open-oldest ts es t.first_open t.open_count opened) (sym told ∙ ok) final))

  pub out-goes-on : r ≡ true → p.is_final ≡ false
      → step (came p.buffer_offset n t.open_count) (record_of (with_data_out t
      (record { asked = t.data_out.asked; came = p.buffer_offset + n; data_sn = t.data_out.data_sn + 1 }) t.first_open t.open_count)
      ts es) ≡ data_out_step (record_of t ts es) i p n
  unfolding after_data_out
  out-goes-on ok final =
      let x = record_of t ts es in
      let g = data-out-fits x (place_of ts es t.first_open) i p n (sym told ∙ ok) in
      rw (ap (λ (b : ℕ). b + n) g.offset) (rw (open-length ts es t.first_open t.open_count)
      at (data-out-came x _ _ i p n false (open-oldest ts es t.first_open t.open_count opened) (sym told ∙ ok) final))
