-- The count sent of a record that its calls made fits 32 bits, and no more is acknowledged than was sent.
use Prim.Native.Nat.{ℕ, ◌^◌, ◌≤◌, ◌<◌}
use mathlib.Core.Path.{◌≡◌, refl, subst}
use mathlib.Core.Bool.{Bool, true, false, ◌&&◌}
use mathlib.Core.List.{List, [], ◌∷◌}
use native.Mathlib.Omega.{arith}
use borrow.Author.Tests.{leb-true}
use lib.Dec.{eqb, leb, ltb}
use Rattle.field.specs.Field.{pick}
use Rattle.request_header.specs.declared.DataOut.{DataOut}
use Rattle.request_header.specs.declared.Snack.{Snack}
use Rattle.task_book.specs.declared.TaskGiven.{TaskGiven}
use Rattle.task_book.specs.Record.{OpenR2T, Record, last_number, fresh_record, given_ok, refused, made, making}
use Rattle.task_book.specs.Steps.{refuse, data_in_ok, after_data_in, numbered, data_in_step, r2t_ok, r2t_step, data_out_ok, data_out_at, data_out_step, data_run, data_acknowledged, data_restarted, snack_ok, data_snack_by, data_snack_step, acknowledged_to, restarted_at, after_r2t, after_data_out, exp_data_sn_of}
use Rattle.task_book.specs.History.{DataCall, step_of}
use Rattle.task_book.proofs.Tests.{data-in-fits, r2t-fits}

pub record Bounded (x : Record) : Type 0 where
  pub sent : x.numbering.sent ≤ last_number
  pub acked : x.numbering.acknowledged ≤ x.numbering.sent

pub bounded-fresh : (g : TaskGiven) (n : ℕ) → Bounded (fresh_record g n)
unfolding fresh_record
bounded-fresh g n = record { sent = omega arith; acked = omega arith }

pub bounded-made : (g : TaskGiven) (n : ℕ) {x : Record} → making g n ≡ made x → Bounded x
unfolding making
bounded-made g n {x} e = go (given_ok g) e
  where
    go : (u : Bool) → pick u (made (fresh_record g n)) (refused 3) ≡ made x → Bounded x
    go true q = let r : fresh_record g n ≡ x = cc in subst Bounded r (bounded-fresh g n)
    go false q = absurd cc

module _ (x : Record) (b : Bounded x) where
  by-data-in : (f a : Bool) (len : ℕ) → Bounded (data_in_step x f a len).after
  unfolding data_in_step after_data_in numbered
  by-data-in f a len = go (data_in_ok x a len) refl
    where
      go : (u : Bool) → data_in_ok x a len ≡ u → Bounded (data_in_step x f a len).after
      go true e = rw e (record { sent = omega (arith, (data-in-fits x a len e).number); acked = omega (arith, b.acked) })
      go false e = rw e b

  by-r2t : (t len : ℕ) → Bounded (r2t_step x t len).after
  unfolding r2t_step after_r2t numbered
  by-r2t t len = go (r2t_ok x t len) refl
    where
      go : (u : Bool) → r2t_ok x t len ≡ u → Bounded (r2t_step x t len).after
      go true e = rw e (record { sent = omega (arith, (r2t-fits x t len e).number); acked = omega (arith, b.acked) })
      go false e = rw e b

  by-data-out : (i : ℕ) (p : DataOut) (len : ℕ) → Bounded (data_out_step x i p len).after
  unfolding data_out_step after_data_out
  by-data-out i p len = go x.open_r2ts
    where
      pass : (q : OpenR2T) (rest : List OpenR2T) (u : Bool) → data_out_ok x q i p len ≡ u → Bounded (data_out_at x (q ∷ rest) i p len).after
      pass q rest true e = rw e (record { sent = b.sent; acked = b.acked })
      pass q rest false e = rw e b

      go : (l : List OpenR2T) → Bounded (data_out_at x l i p len).after
      go [] = b
      go (q ∷ rest) = pass q rest (data_out_ok x q i p len) refl

  by_acknowledge : (r : ℕ) → Bounded (data_acknowledged x r).after
  unfolding data_acknowledged acknowledged_to
  by_acknowledge r = go (leb r x.numbering.sent) refl
    where
      most : (u : Bool) → ltb x.numbering.acknowledged r ≡ u → r ≤ x.numbering.sent → pick u r x.numbering.acknowledged ≤ x.numbering.sent
      most true e l = l
      most false e l = b.acked

      go : (u : Bool) → leb r x.numbering.sent ≡ u → Bounded (data_acknowledged x r).after
      go true e = rw e (record { sent = b.sent; acked = most (ltb x.numbering.acknowledged r) refl (leb-true _ _ e) })
      go false e = rw e b

  by-restart : (o : ℕ) (p : Snack) → Bounded (data_restarted x o p).after
  unfolding data_restarted restarted_at
  by-restart o p = go (eqb p.beg_run 0 && eqb p.run_length 0) refl
    where
      go : (u : Bool) → (eqb p.beg_run 0 && eqb p.run_length 0) ≡ u → Bounded (data_restarted x o p).after
      go true e = rw e (record { sent = omega (arith, b.sent, b.acked); acked = omega arith })
      go false e = rw e b

  by-snack : (v i o : ℕ) (p : Snack) → Bounded (data_snack_step x v i o p).after
  unfolding data_snack_step data_snack_by data_run
  by-snack v i o p = go (snack_ok x i p) (eqb v 0) (eqb p.snack_type 0) (eqb p.snack_type 2)
    where
      go : (k z t u : Bool)
          → Bounded (pick k (pick z (refuse 12 x) (pick t (data_run x p.beg_run p.run_length)
          (pick u (data_acknowledged x p.beg_run) (data_restarted x o p)))) (refuse 3 x)).after
      go false z t u = b
      go true true t u = b
      go true false true u = b
      go true false false true = by_acknowledge p.beg_run
      go true false false false = by-restart o p

  pub bounded-step : (c : DataCall) → Bounded (step_of x c).after
  bounded-step (DataCall.data_in f a n) = by-data-in f a n
  bounded-step (DataCall.r2t t n) = by-r2t t n
  bounded-step (DataCall.data_out i p n) = by-data-out i p n
  bounded-step (DataCall.data_snack v i o p) = by-snack v i o p

  -- so its ExpDataSN fits 32 bits
  pub expected-fits : (r : ℕ) → exp_data_sn_of x.numbering r < 2 ^ 32
  unfolding exp_data_sn_of
  expected-fits r = go (eqb r 0 && x.numbering.any_data_in)
    where
      go : (u : Bool) → pick u x.numbering.sent 0 < 2 ^ 32
      go true = omega (arith, b.sent)
      go false = omega arith
