-- The data sentences hold of every list of calls on a task from the making of its record. What a call did and answered, against the history (`Says`,
-- `Tells`), gives the sentences (`sentences`); each step of the record has both and carries the invariant on (`goes`).
use Prim.Native.Nat.{ℕ, ◌+◌, ◌-◌, ◌≤◌, ◌<◌}
use mathlib.Core.Path.{◌≡◌, refl, sym, ap, ◌∙◌, subst}
use mathlib.Core.Bool.{Bool, true, false, ◌&&◌}
use mathlib.Core.List.{List, [], ◌∷◌, map}
use mathlib.Core.Logic.{◌↔◌, ⊎_elim}
use native.Mathlib.Omega.{arith}
use borrow.Author.Tests.{ltb-true, leb-true, eqb-true, eq-eqb}
use lib.Dec.{eqb, leb, ltb}
use lib.ListN.{length, length-map}
use Rattle.field.specs.Field.{pick}
use Rattle.request_header.specs.declared.DataOut.{DataOut}
use Rattle.request_header.specs.declared.Snack.{Snack}
use Rattle.response_header.specs.declared.DataIn.{DataIn}
use Rattle.response_header.specs.declared.R2t.{R2t}
use Rattle.task_book.specs.declared.TaskGiven.{TaskGiven}
use Rattle.task_book.specs.Record.{OpenR2T, Record, fresh_record, last_number, offset_end, given_ok, making, Making, made}
use Rattle.task_book.specs.Steps.{Answer, Step, step, refuse, data_in_ok, data_in_header, after_data_in, data_in_step, r2t_ok, r2t_header, after_r2t, r2t_step, data_out_ok, after_data_out, data_out_at, data_out_step, unacknowledged, all_unacknowledged, run_from, data_run, acknowledged_to, data_acknowledged, restarted_at, data_restarted, snack_ok, data_snack_by, data_snack_step, exp_data_sn_of}
use Rattle.task_book.specs.History.{DataCall, step_of, Event, moved, responded, Ran, done, moves, responds}
use Rattle.task_book.specs.Effects.{Effect, sends_data_in, sends_r2t, takes, acknowledges, restarts, effect_by, effect_of, and_then, done_by}
use Rattle.task_book.specs.Notions.{highest_beg_run, number_due, next_offset, burst_so_far, end_of, asked_to, came_to, still_open, data_outs_since, record_of}
use Rattle.task_book.specs.Sentences.{LiesIn, Expects, DataSentences, EachEvent, DataPhases}
use Rattle.task_book.proofs.Tests.{both, DataInFits, data-in-fits, R2TFits, r2t-fits, DataOutFits, data-out-fits}
use Rattle.task_book.proofs.Past.{open_as, Inv, record_is, inv-fresh, inv-none, inv-data-in, inv-r2t, starts-in, inv-part, inv-whole, inv-ack, inv-restart}

-- ---- what is claimed of a call, by what it did and by what it answered

record OfDataIn (g : TaskGiven) (past : List Effect) (h : DataIn) : Type 0 where
  pub number : h.data_sn ≡ number_due past
  pub order : h.buffer_offset ≡ next_offset past
  pub burst : burst_so_far past + h.data_segment_length ≤ g.max_burst_length
  pub fits : (h.data_sn < last_number) × (h.buffer_offset < offset_end) × (h.buffer_offset + h.data_segment_length ≤ offset_end)

record OfR2T (g : TaskGiven) (n : ℕ) (past : List Effect) (h : R2t) : Type 0 where
  pub number : h.r2t_sn ≡ number_due past
  pub order : h.buffer_offset ≡ asked_to n past
  pub burst : (0 < h.desired_data_transfer_length) × (h.desired_data_transfer_length ≤ g.max_burst_length)
  pub fits : (h.r2t_sn < last_number) × (end_of h ≤ offset_end)

record OfDataOut (n : ℕ) (past : List Effect) (p : DataOut) (len : ℕ) : Type 0 where
  pub order : p.buffer_offset ≡ came_to n past
  pub number : p.data_sn ≡ data_outs_since past
  pub below : p.data_sn < last_number
  pub to : R2t
  pub later : List R2t
  pub oldest : still_open past ≡ to ∷ later
  pub lies : LiesIn p len to
  pub final : (p.is_final ≡ true) ↔ (p.buffer_offset + len ≡ end_of to)

unfoldable Says : TaskGiven → ℕ → List Effect → Effect → Type 0
Says g n past (sends_data_in h) = OfDataIn g past h
Says g n past (sends_r2t h) = OfR2T g n past h
Says g n past (takes p len) = OfDataOut n past p len
Says g n past (acknowledges b) = b ≤ number_due past
Says g n past (restarts o t) = Unit {0}
Says g n past Effect.none = Unit {0}

-- a run, which is all that is sent and not acknowledged where the count starts again
record OfRun (past : List Effect) (d : Effect) (first count : ℕ) : Type 0 where
  pub low : highest_beg_run past ≤ first
  pub high : first + count ≤ number_due past
  pub all : (o t : ℕ) → d ≡ restarts o t → (first ≡ highest_beg_run past) × (first + count ≡ number_due past)

unfoldable Tells : List Effect → Event → Type 0
Tells past (moved c (Answer.refused k)) = Unit {0}
Tells past (moved c (Answer.data_in h)) = Unit {0}
Tells past (moved c (Answer.r2t h)) = Unit {0}
Tells past (moved c (Answer.came o k m)) = m ≡ length (still_open (and_then past (moved c (Answer.came o k m))))
Tells past (moved c (Answer.run f k)) = OfRun past (effect_by c (Answer.run f k)) f k
Tells past (moved c (Answer.acknowledged k)) = highest_beg_run past + k ≡ highest_beg_run (and_then past (moved c (Answer.acknowledged k)))
Tells past (responded r k) = Expects past r k

module _ (g : TaskGiven) (n : ℕ) (past : List Effect) (e : Event) where
  sentences : Says g n past (effect_of e) → Tells past e → length (still_open (and_then past e)) ≤ g.max_outstanding_r2t
      → ((c : DataCall) (a : Answer) → e ≡ moved c a → a ≡ (step_of (record_of g n past) c).answer) → DataSentences g n past e
  unfolding Says Tells
  sentences s t few exactly = record {
    data_sn = λ h q. (by-effect q).number;
    r2t_sn = λ h q. (by-effect q).number;
    in_order = λ h q. (by-effect q).order;
    asks_on = λ h q. (by-effect q).order;
    comes_on = λ p len q. (by-effect q).order;
    data_out_sn = λ p len q. (by-effect q).number;
    lies_in = λ p len to later q o. let d : OfDataOut n past p len = by-effect q in subst (LiesIn p len) (oldest d o) d.lies;
    solicited = λ p len q o. let d : OfDataOut n past p len = by-effect q in cc d.oldest;
    burst_in = λ h q. (by-effect q).burst;
    burst_out = λ h q. (by-effect q).burst;
    final = λ p len to later q o.
        let d : OfDataOut n past p len = by-effect q in
        subst (λ (r : R2t). (p.is_final ≡ true) ↔ (p.buffer_offset + len ≡ end_of r)) (oldest d o) d.final;
    few = few;
    tells = λ c o k m q. subst (λ (y : Event). m ≡ length (still_open (and_then past y))) (sym q) (by-event q);
    exp_data_sn = λ r k q. by-event q;
    runs = λ c f k q. ((by-event q).low, (by-event q).high);
    restarts_all = λ c f k o w q r. (by-event q).all o w (sym (ap effect_of q) ∙ r);
    sent_before = λ b q. by-effect q;
    newly = λ c k q. subst (λ (y : Event). highest_beg_run past + k ≡ highest_beg_run (and_then past y)) (sym q) (by-event q);
    fits_in = λ h q. (by-effect q).fits;
    fits_out = λ h q. (by-effect q).fits;
    fits_data_out = λ p len q. (by-effect q).below;
    exactly = exactly;
  }
    where
      by-effect : {d : Effect} → effect_of e ≡ d → Says g n past d
      by-effect q = subst (Says g n past) q s

      by-event : {y : Event} → e ≡ y → Tells past y
      by-event q = subst (Tells past) q t

      oldest : {p : DataOut} {len : ℕ} {to : R2t} {later : List R2t} (d : OfDataOut n past p len) → still_open past ≡ to ∷ later → d.to ≡ to
      oldest d o = cc d.oldest

-- ---- each step

by-pick : {A : Type 0} (P : A → Type 0) (t : Bool) (a b : A) → (t ≡ true → P a) → (t ≡ false → P b) → P (pick t a b)
by-pick P true a b f h = f refl
by-pick P false a b f h = h refl

module _ (g : TaskGiven) (n : ℕ) (past : List Effect) (x : Record) (i : Inv g n past x) where
  record Goes (c : DataCall) (s : Step) : Type 0 where
    pub inv : Inv g n (effect_by c s.answer ∷ past) s.after
    pub says : Says g n past (effect_by c s.answer)
    pub tells : Tells past (moved c s.answer)

  goes-refused : (c : DataCall) (k : ℕ) → Goes c (refuse k x)
  unfolding Says Tells
  goes-refused (DataCall.data_in f a m) k = record { inv = inv-none g n past x i; says = tt; tells = tt }
  goes-refused (DataCall.r2t t m) k = record { inv = inv-none g n past x i; says = tt; tells = tt }
  goes-refused (DataCall.data_out t p m) k = record { inv = inv-none g n past x i; says = tt; tells = tt }
  goes-refused (DataCall.data_snack v t o p) k = record { inv = inv-none g n past x i; says = tt; tells = tt }

  most : x.given.max_burst_length ≡ g.max_burst_length
  most = ap (λ (y : TaskGiven). y.max_burst_length) i.given

  data-in-goes : (f a : Bool) (len : ℕ) → DataInFits x len
      → Goes (DataCall.data_in f a len) (step (Answer.data_in (data_in_header x f a len)) (after_data_in x f len))
  unfolding Says Tells data_in_header
  data-in-goes f a len t = record {
    inv = inv-data-in g n past x i f a len;
    says = record {
      number = i.numbers.sent;
      order = i.data_in.offset;
      burst = omega (arith, i.data_in.burst, most);
      fits = (t.number, t.offset, t.end);
    };
    tells = tt;
  }

  goes-data-in : (f a : Bool) (len : ℕ) → Goes (DataCall.data_in f a len) (data_in_step x f a len)
  unfolding data_in_step
  goes-data-in f a len =
      by-pick (Goes (DataCall.data_in f a len)) (data_in_ok x a len) (step (Answer.data_in (data_in_header x f a len)) (after_data_in x f len)) (refuse 3 x)
      (λ e. data-in-goes f a len (data-in-fits x a len e)) (λ e. goes-refused (DataCall.data_in f a len) 3)

  r2t-goes : (t len : ℕ) → R2TFits x len → Goes (DataCall.r2t t len) (step (Answer.r2t (r2t_header x t len)) (after_r2t x t len))
  unfolding Says Tells r2t_header
  r2t-goes t len f = record {
    inv = inv-r2t g n past x i t len f.some (omega (arith, f.few, ap (λ (y : TaskGiven). y.max_outstanding_r2t) i.given));
    says = record {
      number = i.numbers.sent;
      order = i.data_out.asked;
      burst = (f.some, omega (arith, f.burst, most));
      fits = (f.number, f.end);
    };
    tells = tt;
  }

  goes-r2t : (t len : ℕ) → Goes (DataCall.r2t t len) (r2t_step x t len)
  unfolding r2t_step
  goes-r2t t len =
      by-pick (Goes (DataCall.r2t t len)) (r2t_ok x t len) (step (Answer.r2t (r2t_header x t len)) (after_r2t x t len)) (refuse 3 x)
      (λ e. r2t-goes t len (r2t-fits x t len e)) (λ e. goes-refused (DataCall.r2t t len) 3)

  -- y is the record after it
  data-out-goes : (t : ℕ) (p : DataOut) (len : ℕ) (q : R2t) (rest : List R2t) → still_open past ≡ q ∷ rest → DataOutFits x (open_as q) p len
      → (y : Record) → y ≡ after_data_out x (map open_as rest) p.is_final len
      → Goes (DataCall.data_out t p len) (step (Answer.came p.buffer_offset len (length y.open_r2ts)) y)
  unfolding Says Tells still_open
  data-out-goes t p len q rest e d y ey = go p.is_final refl d.end
    where
      goes : Inv g n (takes p len ∷ past) y → p.buffer_offset + len ≤ end_of q → (p.is_final ≡ true) ↔ (p.buffer_offset + len ≡ end_of q)
          → Goes (DataCall.data_out t p len) (step (Answer.came p.buffer_offset len (length y.open_r2ts)) y)
      goes j l f = record {
        inv = j;
        says = record {
          order = d.offset ∙ i.data_out.came;
          number = d.number ∙ i.data_out.data_sn;
          below = omega (arith, d.number, d.below);
          to = q;
          later = rest;
          oldest = e;
          lies = record { tag = d.tag; from = omega (arith, starts-in g n past x i q rest e, d.offset, i.data_out.came); within = l };
          final = f;
        };
        tells = ap length j.open_r2ts.opened ∙ length-map (still_open (takes p len ∷ past)) open_as;
      }

      go : (f : Bool) → p.is_final ≡ f → pick f (eqb (x.data_out.came + len) (end_of q)) (ltb (x.data_out.came + len) (end_of q)) ≡ true
          → Goes (DataCall.data_out t p len) (step (Answer.came p.buffer_offset len (length y.open_r2ts)) y)
      go true f k =
          let l : x.data_out.came + len ≡ end_of q = eqb-true _ _ k in
          goes (subst (Inv g n (takes p len ∷ past)) (sym ey) (inv-whole g n past x i q rest e p len f d.offset l)) (omega (arith, d.offset))
          (λ z. omega (arith, d.offset), λ z. f)
      go false f k =
          let l : x.data_out.came + len < end_of q = ltb-true _ _ k in
          goes (subst (Inv g n (takes p len ∷ past)) (sym ey) (inv-part g n past x i q rest e p len f d.offset l)) (omega (arith, d.offset))
          (λ z. absurd cc, λ z. absurd (omega (arith, d.offset)))

  goes-data-out : (t : ℕ) (p : DataOut) (len : ℕ) → Goes (DataCall.data_out t p len) (data_out_step x t p len)
  unfolding data_out_step still_open
  goes-data-out t p len = subst (λ (l : List OpenR2T). Goes c (data_out_at x l t p len)) (sym i.open_r2ts.opened) (at (still_open past) refl)
    where
      c : DataCall
      c = DataCall.data_out t p len

      at : (l : List R2t) → still_open past ≡ l → Goes c (data_out_at x (map open_as l) t p len)
      at [] e = goes-refused c 3
      at (q ∷ rest) e =
          let y : Record = after_data_out x (map open_as rest) p.is_final len in
          by-pick (Goes c) (data_out_ok x (open_as q) t p len) (step (Answer.came p.buffer_offset len (length y.open_r2ts)) y) (refuse 3 x)
          (λ ok. data-out-goes t p len q rest e (data-out-fits x (open_as q) t p len ok) y refl) (λ ok. goes-refused c 3)

  -- ---- data SNACK

  module _ (v t o : ℕ) (p : Snack) where
    call : DataCall
    call = DataCall.data_snack v t o p

    -- type 0
    run-goes : eqb p.snack_type 0 ≡ true → (f k : ℕ) → highest_beg_run past ≤ f → f + k ≤ number_due past → Goes call (step (Answer.run f k) x)
    unfolding call Says Tells
    run-goes e f k low high = record {
      inv = rw e (inv-none g n past x i);
      says = rw e tt;
      tells = record { low = low; high = high; all = λ w z q. let r = rw e at q in absurd cc };
    }

    from_goes : eqb p.snack_type 0 ≡ true → (b m : ℕ) → Goes call (step (run_from x b m) x)
    unfolding run_from
    from_goes e b m =
        by-pick G (leb x.numbering.acknowledged b && ltb b x.numbering.sent) some (Answer.refused 12)
        (λ q. let r = both (leb x.numbering.acknowledged b) (ltb b x.numbering.sent) q in one_of (leb-true _ _ r.0) (ltb-true _ _ r.1))
        (λ q. goes-refused call 12)
      where
        G : Answer → Type 0
        G a = Goes call (step a x)

        left : ℕ
        left = x.numbering.sent - b

        some : Answer
        some = pick (eqb m 0) (Answer.run b left) (pick (leb m left) (Answer.run b m) (Answer.refused 12))

        one_of : x.numbering.acknowledged ≤ b → b < x.numbering.sent → G some
        one_of l h =
            by-pick G (eqb m 0) (Answer.run b left) (pick (leb m left) (Answer.run b m) (Answer.refused 12))
            (λ z. run-goes e b left (omega (arith, i.numbers.acked)) (omega (arith, i.numbers.sent)))
            (λ z. by-pick G (leb m left) (Answer.run b m) (Answer.refused 12)
            (λ w. run-goes e b m (omega (arith, i.numbers.acked)) (omega (arith, i.numbers.sent, leb-true m left w)))
            (λ w. goes-refused call 12))

    goes-run : eqb p.snack_type 0 ≡ true → Goes call (data_run x p.beg_run p.run_length)
    unfolding data_run all_unacknowledged unacknowledged
    goes-run e =
        by-pick (λ (a : Answer). Goes call (step a x)) (eqb p.beg_run 0 && eqb p.run_length 0) (all_unacknowledged x)
        (run_from x p.beg_run p.run_length)
        (λ z. run-goes e (x.numbering.sent - (x.numbering.sent - x.numbering.acknowledged)) (x.numbering.sent - x.numbering.acknowledged)
        (omega (arith, i.numbers.sent, i.numbers.acked, i.numbers.ordered)) (omega (arith, i.numbers.sent)))
        (λ z. from_goes e p.beg_run p.run_length)

    -- type 2
    acknowledged-goes : p.beg_run ≤ x.numbering.sent
        → Goes call (step (Answer.acknowledged (p.beg_run - x.numbering.acknowledged)) (acknowledged_to x p.beg_run))
    unfolding call Says Tells highest_beg_run
    acknowledged-goes l = record {
      inv = inv-ack g n past x i p.beg_run l;
      says = omega (arith, i.numbers.sent);
      tells = omega (arith, i.numbers.acked);
    }

    goes-acknowledged : Goes call (data_acknowledged x p.beg_run)
    unfolding data_acknowledged
    goes-acknowledged =
        by-pick (Goes call) (leb p.beg_run x.numbering.sent)
        (step (Answer.acknowledged (p.beg_run - x.numbering.acknowledged)) (acknowledged_to x p.beg_run)) (refuse 12 x)
        (λ e. acknowledged-goes (leb-true _ _ e)) (λ e. goes-refused call 12)

    -- type 3
    restarted-goes : eqb p.snack_type 0 ≡ false → Goes call (step (all_unacknowledged x) (restarted_at x o p.target_transfer_tag))
    unfolding call Says Tells all_unacknowledged unacknowledged
    restarted-goes e = record {
      inv = rw e (inv-restart g n past x i o p.target_transfer_tag);
      says = rw e tt;
      tells = record {
        low = omega (arith, i.numbers.sent, i.numbers.acked, i.numbers.ordered);
        high = omega (arith, i.numbers.sent);
        all = λ w z q. (omega (arith, i.numbers.sent, i.numbers.acked, i.numbers.ordered), omega (arith, i.numbers.sent));
      };
    }

    goes-restarted : eqb p.snack_type 0 ≡ false → Goes call (data_restarted x o p)
    unfolding data_restarted
    goes-restarted e =
        by-pick (Goes call) (eqb p.beg_run 0 && eqb p.run_length 0)
        (step (all_unacknowledged x) (restarted_at x o p.target_transfer_tag)) (refuse 12 x)
        (λ z. restarted-goes e) (λ z. goes-refused call 12)

    goes-snack : Goes call (data_snack_step x v t o p)
    unfolding data_snack_step data_snack_by
    goes-snack =
        by-pick (Goes call) (snack_ok x t p) (pick (eqb v 0) (refuse 12 x) (data_snack_by x o p)) (refuse 3 x)
        (λ a. by-pick (Goes call) (eqb v 0) (refuse 12 x) (data_snack_by x o p) (λ z. goes-refused call 12) (λ z. by-type)) (λ a. goes-refused call 3)
      where
        by-type : Goes call (data_snack_by x o p)
        by-type =
            by-pick (Goes call) (eqb p.snack_type 0) (data_run x p.beg_run p.run_length)
            (pick (eqb p.snack_type 2) (data_acknowledged x p.beg_run) (data_restarted x o p)) goes-run
            (λ e. by-pick (Goes call) (eqb p.snack_type 2) (data_acknowledged x p.beg_run) (data_restarted x o p)
            (λ z. goes-acknowledged) (λ z. goes-restarted e))

  goes : (c : DataCall) → Goes c (step_of x c)
  unfolding call
  goes (DataCall.data_in f a len) = goes-data-in f a len
  goes (DataCall.r2t t len) = goes-r2t t len
  goes (DataCall.data_out t p len) = goes-data-out t p len
  goes (DataCall.data_snack v t o p) = goes-snack v t o p

  -- ---- statuses

  expects : (r k : ℕ) → k ≡ exp_data_sn_of x.numbering r → Expects past r k
  unfolding exp_data_sn_of
  expects r k e = go (eqb r 0) x.numbering.any_data_in refl refl e
    where
      go : (a b : Bool) → eqb r 0 ≡ a → x.numbering.any_data_in ≡ b → k ≡ pick (a && b) x.numbering.sent 0 → Expects past r k
      go true true a b e = record {
        count = λ z w. e ∙ i.numbers.sent;
        zero = ⊎_elim (λ z. absurd (z (eqb-true r 0 a))) (λ z. absurd (cc (b, i.numbers.any ∙ z)));
      }
      go true false a b e = record { count = λ z w. absurd (cc (i.numbers.any ∙ w, b)); zero = λ z. e }
      go false b a z e = record { count = λ y w. absurd (cc (eq-eqb r 0 y, a)); zero = λ y. e }

-- ---- from the making of the record

each-says : (g : TaskGiven) (n : ℕ) (past : List Effect) {x y : Record} {es : List Event} → Inv g n past x → Ran x es y
    → EachEvent (DataSentences g n) past es × Inv g n (done_by past es) y
unfolding EachEvent done_by still_open Says Tells
each-says g n past i done = (tt, i)
each-says g n past {x = x} i (moves {c = c} e r) =
    let s = goes g n past x i c in
    let exactly : (step_of x c).answer ≡ (step_of (record_of g n past) c).answer = ap (λ (y : Record). (step_of y c).answer) (record_is i) in
    let later = each-says g n (effect_by c (step_of x c).answer ∷ past) s.inv r in
    rw e ((sentences g n past (moved c (step_of x c).answer) s.says s.tells s.inv.open_r2ts.few (λ d a q. cc), later.0), later.1)
each-says g n past {x = x} i (responds {r = r} {n = k} e q) =
    let j = inv-none g n past x i in
    let later = each-says g n (Effect.none ∷ past) j q in (
      (
        sentences g n past (responded r k) tt (expects g n past x i r k e) j.open_r2ts.few
            (λ d a z. absurd cc),
        later.0,
      ),
      later.1,
    )

made-is : (g : TaskGiven) (n : ℕ) {x : Record} → making g n ≡ made x → Inv g n [] x
unfolding making
made-is g n {x = x} m = go (given_ok g) m
  where
    go : (t : Bool) → pick t (made (fresh_record g n)) (Making.refused 3) ≡ made x → Inv g n [] x
    go true e = let q : fresh_record g n ≡ x = cc in subst (Inv g n []) q (inv-fresh g n)
    go false e = absurd cc

-- the data sentences of every list of calls on a task, from the record that its making answered
pub data-sentences : (g : TaskGiven) (n : ℕ) {x y : Record} {es : List Event} → making g n ≡ made x → Ran x es y → DataPhases g n es
data-sentences g n m r = (each-says g n [] (made-is g n m) r).0

-- and the record after them is the one that the list says
pub record-said : (g : TaskGiven) (n : ℕ) {x y : Record} {es : List Event} → making g n ≡ made x → Ran x es y → y ≡ record_of g n (done_by [] es)
record-said g n m r = record_is (each-says g n [] (made-is g n m) r).1
