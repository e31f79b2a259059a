-- A task's record against what the list of calls says of it. The invariant `Inv`: each part of the record is its notion; the open R2Ts are those that the
-- history has still open; these join from the oldest one's place, in which the data has come, to what was asked for.
use Prim.Native.Nat.{ℕ, suc, ◌+◌, ◌≤◌, ◌<◌, max}
use mathlib.Core.Path.{◌≡◌, refl, sym, ap, ◌∙◌, subst}
use mathlib.Core.Bool.{Bool, true, false, or-true, or-false}
use mathlib.Core.List.{List, [], ◌∷◌, ◌++◌, map}
use native.Mathlib.Omega.{arith}
use native.Mathlib.Numerals.{add-one}
use borrow.Author.Tests.{ltb-true, ltb-false}
use lib.Dec.{ltb}
use lib.ListN.{length, drop, length-append, length-drop, length-map}
use lib.Seq.{drop-append-le, drop-drop}
use Rattle.field.specs.Field.{pick}
use Rattle.request_header.specs.declared.DataOut.{DataOut}
use Rattle.response_header.specs.declared.R2t.{R2t}
use Rattle.task_book.specs.declared.TaskGiven.{TaskGiven}
use Rattle.task_book.specs.declared.Numbering.{Numbering}
use Rattle.task_book.specs.declared.DataInSequence.{DataInSequence}
use Rattle.task_book.specs.declared.DataOutSequence.{DataOutSequence}
use Rattle.task_book.specs.Record.{OpenR2T, Record, fresh_record}
use Rattle.task_book.specs.Steps.{numbered, data_in_header, after_data_in, r2t_header, after_r2t, after_data_out, acknowledged_to, restarted_at}
use Rattle.task_book.specs.Effects.{Effect, sends_data_in, sends_r2t, takes, acknowledges, restarts}
use Rattle.task_book.specs.Notions.{highest_beg_run, started_from, sent_since, number_due, latest_tag, any_data_in_of, next_offset, burst_so_far, end_of, asked_to, came_to, r2ts_sent, answered, still_open, data_outs_since, record_of}

-- what the record keeps of an R2T
abbrev pub open_as : R2t → OpenR2T
open_as h = record { tag = h.target_transfer_tag; end = end_of h }

-- R2Ts that ask for all from one offset to another, each for something and from where the one before ends
unfoldable pub Joined : ℕ → List R2t → ℕ → Type 0
Joined from [] to = from ≡ to
Joined from (q ∷ qs) to = (q.buffer_offset ≡ from) × (from < end_of q) × Joined (end_of q) qs to

-- the open ones, of which the oldest has the place up to which data came
unfoldable pub Reaches : ℕ → List R2t → ℕ → Type 0
Reaches came [] to = came ≡ to
Reaches came (q ∷ qs) to = (q.buffer_offset ≤ came) × (came < end_of q) × Joined (end_of q) qs to

-- the parts of a record, against what the history says of them
pub record NumbersAre (m : Numbering) (due highest : ℕ) (some_in : Bool) (tag : ℕ) : Type 0 where
  pub sent : m.sent ≡ due
  pub acked : m.acknowledged ≡ highest
  pub any : m.any_data_in ≡ some_in
  pub snack_tag : m.snack_tag ≡ tag
  pub ordered : highest ≤ due

pub record DataInIs (d : DataInSequence) (next so_far : ℕ) : Type 0 where
  pub offset : d.offset ≡ next
  pub burst : d.burst ≡ so_far

pub record DataOutIs (d : DataOutSequence) (asked-to came-to due : ℕ) : Type 0 where
  pub asked : d.asked ≡ asked-to
  pub came : d.came ≡ came-to
  pub data_sn : d.data_sn ≡ due

pub record OpenAre (l : List OpenR2T) (most whole asked-to came-to : ℕ) (sent : List R2t) : Type 0 where
  pub opened : l ≡ map open_as (drop whole sent)
  pub few : length (drop whole sent) ≤ most
  pub bound : whole ≤ length sent
  pub reaches : Reaches came-to (drop whole sent) asked-to

pub record Inv (g : TaskGiven) (n : ℕ) (past : List Effect) (x : Record) : Type 0 where
  pub given : x.given ≡ g
  pub numbers : NumbersAre x.numbering (number_due past) (highest_beg_run past) (any_data_in_of past) (latest_tag past)
  pub data_in : DataInIs x.data_in (next_offset past) (burst_so_far past)
  pub data_out : DataOutIs x.data_out (asked_to n past) (came_to n past) (data_outs_since past)
  pub open_r2ts : OpenAre x.open_r2ts g.max_outstanding_r2t (answered past) (asked_to n past) (came_to n past) (r2ts_sent past)

-- so the record is the one that the history says
pub record_is : {g : TaskGiven} {n : ℕ} {past : List Effect} {x : Record} → Inv g n past x → x ≡ record_of g n past
unfolding record_of still_open
record_is i = λ j. record {
  given = i.given j;
  numbering = record {
    sent = i.numbers.sent j;
    acknowledged = i.numbers.acked j;
    any_data_in = i.numbers.any j;
    snack_tag = i.numbers.snack_tag j;
  };
  data_in = record { offset = i.data_in.offset j; burst = i.data_in.burst j };
  data_out = record { asked = i.data_out.asked j; came = i.data_out.came j; data_sn = i.data_out.data_sn j };
  open_r2ts = i.open_r2ts.opened j;
}

pub inv-fresh : (g : TaskGiven) (n : ℕ) → Inv g n [] (fresh_record g n)
unfolding fresh_record Reaches
    number_due started_from sent_since highest_beg_run latest_tag any_data_in_of next_offset burst_so_far asked_to came_to r2ts_sent answered data_outs_since
inv-fresh g n = record {
  given = refl;
  numbers = record { sent = refl; acked = refl; any = refl; snack_tag = refl; ordered = omega arith };
  data_in = record { offset = refl; burst = refl };
  data_out = record { asked = refl; came = refl; data_sn = refl };
  open_r2ts = record { opened = refl; few = omega arith; bound = omega arith; reaches = refl };
}

-- ---- R2Ts that join

joined-more : (from : ℕ) (qs : List R2t) (to : ℕ) (h : R2t) → Joined from qs to → h.buffer_offset ≡ to → to < end_of h → Joined from (qs ++ h ∷ []) (end_of h)
unfolding Joined
joined-more from [] to h j o l = (o ∙ sym j, omega arith, refl)
joined-more from (q ∷ qs) to h j o l = (j.0, j.1, joined-more (end_of q) qs to h j.2 o l)

reaches_more : (came : ℕ) (qs : List R2t) (to : ℕ) (h : R2t) → Reaches came qs to → h.buffer_offset ≡ to → to < end_of h
    → Reaches came (qs ++ h ∷ []) (end_of h)
unfolding Reaches Joined
reaches_more came [] to h j o l = (omega arith, omega arith, refl)
reaches_more came (q ∷ qs) to h j o l = (j.0, j.1, joined-more (end_of q) qs to h j.2 o l)

-- the oldest answered whole, the data came to the start of the next one
reaches-next : (from : ℕ) (qs : List R2t) (to : ℕ) → Joined from qs to → Reaches from qs to
unfolding Reaches Joined
reaches-next from [] to j = j
reaches-next from (q ∷ qs) to j = (omega (arith, j.0), j.1, j.2)

map_more : (qs : List R2t) (h : R2t) → map open_as (qs ++ h ∷ []) ≡ map open_as qs ++ open_as h ∷ []
map_more [] h = refl
map_more (q ∷ qs) h = ap (λ (l : List OpenR2T). open_as q ∷ l) (map_more qs h)

-- ---- after each effect the record is still what the history says

module _ (g : TaskGiven) (n : ℕ) (past : List Effect) (x : Record) (i : Inv g n past x) where
  pub inv-none : Inv g n (Effect.none ∷ past) x
  unfolding number_due started_from sent_since highest_beg_run latest_tag any_data_in_of next_offset burst_so_far asked_to came_to r2ts_sent answered
      data_outs_since
  inv-none = record { given = i.given; numbers = i.numbers; data_in = i.data_in; data_out = i.data_out; open_r2ts = i.open_r2ts }

  pub inv-data-in : (f a : Bool) (len : ℕ) → Inv g n (sends_data_in (data_in_header x f a len) ∷ past) (after_data_in x f len)
  unfolding data_in_header after_data_in numbered
      number_due started_from sent_since highest_beg_run latest_tag any_data_in_of next_offset burst_so_far asked_to came_to r2ts_sent answered data_outs_since
  inv-data-in f a len = record {
    given = i.given;
    numbers = record {
      sent = omega (arith, i.numbers.sent);
      acked = i.numbers.acked;
      any = or-true x.numbering.any_data_in;
      snack_tag = i.numbers.snack_tag;
      ordered = omega (arith, i.numbers.ordered);
    };
    data_in = record { offset = refl; burst = ap (λ (b : ℕ). pick f 0 (b + len)) i.data_in.burst };
    data_out = i.data_out;
    open_r2ts = i.open_r2ts;
  }

  pub inv-r2t : (t len : ℕ) → 0 < len → length x.open_r2ts < g.max_outstanding_r2t → Inv g n (sends_r2t (r2t_header x t len) ∷ past) (after_r2t x t len)
  unfolding r2t_header after_r2t numbered
      number_due started_from sent_since highest_beg_run latest_tag any_data_in_of next_offset burst_so_far asked_to came_to r2ts_sent answered data_outs_since
  inv-r2t t len l m = record {
    given = i.given;
    numbers = record {
      sent = omega (arith, i.numbers.sent);
      acked = i.numbers.acked;
      any = or-false x.numbering.any_data_in ∙ i.numbers.any;
      snack_tag = i.numbers.snack_tag;
      ordered = omega (arith, i.numbers.ordered);
    };
    data_in = i.data_in;
    data_out = record { asked = refl; came = i.data_out.came; data_sn = i.data_out.data_sn };
    open_r2ts = record {
      opened = ap (λ (s : List OpenR2T). s ++ open_as h ∷ []) o.opened ∙ sym (map_more qs h) ∙ ap (map open_as) (sym one_more);
      few = omega (arith, ap length one_more, length-append qs (h ∷ []), ap length o.opened, length-map qs open_as);
      bound = omega (arith, o.bound, length-append (r2ts_sent past) (h ∷ []));
      reaches = rw one_more (reaches_more (came_to n past) qs (asked_to n past) h o.reaches i.data_out.asked (omega (arith, i.data_out.asked)));
    };
  }
    where
      o : OpenAre x.open_r2ts g.max_outstanding_r2t (answered past) (asked_to n past) (came_to n past) (r2ts_sent past)
      o = i.open_r2ts

      h : R2t
      h = r2t_header x t len

      qs : List R2t
      qs = drop (answered past) (r2ts_sent past)

      one_more : drop (answered past) (r2ts_sent past ++ h ∷ []) ≡ qs ++ h ∷ []
      one_more = drop-append-le (answered past) (r2ts_sent past) (h ∷ []) o.bound

  -- an accepted Data-Out: without F it ends before its R2T, q, and with F there
  module _ (q : R2t) (rest : List R2t) (e : still_open past ≡ q ∷ rest) where
    now : Reaches (came_to n past) (q ∷ rest) (asked_to n past)
    unfolding still_open
    now = subst (λ (s : List R2t). Reaches (came_to n past) s (asked_to n past)) e i.open_r2ts.reaches

    pub starts-in : q.buffer_offset ≤ came_to n past
    unfolding Reaches
    starts-in = now.0

    pub inv-part : (p : DataOut) (len : ℕ) → p.is_final ≡ false → p.buffer_offset ≡ x.data_out.came → x.data_out.came + len < end_of q
        → Inv g n (takes p len ∷ past) (after_data_out x (map open_as rest) p.is_final len)
    unfolding after_data_out still_open Reaches
        number_due started_from sent_since highest_beg_run latest_tag any_data_in_of next_offset burst_so_far asked_to came_to r2ts_sent answered
        data_outs_since
    inv-part p len f o l = rw f (record {
      given = i.given;
      numbers = i.numbers;
      data_in = i.data_in;
      data_out = record { asked = i.data_out.asked; came = omega arith; data_sn = omega (arith, i.data_out.data_sn) };
      open_r2ts = record {
        opened = i.open_r2ts.opened;
        few = i.open_r2ts.few;
        bound = i.open_r2ts.bound;
        reaches = rw e (omega (arith, now.0, i.data_out.came), omega arith, now.2);
      };
    })

    next-open : drop (suc (answered past)) (r2ts_sent past) ≡ rest
    unfolding still_open
    next-open = rw (← add-one) (sym (drop-drop 1 (answered past) (r2ts_sent past)) ∙ ap (drop 1) e)

    pub inv-whole : (p : DataOut) (len : ℕ) → p.is_final ≡ true → p.buffer_offset ≡ x.data_out.came → x.data_out.came + len ≡ end_of q
        → Inv g n (takes p len ∷ past) (after_data_out x (map open_as rest) p.is_final len)
    unfolding after_data_out still_open Reaches
        number_due started_from sent_since highest_beg_run latest_tag any_data_in_of next_offset burst_so_far asked_to came_to r2ts_sent answered
        data_outs_since
    inv-whole p len f o l = rw f (record {
      given = i.given;
      numbers = i.numbers;
      data_in = i.data_in;
      data_out = record { asked = i.data_out.asked; came = omega arith; data_sn = refl };
      open_r2ts = record {
        opened = ap (map open_as) (sym next-open);
        few = omega (arith, i.open_r2ts.few, ap length e, ap length next-open);
        bound = omega (arith, ap length e, length-drop (answered past) (r2ts_sent past));
        reaches =
            let end : p.buffer_offset + len ≡ end_of q = omega arith in
            rw (next-open, end) (reaches-next (end_of q) rest (asked_to n past) now.2);
      };
    })

  pub inv-ack : (b : ℕ) → b ≤ x.numbering.sent → Inv g n (acknowledges b ∷ past) (acknowledged_to x b)
  unfolding acknowledged_to
      number_due started_from sent_since highest_beg_run latest_tag any_data_in_of next_offset burst_so_far asked_to came_to r2ts_sent answered data_outs_since
  inv-ack b l = record {
    given = i.given;
    numbers = record {
      sent = i.numbers.sent;
      acked = go (ltb x.numbering.acknowledged b) refl;
      any = i.numbers.any;
      snack_tag = i.numbers.snack_tag;
      ordered = omega (arith, i.numbers.sent, i.numbers.ordered);
    };
    data_in = i.data_in;
    data_out = i.data_out;
    open_r2ts = i.open_r2ts;
  }
    where
      go : (t : Bool) → ltb x.numbering.acknowledged b ≡ t → pick t b x.numbering.acknowledged ≡ max b (highest_beg_run past)
      go true e = omega (arith, i.numbers.acked, ltb-true x.numbering.acknowledged b e)
      go false e = omega (arith, i.numbers.acked, ltb-false x.numbering.acknowledged b e)

  pub inv-restart : (o t : ℕ) → Inv g n (restarts o t ∷ past) (restarted_at x o t)
  unfolding restarted_at number_due started_from sent_since highest_beg_run latest_tag any_data_in_of next_offset burst_so_far asked_to came_to r2ts_sent
      answered data_outs_since
  inv-restart o t = record {
    given = i.given;
    numbers = record { sent = omega (arith, i.numbers.acked); acked = i.numbers.acked; any = i.numbers.any; snack_tag = refl; ordered = omega arith };
    data_in = record { offset = refl; burst = refl };
    data_out = i.data_out;
    open_r2ts = i.open_r2ts;
  }
