-- One request keeps the promises of specs/Demand: refused, gathered or judged, each shown to keep them all.
use mathlib.Core.Path.{◌≡◌, refl, sym, ap, ◌∙◌, subst}
use mathlib.Core.Bool.{Bool, true, false, not, ◌&&◌, ◌||◌}
use mathlib.Core.List.{List, []}
use mathlib.Core.Logic.{◌↔◌, ⊎_elim}
use Prim.Native.Nat.{ℕ, ◌<◌, ◌≤◌}
use native.Mathlib.Omega.{arith}
use borrow.Author.Tests.{eqb-true, eq-eqb, ne_eqb, not-false}
use lib.ListN.{length, length-append}
use lib.Dec.{eqb}
use Rattle.request_header.specs.declared.Login.{Login}
use Rattle.text.specs.Text.{pick}
use Rattle.std.proofs.Math.Bool.{and-false, and-true}
use Rattle.text.proofs.Laws.{false-true, past, here}
use Rattle.text_block.specs.Block.{Pair, pairs}
use Rattle.key_table.specs.Table.{key_of}
use Rattle.login_book.specs.Book.{Stage, start, in_stage, permitted, Phase, at_start, begun, stage_of, LoginBook}
use Rattle.login_book.specs.Login.{refused, Outcome, ended, strays, gather_step, start_text, handle, stage_after, accept, with_gather}
use Rattle.login_book.specs.Events.{Call, event, step_of, Reading, a_login, read_as, on_login, accepted, block_of, offers_of, replies}
use Rattle.login_book.specs.Rules.{Passes, block, Unrefused, Refuses, Accepts, gathers, judges, AnswerFields, Gathers}
use Rattle.login_book.specs.Demand.{csg_fits, step_from, asks3, value_after, is_offered, Promised}
use Rattle.login_book.proofs.Values.{and_none, values-after, came-after, replies-length, start-length}
use Rattle.login_book.proofs.Checks.{both_go, check-kept}
use Rattle.login_book.proofs.Rules.{refusal, area_then, by-gathering, by-judging, by-refusal, keys_then, text_then, Decided, refuses, accepts, decided}

-- ---- small laws

same-pick : {A B : Type 0} (f : A → B) (z : Bool) (x y : A) → f x ≡ f y → f (pick z x y) ≡ f y
same-pick f true x y e = e
same-pick f false x y e = refl

ended-go : (z : Bool) (b : LoginBook) → b.over ≡ false → (pick z (ended b) b).over ≡ (z || ((pick z (ended b) b).over && false))
ended-go true b h = refl
ended-go false b h = h ∙ sym (and-false b.over)

not-both : (a b : Bool) → (a && b) ≡ false → a ≡ true → b ≡ false
not-both true b e h = e
not-both false b e h = false-true h

step-go : (a b : Bool) → (a && not b) ≡ false → a ≡ true → b ≡ true
step-go true true e h = refl
step-go true false e h = false-true (sym e)
step-go false b e h = false-true h

fits-go : (x : Phase) (q : Login) → strays x q ≡ false → csg_fits (stage_of x) q.csg ≡ true
fits-go at_start q e = not-false _ e
fits-go (begun stage isid tsih cid) q e = not-false _ e

from-go : (x : Stage) (csg : ℕ) → csg_fits x csg ≡ true → step_from x csg ≡ in_stage csg
from-go start csg e = here _ _ _ e
from-go (in_stage stage) csg e = ap in_stage (sym (eqb-true csg stage e))

entered-go : (t e : Bool) (csg nsg : ℕ) → eqb nsg 3 ≡ e → (t ≡ true → permitted (in_stage csg) nsg ≡ true)
    → ((t && e) && true) ≡ (((t && e) && permitted (in_stage csg) 3) && (t && eqb (pick t nsg 0) 3))
entered-go true true csg nsg q p = let n : nsg ≡ 3 = eqb-true nsg 3 q in let r : permitted (in_stage csg) 3 ≡ true = rw n at (p refl) in rw (r, q)
entered-go true false csg nsg q p = refl
entered-go false e csg nsg q p = refl

on_go : (t f : Bool) (csg nsg : ℕ) → f ≡ true → (t ≡ true → permitted (in_stage csg) nsg ≡ true)
    → (f && pick t (permitted (in_stage csg) (pick t nsg 0) && eqb (pick t nsg csg) (pick t nsg 0)) (eqb (pick t nsg csg) csg)) ≡ true
on_go true f csg nsg e p = rw (e, p refl) (eq-eqb nsg nsg refl)
on_go false f csg nsg e p = rw e (eq-eqb csg csg refl)

handle-go : (z t n : Bool) (new tsih : ℕ) → ((z ≡ true) × (t ≡ true) × (n ≡ true) → ⊥) → pick ((z && t) && n) new tsih ≡ tsih
handle-go true true true new tsih h = absurd (h (refl, refl, refl))
handle-go true true false new tsih h = refl
handle-go true false n new tsih h = refl
handle-go false t n new tsih h = refl

-- the one Login that a PDU is read as
the-login : (P : Login → List ℕ → Type 0) (q q₁ : Login) (d d₁ : List ℕ) → a_login q d ≡ a_login q₁ d₁ → P q d → P q₁ d₁
the-login P q q₁ d d₁ e x =
    let a : q ≡ q₁ = cc in
    let b : d ≡ d₁ = cc in
    subst (λ (y : Login). P y d₁) a (subst (λ (y : List ℕ). P q y) b x)

-- ---- a request

module _ (b : LoginBook) (c : Call) where
  accepted-by : Accepts b c → accepted (step_of b c).answer ≡ true
  accepted-by (gathers q d r e) = ap (λ (o : Outcome). accepted o.answer) (by-gathering b c q d r e)
  accepted-by (judges q d r n) = ap (λ (o : Outcome). accepted o.answer) (by-judging b c q d r n)

  refused-by : (n s : ℕ) → Refuses b c n s → (step_of b c).answer ≡ refused n s
  refused-by n s r = ap (λ (o : Outcome). o.answer) (by-refusal b c n s r)

  accepts-of : Decided b c → accepted (step_of b c).answer ≡ true → Accepts b c
  accepts-of (refuses n s r) e = false-true (sym (ap accepted (refused-by n s r)) ∙ e)
  accepts-of (accepts a) e = a

  refuses-of : Decided b c → (n s : ℕ) → (step_of b c).answer ≡ refused n s → Refuses b c n s
  refuses-of (refuses n₁ s₁ r) n s e =
      let z : refused n₁ s₁ ≡ refused n s = sym (refused-by n₁ s₁ r) ∙ e in
      let x : n₁ ≡ n = cc in
      let y : s₁ ≡ s = cc in
      subst (λ (m : ℕ). Refuses b c m s) x (subst (λ (m : ℕ). Refuses b c n₁ m) y r)
  refuses-of (accepts a) n s e = false-true (sym (ap accepted e) ∙ accepted-by a)

  answers-both : (o : Outcome) → step_of b c ≡ o → (accepted o.answer ≡ true) ↔ Accepts b c
  answers-both o e = subst (λ (x : Outcome). (accepted x.answer ≡ true) ↔ Accepts b c) e (accepts-of (decided b c), accepted-by)

  refusals-both : (o : Outcome) → step_of b c ≡ o → (n s : ℕ) → (o.answer ≡ refused n s) ↔ Refuses b c n s
  refusals-both o e n s = subst (λ (x : Outcome). (x.answer ≡ refused n s) ↔ Refuses b c n s) e (refuses-of (decided b c) n s, refused-by n s)

  -- refused
  promised-refusal : (n s : ℕ) → step_of b c ≡ refusal b c n s → Promised b (event c (refusal b c n s))
  promised-refusal n s e = record {
    answers = answers-both _ e;
    fields = λ q d x. tt;
    gathers = λ q d x a. false-true a;
    refusals = refusals-both _ e;
    full_feature = and-false (pick (eqb n 6) (ended b) b).over ∙ sym (and-false (asks3 (stage_of b.phase) (read_as c.pdu)));
    step = refl;
    stage = same-pick (λ (x : LoginBook). stage_of x.phase) (eqb n 6) (ended b) b refl;
    bytes_stay = λ _. (refl, refl);
    login_stays = λ _ h. past _ _ _ _ h refl;
    ended_by = λ h. ended-go (eqb n 6) b h;
    text_front = refl;
    text_short = omega arith;
    values = λ m h. same-pick (λ (x : LoginBook). x.keys.value m) (eqb n 6) (ended b) b refl;
    came = λ m. same-pick (λ (x : LoginBook). x.keys.came m) (eqb n 6) (ended b) b refl ∙ and_none (not (eqb (key_of m) 28)) (b.keys.came m);
  }

  -- gathered
  module _ (q : Login) (d : List ℕ) (r : Passes b c q d) where
    -- C and T not both, CSG the stage, and T only with a permitted step
    not-together : (q.continues && q.transit) ≡ false
    not-together = check-kept b q (length d) c.live r.kept 3

    fitting : csg_fits (stage_of b.phase) q.csg ≡ true
    fitting = fits-go b.phase q (check-kept b q (length d) c.live r.kept 4)

    permits : q.transit ≡ true → permitted (in_stage q.csg) q.nsg ≡ true
    permits = step-go q.transit (permitted (in_stage q.csg) q.nsg) (check-kept b q (length d) c.live r.kept 5)

    fields-gathered : q.continues ≡ true → AnswerFields b c q d q.csg false q.csg 0 q.tsih []
    fields-gathered h =
        let t : q.transit ≡ false = not-both q.continues q.transit not-together h in
        record {
          same_csg = refl;
          same_transit = sym t;
          same_nsg = λ x. false-true (sym t ∙ x);
          no_nsg = λ _. refl;
          moves = λ x. false-true (sym t ∙ x);
          stays = λ _. refl;
          new_handle = λ _ x _. false-true (sym t ∙ x);
          own_handle = λ _. refl;
          no_text = λ _. refl;
          replied = λ x. false-true (sym x ∙ h);
        }

    area-gathered : q.continues ≡ true → Gathers b c q d (gather_step b q d c.gather c.text).gather
    area-gathered h = record { joins = λ _. refl; stays = λ x. false-true (sym x ∙ h) }

    -- the pairs that an answer settles
    pub offers-in : (o : Outcome) → accepted o.answer ≡ true → offers_of b.gathered (event c o) ≡ pick q.continues [] (pairs 64 (block b c d))
    offers-in o e =
        here _ _ _ e ∙ ap (on_login (λ q₁ d₁. pick q₁.continues [] (pairs 64 (block_of b.gathered d₁ c.gather))) []) r.reaches.reads

    promised-gathered : (h : q.continues ≡ true) → Promised b (event c (gather_step b q d c.gather c.text))
    promised-gathered h =
        let o = gather_step b q d c.gather c.text in
        let e = by-gathering b c q d r h in
        let x = r.reaches.reads in
        record {
          answers = answers-both o e;
          fields = λ q₁ d₁ y. the-login (λ q₂ d₂. AnswerFields b c q₂ d₂ q.csg false q.csg 0 q.tsih []) q q₁ d d₁ (sym x ∙ y) (fields-gathered h);
          gathers = λ q₁ d₁ y _. the-login (λ q₂ d₂. Gathers b c q₂ d₂ o.gather) q q₁ d d₁ (sym x ∙ y) (area-gathered h);
          refusals = refusals-both o e;
          full_feature = sym (and-false (asks3 (stage_of b.phase) (read_as c.pdu)));
          step = rw fitting (eq-eqb q.csg q.csg refl);
          stage = refl;
          bytes_stay = λ y. false-true (sym y);
          login_stays = λ y _. false-true (sym y);
          ended_by = λ _. refl;
          text_front = refl;
          text_short = omega arith;
          values = λ n _. ap (value_after n (b.keys.value n)) (sym (offers-in o refl ∙ here _ _ _ h));
          came = λ n.
              and_none (not (eqb (key_of n) 28)) (b.keys.came n)
              ∙ ap (λ (ps : List Pair). (not (eqb (key_of n) 28) && is_offered n ps) || b.keys.came n) (sym (offers-in o refl ∙ here _ _ _ h));
        }

  -- judged
  module _ (q : Login) (d : List ℕ) (r : Unrefused b c q d) where
    passed : Passes b c q d
    passed = r.formed.passes

    abbrev afterwards : Outcome
    afterwards = with_gather c.gather (area_then b c d) (accept q c.new (keys_then b c q d) (text_then b c q d) c.text)

    fields-judged : AnswerFields b c q d (stage_after q) q.transit q.csg (pick q.transit q.nsg 0) (handle q c.new) (text_then b c q d)
    unfolding start_text
    fields-judged = record {
      same_csg = refl;
      same_transit = refl;
      same_nsg = λ t. here _ _ _ t;
      no_nsg = λ t. past _ _ _ _ t refl;
      moves = λ t. here _ _ _ t;
      stays = λ t. past _ _ _ _ t refl;
      new_handle = λ z t n. here _ _ _ (both_go _ _ (both_go _ _ (eq-eqb _ 0 z) t) (eq-eqb _ 3 n));
      own_handle = λ h. handle-go (eqb q.tsih 0) q.transit (eqb q.nsg 3) c.new q.tsih (λ x. h (eqb-true _ 0 x.0, x.1, eqb-true _ 3 x.2));
      no_text = λ h. false-true (sym r.formed.whole ∙ h);
      replied = λ _. refl;
    }

    area-judged : Gathers b c q d (area_then b c d)
    area-judged = record {
      joins = λ h. past _ _ _ _ (ne_eqb _ 0 (⊎_elim (λ x. false-true (sym r.formed.whole ∙ x)) (λ x. x) h)) refl;
      stays = λ _ z. here _ _ _ (eq-eqb _ 0 z);
    }

    offers-judged : offers_of b.gathered (event c afterwards) ≡ pairs 64 (block b c d)
    offers-judged = offers-in q d passed afterwards refl ∙ past _ _ _ _ r.formed.whole refl

    came-judged : (n : List ℕ)
        → (keys_then b c q d).came n ≡ ((not (eqb (key_of n) 28) && is_offered n (offers_of b.gathered (event c afterwards))) || b.keys.came n)
    came-judged n =
        came-after q.csg (eqb q.tsih 0) c.ours b.keys (pairs 64 (block b c d)) r.none_refused n
        ∙ ap (λ (ps : List Pair). (not (eqb (key_of n) 28) && is_offered n ps) || b.keys.came n) (sym offers-judged)

    values-judged : (n : List ℕ) → key_of n < 12 → (keys_then b c q d).value n ≡ value_after n (b.keys.value n) (offers_of b.gathered (event c afterwards))
    values-judged n h =
        values-after q.csg (eqb q.tsih 0) c.ours b.keys (pairs 64 (block b c d)) r.none_refused n h
        ∙ ap (value_after n (b.keys.value n)) (sym offers-judged)

    full-judged : ((q.transit && eqb q.nsg 3) && true)
        ≡ (asks3 (stage_of b.phase) (read_as c.pdu) && (q.transit && eqb (pick q.transit q.nsg 0) 3))
    full-judged =
        entered-go q.transit (eqb q.nsg 3) q.csg q.nsg refl (permits q d passed)
        ∙ ap (λ (x : Stage). ((q.transit && eqb q.nsg 3) && permitted x 3) && (q.transit && eqb (pick q.transit q.nsg 0) 3))
        (sym (from-go (stage_of b.phase) q.csg (fitting q d passed)))
        ∙ ap (λ (x : Reading). asks3 (stage_of b.phase) x && (q.transit && eqb (pick q.transit q.nsg 0) 3)) (sym passed.reaches.reads)

    length-judged : length (text_then b c q d) ≤ 5015
    length-judged =
        let x = replies-length q.csg (eqb q.tsih 0) c.ours 64 b.keys (block b c d) r.formed.formed in
        let y = length-append (start_text b.judged) (replies q.csg (eqb q.tsih 0) c.ours b.keys (pairs 64 (block b c d))) in
        omega (arith, x, y, start-length b.judged)

    promised-judged : step_of b c ≡ afterwards → Promised b (event c afterwards)
    promised-judged e =
        let x = passed.reaches.reads in
        record {
          answers = answers-both afterwards e;
          fields = λ q₁ d₁ y.
              the-login (λ q₂ d₂.
              AnswerFields b c q₂ d₂ (stage_after q) q.transit q.csg (pick q.transit q.nsg 0) (handle q c.new) (text_then b c q d))
              q q₁ d d₁ (sym x ∙ y) fields-judged;
          gathers = λ q₁ d₁ y _. the-login (λ q₂ d₂. Gathers b c q₂ d₂ (area_then b c d)) q q₁ d d₁ (sym x ∙ y) area-judged;
          refusals = refusals-both afterwards e;
          full_feature = full-judged;
          step = on_go q.transit (csg_fits (stage_of b.phase) q.csg) q.csg q.nsg (fitting q d passed) (permits q d passed);
          stage = refl;
          bytes_stay = λ y. false-true (sym y);
          login_stays = λ y _. false-true (sym y);
          ended_by = λ _. sym (and-true (q.transit && eqb q.nsg 3));
          text_front = refl;
          text_short = length-judged;
          values = values-judged;
          came = came-judged;
        }

  -- ---- each request, by the rule that decides it

  whole : Decided b c → Promised b (event c (step_of b c))
  whole (refuses n s r) = let e = by-refusal b c n s r in subst (λ (o : Outcome). Promised b (event c o)) (sym e) (promised-refusal n s e)
  whole (accepts (gathers q d r h)) = subst (λ (o : Outcome). Promised b (event c o)) (sym (by-gathering b c q d r h)) (promised-gathered q d r h)
  whole (accepts (judges q d r n)) = let e = by-judging b c q d r n in subst (λ (o : Outcome). Promised b (event c o)) (sym e) (promised-judged q d r e)

  pub promised : Promised b (event c (step_of b c))
  promised = whole (decided b c)
