-- Demand 2 of the events of a list of requests. The invariant is that the login left is the one that the list says (`left_by`), with what the list
-- says of its stage and keys (`Good`); it goes by induction on the list, the parts of one request being those of Promised.
use Rattle.std.specs.Prelude.{Ok}
use mathlib.Core.Path.{◌≡◌, refl, sym, ap, ◌∙◌, subst}
use mathlib.Core.Bool.{Bool, true, false, not, ◌&&◌, ◌||◌}
use mathlib.Core.List.{List, [], ◌∷◌, ◌++◌, Memᴰ}
use mathlib.Core.Logic.{◌⊎◌, inl, inr, ⊎_elim}
use Prim.Native.Nat.{ℕ, suc, ◌+◌, ◌<◌, ◌≤◌}
use native.Mathlib.Omega.{arith}
use borrow.Author.Tests.{eqb-true, ne_eqb}
use lib.ListN.{length}
use lib.Dec.{eqb}
use Rattle.request_header.specs.declared.Login.{Login}
use Rattle.text.specs.Text.{pick, same}
use Rattle.std.proofs.Math.Bool.{and-false, and-true, or-false, or_assoc}
use Rattle.text.proofs.Laws.{&&-left, &&-right, false-true, past as skip, here, same-eq}
use Rattle.text_block.specs.Block.{Pair}
use Rattle.key_table.specs.Table.{key_of, row_at}
use Rattle.key_values.specs.Settle.{settling}
use Rattle.key_values.proofs.Ranges.{settled-in}
use Rattle.login_book.specs.Keys.{none_came}
use Rattle.login_book.specs.Book.{Stage, start, in_stage, permitted, Phase, at_start, begun, stage_of, LoginBook, fresh_book}
use Rattle.login_book.specs.Login.{Answer, refused, answered, Outcome, ended, differs, gather_step, handle, stage_after, accept, with_gather}
use Rattle.login_book.specs.Events.{Call, Event, event, step_of, events_of, a_login, read_as, on_login, accepted, is_six, names3, keys_after, over_in, since, phase_in, judged_in, gathered_in, offers_of, offers_in, keys_in, book_in}
use Rattle.login_book.specs.Rules.{Passes, Unrefused, Refuses, buffer, closed, unreadable, no_handle, check_broken, form_broken, pair_refused, names_lacking, Accepts, gathers, judges}
use Rattle.login_book.specs.Demand.{csg_fits, stage_then, stage_goes_on, is_path, enters, entered, entries, is_full, taken, value_after, is_offered, Sentences, Each, Demand2}
use Rattle.login_book.proofs.Checks.{both_go, step_is, step-of, check-kept}
use Rattle.login_book.proofs.Rules.{area_then, by-gathering, by-judging, by-refusal, keys_then, text_then, Decided, refuses, accepts, decided}
use Rattle.login_book.proofs.Promised.{offers-in, promised}

-- ---- the login that is left is the one that the list says

either-go : (over x n : Bool) → over ≡ n → x ≡ false → ((over && true) || x) ≡ n
either-go over x n e f = rw (e, f) (or-false (n && true) ∙ and-true n)

same-book : (x y : LoginBook) → x.over ≡ y.over → x.phase ≡ y.phase → x.judged ≡ y.judged → x.keys ≡ y.keys → x.gathered ≡ y.gathered → x ≡ y
same-book x y a b c d e i = record { over = a i; phase = b i; judged = c i; keys = d i; gathered = e i }

left-refused : (z : Bool) (past : List Event)
    → pick z (ended (book_in past)) (book_in past)
    ≡ record { over = (z || false) || over_in past; phase = phase_in past; judged = judged_in past; keys = keys_in past; gathered = gathered_in past }
left-refused true past = refl
left-refused false past = refl

none-go : (a b c : Bool) → ((not a || not b) || not c) ≡ false → (a ≡ true) × (b ≡ true) × (c ≡ true)
none-go true true true e = (refl, refl, refl)
none-go true true false e = false-true (sym e)
none-go true false c e = false-true (sym e)
none-go false b c e = false-true (sym e)

-- a request that differs from the first in nothing bears the first's numbers
since-go : (x : Phase) (q : Login) (stage : ℕ) (transit : Bool) (csg nsg tsih : ℕ) (text : List ℕ) → differs x q ≡ false
    → begun stage q.isid q.tsih q.cid ≡ since x (answered stage transit csg nsg tsih text) q
since-go at_start q stage transit csg nsg tsih text e = refl
since-go (begun was isid tsih₁ cid) q stage transit csg nsg tsih text e =
    let w = none-go (eqb q.isid isid) (eqb q.tsih tsih₁) (eqb q.cid cid) e in
    let a : q.isid ≡ isid = eqb-true _ _ w.0 in
    let b : q.tsih ≡ tsih₁ = eqb-true _ _ w.1 in
    let c : q.cid ≡ cid = eqb-true _ _ w.2 in
    λ i. begun stage (a i) (b i) (c i)

over-go : (t : Bool) (nsg : ℕ) (o : Bool) → o ≡ false → (t && eqb nsg 3) ≡ ((false || (t && eqb (pick t nsg 0) 3)) || o)
over-go true nsg o e = rw e (sym (or-false (eqb nsg 3)))
over-go false nsg o e = sym e

module _ (past : List Event) (c : Call) where
  abbrev now : LoginBook
  now = book_in past

  left-gathered : (q : Login) (d : List ℕ) → Passes now c q d → q.continues ≡ true
      → (let o = gather_step now q d c.gather c.text in o.book ≡ book_in (event c o ∷ past))
  left-gathered q d r h =
      let o = gather_step now q d c.gather c.text in
      let x : read_as c.pdu ≡ a_login q d = r.reaches.reads in
      same-book o.book (book_in (event c o ∷ past)) (sym r.reaches.going)
      (since-go (phase_in past) q q.csg false q.csg 0 q.tsih [] (check-kept now q (length d) c.live r.kept 2)
      ∙ ap (on_login (λ q₁ d₁. since (phase_in past) o.answer q₁) (phase_in past)) (sym x))
      (ap (λ (y : Bool). not y || judged_in past) (sym h) ∙ ap (on_login (λ q₁ d₁. not q₁.continues || judged_in past) (judged_in past)) (sym x))
      (ap (keys_after q.csg (eqb q.tsih 0) c.ours (keys_in past)) (sym (offers-in now c q d r o refl ∙ here _ _ _ h))
      ∙ ap (on_login (λ q₁ d₁. keys_after q₁.csg (eqb q₁.tsih 0) c.ours (keys_in past) (offers_of (gathered_in past) (event c o))) (keys_in past)) (sym x))
      (sym (here _ _ _ h) ∙ ap (on_login (λ q₁ d₁. pick q₁.continues (gathered_in past + length d₁) 0) (gathered_in past)) (sym x))

  left-judged : (q : Login) (d : List ℕ) → Unrefused now c q d
      → (let o = with_gather c.gather (area_then now c d) (accept q c.new (keys_then now c q d) (text_then now c q d) c.text) in
      o.book ≡ book_in (event c o ∷ past))
  left-judged q d r =
      let o = with_gather c.gather (area_then now c d) (accept q c.new (keys_then now c q d) (text_then now c q d) c.text) in
      let s = r.formed.passes in
      let w = r.formed.whole in
      let x : read_as c.pdu ≡ a_login q d = s.reaches.reads in
      same-book o.book (book_in (event c o ∷ past)) (over-go q.transit q.nsg (over_in past) s.reaches.going)
      (since-go (phase_in past) q (stage_after q) q.transit q.csg (pick q.transit q.nsg 0) (handle q c.new) (text_then now c q d)
      (check-kept now q (length d) c.live s.kept 2)
      ∙ ap (on_login (λ q₁ d₁. since (phase_in past) o.answer q₁) (phase_in past)) (sym x))
      (ap (λ (y : Bool). not y || judged_in past) (sym w) ∙ ap (on_login (λ q₁ d₁. not q₁.continues || judged_in past) (judged_in past)) (sym x))
      (ap (keys_after q.csg (eqb q.tsih 0) c.ours (keys_in past)) (sym (offers-in now c q d s o refl ∙ skip _ _ _ _ w refl))
      ∙ ap (on_login (λ q₁ d₁. keys_after q₁.csg (eqb q₁.tsih 0) c.ours (keys_in past) (offers_of (gathered_in past) (event c o))) (keys_in past)) (sym x))
      (sym (skip _ _ _ _ w refl) ∙ ap (on_login (λ q₁ d₁. pick q₁.continues (gathered_in past + length d₁) 0) (gathered_in past)) (sym x))

  left-of : Decided now c → (step_of now c).book ≡ book_in (event c (step_of now c) ∷ past)
  left-of (refuses n s r) = subst (λ (o : Outcome). o.book ≡ book_in (event c o ∷ past)) (sym (by-refusal now c n s r)) (left-refused (eqb n 6) past)
  left-of (accepts (gathers q d r h)) = subst (λ (o : Outcome). o.book ≡ book_in (event c o ∷ past)) (sym (by-gathering now c q d r h)) (left-gathered q d r h)
  left-of (accepts (judges q d r n)) = subst (λ (o : Outcome). o.book ≡ book_in (event c o ∷ past)) (sym (by-judging now c q d r n)) (left-judged q d r)

  left_by : (step_of now c).book ≡ book_in (event c (step_of now c) ∷ past)
  left_by = left-of (decided now c)

-- ---- a login that is over

accepts-going : (b : LoginBook) (c : Call) → Accepts b c → b.over ≡ false
accepts-going b c (gathers q d r h) = r.reaches.going
accepts-going b c (judges q d r n) = r.formed.passes.reaches.going

-- every answer then is BUFFER or CLOSED
refused_over : (b : LoginBook) (c : Call) (n s : ℕ) → b.over ≡ true → Refuses b c n s → (refused n s ≡ refused 1 0) ⊎ (refused n s ≡ refused 8 0)
refused_over b c n s o (buffer x) = inl refl
refused_over b c n s o (closed l x) = inr refl
refused_over b c n s o (unreadable m l x e) = false-true (sym x ∙ o)
refused_over b c n s o (no_handle q d l x e z) = false-true (sym x ∙ o)
refused_over b c n s o (check_broken q d r k t x h) = false-true (sym r.going ∙ o)
refused_over b c n s o (form_broken q d r e f) = false-true (sym r.reaches.going ∙ o)
refused_over b c n s o (pair_refused q d r before p later status e h x) = false-true (sym r.passes.reaches.going ∙ o)
refused_over b c n s o (names_lacking q d r e f) = false-true (sym r.formed.passes.reaches.going ∙ o)

answer-over : (b : LoginBook) (c : Call) → b.over ≡ true → Decided b c → ((step_of b c).answer ≡ refused 1 0) ⊎ ((step_of b c).answer ≡ refused 8 0)
answer-over b c o (refuses n s r) =
    let e = ap (λ (x : Outcome). x.answer) (by-refusal b c n s r) in
    ⊎_elim (λ z. inl (e ∙ z)) (λ z. inr (e ∙ z)) (refused_over b c n s o r)
answer-over b c o (accepts a) = false-true (sym (accepts-going b c a) ∙ o)

-- ---- stages, and full feature phase

fits-full : (from : Stage) (csg : ℕ) → csg_fits from csg ≡ true → is_full from ≡ false → eqb csg 3 ≡ false
unfolding permitted
fits-full start csg e f = ne_eqb csg 3 (λ z. false-true (ap (λ (x : ℕ). eqb x 0 || eqb x 1) (sym z) ∙ e))
fits-full (in_stage stage) csg e f = ap (λ (x : ℕ). eqb x 3) (eqb-true csg stage e) ∙ f

-- the stage after an answer is 3 exactly when it enters full feature phase, x before it and over after it
full-go : (a : Answer) (from : Stage) (over x : Bool) → stage_goes_on from a ≡ true → is_full from ≡ x → (accepted a ≡ true → x ≡ false)
    → (accepted a ≡ true → over ≡ names3 a)
    → is_full (stage_then from a) ≡ ((over && accepted a) || x)
full-go (refused n s) from over x g f k o = f ∙ sym (ap (λ (y : Bool). y || x) (and-false over))
full-go (answered stage true csg nsg tsih text) from over x g f k o =
    ap (λ (y : ℕ). eqb y 3) (eqb-true stage nsg (&&-right (permitted (in_stage csg) nsg) _ (&&-right (csg_fits from csg) _ g)))
    ∙ sym (either-go over x (eqb nsg 3) (o refl) (k refl))
full-go (answered stage false csg nsg tsih text) from over x g f k o =
    ap (λ (y : ℕ). eqb y 3) (eqb-true stage csg (&&-right (csg_fits from csg) _ g))
    ∙ fits-full from csg (&&-left _ _ g) (f ∙ k refl)
    ∙ sym (either-go over x false (o refl) (k refl))

-- ---- what the list says of its stage and keys

record Good (past : List Event) : Type 0 where
  pub stage : is_full (stage_of (phase_in past)) ≡ entered past
  pub going : over_in past ≡ false → entered past ≡ false
  pub values : (n : List ℕ) → key_of n < 12 → (keys_in past).value n ≡ value_after n (row_at (key_of n)).standard (offers_in past)
  pub came : (n : List ℕ) → (keys_in past).came n ≡ (not (eqb (key_of n) 28) && is_offered n (offers_in past))

good_start : Good []
unfolding none_came
good_start = record { stage = refl; going = λ _. refl; values = λ n h. refl; came = λ n. sym (and-false (not (eqb (key_of n) 28))) }

value-append : (n : List ℕ) (x : ℕ) (ps qs : List Pair) → value_after n x (ps ++ qs) ≡ value_after n (value_after n x ps) qs
value-append n x [] qs = refl
value-append n x (p ∷ ps) qs = value-append n (pick (same n p.name) (taken x (Ok (settling (row_at (key_of n)) p.value))) x) ps qs

offered-append : (n : List ℕ) (ps qs : List Pair) → is_offered n (ps ++ qs) ≡ (is_offered n ps || is_offered n qs)
offered-append n [] qs = refl
offered-append n (p ∷ ps) qs =
    ap (λ (x : Bool). same n p.name || x) (offered-append n ps qs)
    ∙ sym (or_assoc (same n p.name) (is_offered n ps) (is_offered n qs))

came-go : (k u v : Bool) → ((k && v) || (k && u)) ≡ (k && (u || v))
came-go true true true = refl
came-go true true false = refl
came-go true false true = refl
came-go true false false = refl
came-go false u v = refl

over-named : (a : Answer) (l o : Bool) → l ≡ ((is_six a || names3 a) || o) → o ≡ false → accepted a ≡ true → l ≡ names3 a
over-named (refused n s) l o e f g = false-true g
over-named (answered stage transit csg nsg tsih text) l o e f g = e ∙ ap (λ (x : Bool). (transit && eqb nsg 3) || x) f ∙ or-false (transit && eqb nsg 3)

or_right : (a b : Bool) → (a || b) ≡ false → b ≡ false
or_right true b e = false-true (sym e)
or_right false b e = e

module _ (past : List Event) (g : Good past) (c : Call) where
  abbrev this : Event
  this = event c (step_of (book_in past) c)

  says : Sentences past this
  says =
      let w = promised (book_in past) c in
      let l = left_by past c in
      let going : accepted this.answer ≡ true → over_in past ≡ false = λ a. accepts-going (book_in past) c (w.answers.0 a) in
      record {
        request = w;
        left = l;
        full_stage = ap is_full w.stage
            ∙ full-go this.answer (stage_of (phase_in past)) this.left.over (entered past) w.step g.stage (λ a. g.going (going a))
            (λ a. over-named this.answer this.left.over (over_in past) (ap (λ (x : LoginBook). x.over) l) (going a) a);
        over = λ o. answer-over (book_in past) c o (decided (book_in past) c);
        history = λ n h.
            w.values n h
            ∙ ap (λ (x : ℕ). value_after n x (offers_of (gathered_in past) this)) (g.values n h)
            ∙ sym (value-append n (row_at (key_of n)).standard (offers_in past) (offers_of (gathered_in past) this));
        came = λ n.
            w.came n
            ∙ ap (λ (x : Bool). (not (eqb (key_of n) 28) && is_offered n (offers_of (gathered_in past) this)) || x) (g.came n)
            ∙ came-go (not (eqb (key_of n) 28)) (is_offered n (offers_in past)) (is_offered n (offers_of (gathered_in past) this))
            ∙ ap (λ (x : Bool). not (eqb (key_of n) 28) && x) (sym (offered-append n (offers_in past) (offers_of (gathered_in past) this)));
      }

  good-then : Good (this ∷ past)
  good-then =
      let s = says in
      let l : book_in (this ∷ past) ≡ this.left = sym s.left in
      record {
        stage = ap (λ (x : LoginBook). is_full (stage_of x.phase)) l ∙ s.full_stage;
        going = λ o.
            ap (λ (x : Bool). (x && accepted this.answer) || entered past) (ap (λ (x : LoginBook). x.over) s.left ∙ o)
            ∙ g.going (or_right (is_six this.answer || names3 this.answer) (over_in past) o);
        values = λ n h. ap (λ (x : LoginBook). x.keys.value n) l ∙ s.history n h;
        came = λ n. ap (λ (x : LoginBook). x.keys.came n) l ∙ s.came n;
      }

each-says : (past : List Event) → Good past → (cs : List Call) → Each Sentences past (events_of (book_in past) cs)
each-says past g [] = tt
each-says past g (c ∷ cs) =
    let e = this past g c in
    (says past g c, subst (λ (b : LoginBook). Each Sentences (e ∷ past) (events_of b cs)) (sym (left_by past c)) (each-says (e ∷ past) (good-then past g c) cs))

-- ---- the list whole

once-over : (b : LoginBook) (c : Call) → b.over ≡ true → (enters (event c (step_of b c)) ≡ false) × ((step_of b c).book.over ≡ true)
once-over b c o =
    let w = promised b c in
    let r : (accepted (step_of b c).answer ≡ false) × (is_six (step_of b c).answer ≡ false) =
    ⊎_elim (λ e. (ap accepted e, ap is_six e)) (λ e. (ap accepted e, ap is_six e)) (answer-over b c o (decided b c)) in
    let o₁ = (step_of b c).book.over in
    (ap (λ (x : Bool). o₁ && x) r.0 ∙ and-false o₁, ap (λ (x : LoginBook). x.over) (w.login_stays r.0 r.1) ∙ o)

none_over : (b : LoginBook) (cs : List Call) → b.over ≡ true → entries (events_of b cs) ≡ 0
none_over b [] o = refl
none_over b (c ∷ cs) o = let w = once-over b c o in skip _ _ _ _ w.0 (none_over (step_of b c).book cs w.1)

once-go : (x : Bool) (n : ℕ) → (x ≡ true → n ≡ 0) → n ≤ 1 → pick x (suc n) n ≤ 1
once-go true n h k = omega (arith, h refl)
once-go false n h k = k

once : (b : LoginBook) (cs : List Call) → entries (events_of b cs) ≤ 1
once b [] = omega arith
once b (c ∷ cs) =
    let o = step_of b c in
    once-go (enters (event c o)) (entries (events_of o.book cs)) (λ e. none_over o.book cs (&&-left _ _ e)) (once o.book cs)

path : (b : LoginBook) (cs : List Call) → is_path (stage_of b.phase) (events_of b cs) ≡ true
path b [] = refl
path b (c ∷ cs) =
    let w = promised b c in
    both_go _ _ w.step (ap (λ (x : Stage). is_path x (events_of (step_of b c).book cs)) (sym w.stage) ∙ path (step_of b c).book cs)

stays-go : (b : Bool) (n m : List ℕ) (x y : ℕ) → same n m ≡ b → (m ≡ n → ⊥) → pick b y x ≡ x
stays-go true n m x y e d = absurd (d (sym (same-eq n m e)))
stays-go false n m x y e d = refl

until : (n : List ℕ) (x : ℕ) (ps : List Pair) → ((p : Pair) → Memᴰ p ps → p.name ≡ n → ⊥) → value_after n x ps ≡ x
until n x [] d = refl
until n x (p ∷ ps) d =
    ap (λ (y : ℕ). value_after n y ps) (stays-go (same n p.name) n p.name x _ refl (d p (Memᴰ.head refl)))
    ∙ until n x ps (λ r i. d r (Memᴰ.tail i))

pub demand2-booked : (cs : List Call) → Demand2 (events_of fresh_book cs)
unfolding fresh_book
demand2-booked cs = record {
  each = each-says [] good_start cs;
  once = once fresh_book cs;
  path = path fresh_book cs;
  steps = λ from to. (step_is from to, step-of from to);
  until_offered = until;
  range = settled-in;
}
