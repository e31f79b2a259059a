-- The rules and the definitions: of every request a rule refuses it or none does (`decided`), and the step follows the rule (`by-refusal`, `by-gathering`,
-- `by-judging`). The definition is walked down once, choice by choice, each `to-` law as far as the rules that it names.
use mathlib.Core.Path.{◌≡◌, refl, sym, ap, ◌∙◌}
use mathlib.Core.Bool.{Bool, true, false, not, ◌&&◌}
use mathlib.Core.List.{List, ◌++◌}
use mathlib.Core.Logic.{inl, inr, ⊎_elim}
use Prim.Native.Nat.{ℕ, ◌<◌}
use native.Mathlib.Omega.{arith}
use borrow.Author.Tests.{ltb-true, ltb-false, lt-ltb, le-ltb, eqb-true, eqb-false, eq-eqb, ne_eqb}
use lib.ListN.{length, take}
use lib.Dec.{eqb, ltb}
use Rattle.request_header.specs.Request.{read_pdu, limits, data_of}
use Rattle.request_header.specs.Request as Read
use Rattle.request_header.specs.Kind.{if_login}
use Rattle.request_header.specs.declared.Login.{Login}
use Rattle.request_header.specs.declared.Request.{Request}
use Rattle.request_header.specs.declared.Request.TheVariants as R
use Rattle.text.specs.Text.{pick}
use Rattle.text.proofs.Laws.{false-true, past, here}
use Rattle.text_block.specs.Block.{formed, pairs}
use Rattle.login_book.specs.Keys.{Keys, named}
use Rattle.login_book.specs.Book.{LoginBook}
use Rattle.login_book.specs.Block.{Result, stopped, judge}
use Rattle.login_book.specs.Login.{Outcome, Texted, refused, refuse, ended, fail, status_of, joined, gather_step, start_text, accept, fail_text, finish, text_step, with_gather, judge_step, request_step, kind_step, read_step, login_step}
use Rattle.login_book.specs.Events.{Call, step_of, Reading, unread, a_login, read_by, read_as, unrefused, keys_after, replies}
use Rattle.login_book.specs.Rules.{Breaks, Lent, Reaches, Passes, block, Formed, Unrefused, Named, Refuses, buffer, closed, unreadable, no_handle, check_broken, form_broken, pair_refused, names_lacking, Accepts, gathers, judges}
use Rattle.login_book.proofs.Checks.{split, decided-checks, status-first, status-none}
use Rattle.login_book.proofs.Reading.{reading}
use Rattle.login_book.proofs.Values.{judge-went, judge-stopped, stops}

-- ---- the step, as far as each rule

-- what a refusal leaves: nothing changes, but 6 ends the login
abbrev pub refusal : LoginBook → Call → ℕ → ℕ → Outcome
refusal b c n s = record { book = pick (eqb n 6) (ended b) b; answer = refused n s; gather = c.gather; text = c.text }

-- the gather area where a block is answered
abbrev pub area_then : LoginBook → Call → List ℕ → List ℕ
area_then b c d = pick (eqb b.gathered 0) c.gather (joined c.gather b.gathered d)

kind-other : (k : Request) (d : List ℕ) → if_login (λ q. a_login q d) (unread 3) k ≡ unread 6 → ⊥
kind-other (R.NopOut x) d e = let z : ◌≡◌ {A = ℕ} 3 6 = cc in omega arith
kind-other (R.ScsiCommand x) d e = let z : ◌≡◌ {A = ℕ} 3 6 = cc in omega arith
kind-other (R.TaskManagement x) d e = let z : ◌≡◌ {A = ℕ} 3 6 = cc in omega arith
kind-other (R.Login x) d e = let z : ◌≡◌ {A = ℕ} 3 6 = cc in omega arith
kind-other (R.DataOut x) d e = let z : ◌≡◌ {A = ℕ} 3 6 = cc in omega arith
kind-other (R.Logout x) d e = let z : ◌≡◌ {A = ℕ} 3 6 = cc in omega arith
kind-other (R.Snack x) d e = let z : ◌≡◌ {A = ℕ} 3 6 = cc in omega arith

read-other : (r : Read.Answer) (pdu : List ℕ) → (r ≡ Read.refused 6 → ⊥) → read_by r pdu ≡ unread 6 → ⊥
read-other (Read.refused n) pdu h e = let z : n ≡ 6 = cc in h (ap Read.refused z)
read-other (Read.got p) pdu h e = kind-other p.request (data_of pdu p) e

-- a PDU that is not read as a Login is never refused with 6
unread-other : (pdu : List ℕ) (n : ℕ) → read_as pdu ≡ unread n → eqb n 6 ≡ false
unread-other pdu n e = ne_eqb n 6 (λ z. read-other (read_pdu limits pdu) pdu (reading limits pdu) (e ∙ ap unread z))

lacks-go : (j n : Bool) → j ≡ false → n ≡ false → (not j && not n) ≡ true
lacks-go j n e f = rw (e, f) refl

has-go : (j n : Bool) → (j ≡ false → n ≡ true) → (not j && not n) ≡ false
has-go true n h = refl
has-go false n h = ap not (h refl)

short-go : {A : Type 0} (x y : Bool) (a z : A) → y ≡ true → pick x a (pick y a z) ≡ a
short-go true y a z e = refl
short-go false y a z e = here _ _ _ e

module _ (b : LoginBook) (c : Call) where
  abbrev step_by : Reading → Outcome
  step_by (unread n) = refuse b n c.gather c.text
  step_by (a_login q d) = request_step b q d c.live c.new c.ours c.gather c.text

  kind-is : (k : Request) (d : List ℕ) → kind_step k b d c.live c.new c.ours c.gather c.text ≡ step_by (if_login (λ q. a_login q d) (unread 3) k)
  kind-is (R.NopOut x) d = refl
  kind-is (R.ScsiCommand x) d = refl
  kind-is (R.TaskManagement x) d = refl
  kind-is (R.Login x) d = refl
  kind-is (R.DataOut x) d = refl
  kind-is (R.Logout x) d = refl
  kind-is (R.Snack x) d = refl

  read_is : (r : Read.Answer) → read_step r b c.pdu c.live c.new c.ours c.gather c.text ≡ step_by (read_by r c.pdu)
  read_is (Read.refused n) = refl
  read_is (Read.got p) = kind-is p.request (data_of c.pdu p)

  to-reading : Lent c → b.over ≡ false → step_of b c ≡ step_by (read_as c.pdu)
  unfolding login_step
  to-reading l o = past _ _ _ _ (le-ltb _ _ l.gather) (past _ _ _ _ (le-ltb _ _ l.text) (past _ _ _ _ o (read_is (read_pdu limits c.pdu))))

  module _ (q : Login) (d : List ℕ) where
    to-checks : Reaches b c q d
        → step_of b c
        ≡ pick (not (eqb (status_of b q (length d) c.live) 0)) (fail b (status_of b q (length d) c.live) c.gather c.text)
        (pick q.continues (gather_step b q d c.gather c.text) (judge_step b q c.new c.ours d c.gather c.text))
    unfolding request_step
    to-checks r = to-reading r.lent r.going ∙ ap step_by r.reads ∙ past _ _ _ _ (ne_eqb _ _ r.handle) refl

    fails-check : Reaches b c q d → (k t : ℕ) → Breaks b q (length d) c.live k t → ((j u : ℕ) → j < k → Breaks b q (length d) c.live j u → ⊥)
        → step_of b c ≡ fail b t c.gather c.text
    fails-check r k t x h =
        let z = status-first b q (length d) c.live k t x h in
        to-checks r
        ∙ here _ _ _ (ap not (ne_eqb _ 0 (λ y. absurd (let u : t ≡ 0 = sym z.0 ∙ y in omega (arith, u, z.1)))))
        ∙ ap (λ (s : ℕ). fail b s c.gather c.text) z.0

    to-passed : Passes b c q d
        → step_of b c ≡ pick q.continues (gather_step b q d c.gather c.text) (judge_step b q c.new c.ours d c.gather c.text)
    to-passed r = to-checks r.reaches ∙ past _ _ _ _ (ap not (eq-eqb _ 0 (status-none b q (length d) c.live r.kept))) refl

    -- the answer with C
    pub by-gathering : Passes b c q d → q.continues ≡ true → step_of b c ≡ gather_step b q d c.gather c.text
    by-gathering r e = to-passed r ∙ here _ _ _ e

    area-go : (z : Bool) (f : List ℕ → Texted) (g j x : List ℕ)
        → pick z (with_gather g g (f d)) (with_gather g j (f x)) ≡ with_gather g (pick z g j) (f (pick z d x))
    area-go true f g j x = refl
    area-go false f g j x = refl

    to_block : Passes b c q d → q.continues ≡ false
        → step_of b c ≡ with_gather c.gather (area_then b c d) (text_step b q c.new c.ours (block b c d) c.text)
    unfolding judge_step
    to_block r e =
        to-passed r
        ∙ past _ _ _ _ e
        (area-go (eqb b.gathered 0) (λ (x : List ℕ). text_step b q c.new c.ours x c.text) c.gather
        (joined c.gather b.gathered d) (take b.gathered c.gather ++ d))

    fails-form : Passes b c q d → q.continues ≡ false → formed 64 (block b c d) ≡ false → step_of b c ≡ fail b 0x0200 c.gather c.text
    unfolding text_step
    fails-form r e f = to_block r e ∙ ap (with_gather c.gather (area_then b c d)) (past _ _ _ _ f refl)

    to-pairs : (r : Formed b c q d)
        → step_of b c
        ≡ with_gather c.gather (area_then b c d)
        (finish b q c.new c.text (judge q.csg (eqb q.tsih 0) c.ours b.keys (start_text b.judged) (pairs 64 (block b c d))))
    unfolding text_step
    to-pairs r = to_block r.passes r.whole ∙ ap (with_gather c.gather (area_then b c d)) (here _ _ _ r.formed)

    fails-pair : Formed b c q d → (s : ℕ) → judge q.csg (eqb q.tsih 0) c.ours b.keys (start_text b.judged) (pairs 64 (block b c d)) ≡ stopped s
        → step_of b c ≡ fail b s c.gather c.text
    fails-pair r s j = to-pairs r ∙ ap (λ (x : Result). with_gather c.gather (area_then b c d) (finish b q c.new c.text x)) j

    -- what a block whose pairs go through settles, and is answered
    abbrev pub keys_then : Keys
    keys_then = keys_after q.csg (eqb q.tsih 0) c.ours b.keys (pairs 64 (block b c d))

    abbrev pub text_then : List ℕ
    text_then = start_text b.judged ++ replies q.csg (eqb q.tsih 0) c.ours b.keys (pairs 64 (block b c d))

    to-names : Unrefused b c q d
        → step_of b c
        ≡ with_gather c.gather (area_then b c d)
        (pick (not b.judged && not (named keys_then)) (fail_text b 0x0207 c.text) (accept q c.new keys_then text_then c.text))
    to-names r =
        to-pairs r.formed
        ∙ ap (λ (x : Result). with_gather c.gather (area_then b c d) (finish b q c.new c.text x))
        (judge-went q.csg (eqb q.tsih 0) c.ours b.keys (start_text b.judged) (pairs 64 (block b c d)) r.none_refused)

    fails-names : Unrefused b c q d → b.judged ≡ false → named keys_then ≡ false → step_of b c ≡ fail b 0x0207 c.gather c.text
    fails-names r e f = to-names r ∙ ap (with_gather c.gather (area_then b c d)) (here _ _ _ (lacks-go b.judged (named keys_then) e f))

    -- the answer without C
    pub by-judging : Unrefused b c q d → Named b c q d → step_of b c ≡ with_gather c.gather (area_then b c d) (accept q c.new keys_then text_then c.text)
    by-judging r n = to-names r ∙ ap (with_gather c.gather (area_then b c d)) (past _ _ _ _ (has-go b.judged (named keys_then) n) refl)

  -- a refusal is that of the rule that refuses
  pub by-refusal : (n s : ℕ) → Refuses b c n s → step_of b c ≡ refusal b c n s
  unfolding login_step
  by-refusal n s (buffer x) = ⊎_elim (λ a. here _ _ _ (lt-ltb _ _ a)) (λ a. short-go (ltb (length c.gather) 8192) _ _ _ (lt-ltb _ _ a)) x
  by-refusal n s (closed l o) = past _ _ _ _ (le-ltb _ _ l.gather) (past _ _ _ _ (le-ltb _ _ l.text) (here _ _ _ o))
  by-refusal n s (unreadable m l o e) =
      to-reading l o
      ∙ ap step_by e
      ∙ ap (λ (x : Bool). record { book = pick x (ended b) b; answer = refused m 0; gather = c.gather; text = c.text })
      (sym (unread-other c.pdu m e))
  by-refusal n s (no_handle q d l o e z) = to-reading l o ∙ ap step_by e ∙ (unfold request_step in (here _ _ _ (eq-eqb _ _ z)))
  by-refusal n s (check_broken q d r k t x h) = fails-check q d r k t x h
  by-refusal n s (form_broken q d r e f) = fails-form q d r e f
  by-refusal n s (pair_refused q d r before p later status e h x) =
      fails-pair q d r status
      (ap (judge q.csg (eqb q.tsih 0) c.ours b.keys (start_text b.judged)) e
      ∙ judge-stopped q.csg (eqb q.tsih 0) c.ours b.keys (start_text b.judged) before p later status h x)
  by-refusal n s (names_lacking q d r e f) = fails-names q d r e f

-- ---- of every request a rule refuses it, or none does

pub data Decided (b : LoginBook) (c : Call) : Type 0 where
  refuses : (n s : ℕ) → Refuses b c n s → Decided b c
  accepts : Accepts b c → Decided b c

module _ (b : LoginBook) (c : Call) where
  decided-names : (q : Login) (d : List ℕ) → Unrefused b c q d → Decided b c
  decided-names q d r =
      split b.judged (λ e. accepts (judges q d r (λ f. false-true (sym f ∙ e))))
      (λ e. split (named (keys_then b c q d)) (λ f. accepts (judges q d r (λ _. f))) (λ f. refuses 6 0x0207 (names_lacking q d r e f)))

  decided-pairs : (q : Login) (d : List ℕ) → Formed b c q d → Decided b c
  decided-pairs q d r =
      split (unrefused q.csg (eqb q.tsih 0) c.ours b.keys (pairs 64 (block b c d)))
      (λ e. decided-names q d (record { formed = r; none_refused = e }))
      (λ e. let w = stops q.csg (eqb q.tsih 0) c.ours b.keys (pairs 64 (block b c d)) e in
      refuses 6 w.status (pair_refused q d r w.before w.pair w.later w.status w.split w.gone w.refused))

  decided-block : (q : Login) (d : List ℕ) → Passes b c q d → Decided b c
  decided-block q d r =
      split q.continues (λ e. accepts (gathers q d r e))
      (λ e. split (formed 64 (block b c d)) (λ f. decided-pairs q d (record { passes = r; whole = e; formed = f }))
      (λ f. refuses 6 0x0200 (form_broken q d r e f)))

  decided-reached : (q : Login) (d : List ℕ) → Reaches b c q d → Decided b c
  decided-reached q d r =
      decided-checks b q (length d) c.live (λ k. decided-block q d (record { reaches = r; kept = k }))
      (λ k t x h. refuses 6 t (check_broken q d r k t x h))

  decided-read : (x : Reading) → read_as c.pdu ≡ x → Lent c → b.over ≡ false → Decided b c
  decided-read (unread n) e l o = refuses n 0 (unreadable n l o e)
  decided-read (a_login q d) e l o =
      split (eqb c.new 0) (λ z. refuses 3 0 (no_handle q d l o e (eqb-true _ 0 z)))
      (λ z. decided-reached q d (record { lent = l; going = o; reads = e; handle = eqb-false _ 0 z }))

  decided-lent : Lent c → Decided b c
  decided-lent l = split b.over (λ o. refuses 8 0 (closed l o)) (λ o. decided-read (read_as c.pdu) refl l o)

  pub decided : Decided b c
  decided =
      split (ltb (length c.gather) 8192) (λ x. refuses 1 0 (buffer (inl (ltb-true _ _ x))))
      (λ x. split (ltb (length c.text) 8192) (λ y. refuses 1 0 (buffer (inr (ltb-true _ _ y))))
      (λ y. decided-lent (record { gather = ltb-false _ _ x; text = ltb-false _ _ y })))
