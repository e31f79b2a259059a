-- The code's step is the step of the rules: a judged block, a request, and what a PDU is to a login.
use Rattle.std.specs.Prelude as Std
use Rattle.std.specs.Prelude.{Ok, Err}
use mathlib.Core.Path.{◌≡◌, refl, sym, ap, ◌∙◌, subst}
use mathlib.Core.Bool.{Bool, true, false, not, ◌&&◌, ◌||◌}
use borrow.Author.Tests.{ltb-false, eq-eqb, ne_eqb}
use mathlib.Core.List.{List, ◌++◌}
use Prim.Native.Nat.{ℕ}
use native.Mathlib.Omega.{arith}
use lib.ListN.{length, take}
use Rattle.request_header.specs.declared.Login.{Login}
use Rattle.key_table.specs.declared.parameters.Settled.{Settled}
use Rattle.login_book.specs.Keys.{Keys, named}
use Rattle.login_book.specs.Book.{LoginBook}
use Rattle.login_types.specs.Agree.{keys_of, book_of, answer_of, Answers}
use Rattle.login_book.specs.Login.{start_text, joined, with_gather, fail_text, finish, text_step, judge_step}
use Rattle.login_book.specs.Login.{Outcome, Texted, accept, refuse, request_step, kind_step, login_step}
use Rattle.login_text.specs.Promises.{with_names, block_result, text_of}
use Rattle.login_gather.specs.Promises.{judged_block, judged_area, area_of, JudgedIn}
use Rattle.login_answer.specs.Promises.{finish_step}
use Rattle.login.specs.Promises.{ReadAs, FoundAs}
use Rattle.login_book.specs.Block.{judge, Result, stopped, went}
use Rattle.login_block.specs.Promises.{result_of}
use Rattle.login_types.specs.declared.state.State.{State}
use Rattle.login_types.specs.declared.state.Step.{Step}
use Rattle.login_block.specs.declared.block.Judged.{Judged}
use Rattle.login.specs.declared.request.Found.{Found}
use Rattle.text_block.specs.Block.{formed, pairs}
use Rattle.text.specs.Text.{pick}
use Rattle.text.proofs.Laws.{past, here, false-true}
use Rattle.refusal.specs.Refusal.{number, status}
use Rattle.request_header.specs.Request as Read
use Rattle.request_header.specs.Request.{read_pdu, limits, data_of}
use Rattle.request_header.proofs.Reading.{got-data}
use Rattle.refusal.specs.declared.Refusal.{Refusal}
use Rattle.refusal.specs.declared.Refusal.TheVariants as F
use Rattle.request_header.specs.declared.Pdu.{Pdu}
use Rattle.request_header.specs.declared.Request.{Request}
use Rattle.request_header.specs.declared.Request.TheVariants as R
use Rattle.request_header.specs.declared.Limits.{Limits}
use lib.Dec.{eqb, ltb}
use Rattle.login_book.proofs.Reading.{reading}
use Rattle.login_book.proofs.Checks.{status-fits}

-- a code's step, with what the areas hold after it
abbrev outcome_of : Step → List ℕ → List ℕ → Outcome
outcome_of r g t = record { book = book_of r.state; answer = answer_of r.answer t; gather = g; text = t }

-- The step that a result is.
abbrev result_step : LoginBook → Login → ℕ → List ℕ → Result → Texted
result_step l q new t (stopped s) = fail_text l s t
result_step l q new t (went s a) = accept q new s a t

named_step : (l : LoginBook) (q : Login) (new : ℕ) (t : List ℕ) (s : Keys) (a : List ℕ) (b : Bool)
    → result_step l q new t (pick b (stopped 0x0207) (went s a)) ≡ pick b (fail_text l 0x0207 t) (accept q new s a t)
named_step l q new t s a true = refl
named_step l q new t s a false = refl

finish-is : (l : LoginBook) (q : Login) (new : ℕ) (t : List ℕ) (r : Result) → result_step l q new t (with_names l.judged r) ≡ finish l q new t r
finish-is l q new t (stopped s) = refl
finish-is l q new t (went s a) = named_step l q new t s a (not l.judged && not (named s))

form-step : (l : LoginBook) (q : Login) (new : ℕ) (t : List ℕ) (r : Result) (b : Bool)
    → result_step l q new t (with_names l.judged (pick b r (stopped 0x0200))) ≡ pick b (finish l q new t r) (fail_text l 0x0200 t)
form-step l q new t r true = finish-is l q new t r
form-step l q new t r false = refl

text-step : (l : LoginBook) (q : Login) (new : ℕ) (ours b t : List ℕ)
    → result_step l q new t (block_result l.judged q.csg (eqb q.tsih 0) ours l.keys b) ≡ text_step l q new ours b t
unfolding block_result text_step
text-step l q new ours b t = form-step l q new t (judge q.csg (eqb q.tsih 0) ours l.keys (start_text l.judged) (pairs 64 b)) (formed 64 b)

area-step : (l : LoginBook) (q : Login) (new : ℕ) (ours d g t : List ℕ) (b : Bool)
    → with_gather g (pick b g (joined g l.gathered d)) (text_step l q new ours (pick b d (take l.gathered g ++ d)) t)
    ≡ pick b (with_gather g g (text_step l q new ours d t)) (with_gather g (joined g l.gathered d) (text_step l q new ours (take l.gathered g ++ d) t))
area-step l q new ours d g t true = refl
area-step l q new ours d g t false = refl

step-go : (l : State) (q : Login) (new : ℕ) (s : Settled) (v : Std.Result ℕ ℕ) (t t' g h : List ℕ) → t' ≡ text_of (result_of v (keys_of s) t') t
    → ◌≡◌ {A = Outcome} (outcome_of (finish_step l q new s v) (area_of (result_of v (keys_of s) t') g h) t')
    (with_gather g h (result_step (book_of l) q new t (result_of v (keys_of s) t')))
step-go l q new s (Err x) t t' g h e = rw (← e)
step-go l q new s (Ok n) t t' g h e = rw (← e)

-- a judged block, answered, is the step of the rules
judged-is : (l : State) (q : Login) (new : ℕ) (ours d : List ℕ) (j : Judged) (g t g' t' : List ℕ)
    → JudgedIn l.judged q.csg (eqb q.tsih 0) ours l.settled l.gathered d j g t g' t'
    → outcome_of (finish_step l q new j.settled j.verdict) g' t' ≡ judge_step (book_of l) q new ours d g t
unfolding judge_step
judged-is l q new ours d j g t g' t' x =
    let b = judged_block l.gathered d g in
    let h = judged_area l.gathered d g in
    let w = x.written in
    let y = result_of j.verdict (keys_of j.settled) t' in
    let e : t' ≡ text_of y t = w.text ∙ ap (λ (z : Result). text_of z t) (sym w.result) in
    let k : g' ≡ area_of y g h = x.area ∙ ap (λ (z : Result). area_of z g h) (sym w.result) in
    rw k (step-go l q new j.settled j.verdict t t' g h e)
    ∙ ap (λ (z : Result). with_gather g h (result_step (book_of l) q new t z)) w.result
    ∙ ap (with_gather g h) (text-step (book_of l) q new ours b t)
    ∙ area-step (book_of l) q new ours d g t (eqb l.gathered 0)

-- What a request is answered, by the code's step.
module _ (l : State) (r : Step) (g t : List ℕ) (o : Outcome) where
  finish-answers : (q : Login) (new : ℕ) (s : Settled) (v : Std.Result ℕ ℕ) → outcome_of (finish_step l q new s v) g t ≡ o → Answers l (finish_step l q new s v) g t o
  finish-answers q new s (Err x) f = record { outcome = f; stays = refl }
  finish-answers q new s (Ok n) f = record { outcome = f; stays = tt }

  judge-answers : (q : Login) (new : ℕ) (s : Settled) (v : Std.Result ℕ ℕ) → r ≡ finish_step l q new s v → outcome_of (finish_step l q new s v) g t ≡ o
      → Answers l r g t o
  judge-answers q new s v e f = subst (λ (x : Step). Answers l x g t o) (sym e) (finish-answers q new s v f)

pub judged-step : (r : Step) (l : State) (q : Login) (new : ℕ) (ours d : List ℕ) (j : Judged) (g t g' t' : List ℕ) (o : Outcome)
    → r ≡ finish_step l q new j.settled j.verdict → JudgedIn l.judged q.csg (eqb q.tsih 0) ours l.settled l.gathered d j g t g' t'
    → judge_step (book_of l) q new ours d g t ≡ o → Answers l r g' t' o
judged-step r l q new ours d j g t g' t' o e x f = judge-answers l r g' t' o q new j.settled j.verdict e (judged-is l q new ours d j g t g' t' x ∙ f)

status-go : (m : Limits) (s : List ℕ) (f : Refusal) → read_pdu m s ≡ Read.refused (number f) → status f ≡ 0
status-go m s F.Buffer e = refl
status-go m s F.Opcode e = refl
status-go m s F.Field e = refl
status-go m s F.Length e = refl
status-go m s F.TooLong e = refl
status-go m s (F.Login x) e = absurd (reading m s e)
status-go m s F.NoConn e = refl
status-go m s F.Closed e = refl
status-go m s F.Open e = refl
status-go m s F.Full e = refl
status-go m s F.Stale e = refl
status-go m s F.Snack e = refl

pub reading-status : (m : Limits) (s : List ℕ) (f : Refusal) → Read.answer_of (Err f) ≡ read_pdu m s → status f ≡ 0
reading-status m s f e = status-go m s f (sym e)

-- FIELD for a PDU that is no Login, and for a new handle 0.
module _ (l : LoginBook) (d : List ℕ) (live new : ℕ) (ours g t : List ℕ) where
  kind-none : (r : Request) → ((q : Login) → r ≡ R.Login q → ⊥) → refuse l 3 g t ≡ kind_step r l d live new ours g t
  kind-none (R.NopOut x) k = refl
  kind-none (R.ScsiCommand x) k = refl
  kind-none (R.TaskManagement x) k = refl
  kind-none (R.Login q) k = absurd (k q refl)
  kind-none (R.DataOut x) k = refl
  kind-none (R.Logout x) k = refl
  kind-none (R.Snack x) k = refl

  kind-zero : (r : Request) → new ≡ 0 → refuse l 3 g t ≡ kind_step r l d live new ours g t
  unfolding request_step
  kind-zero (R.NopOut x) z = refl
  kind-zero (R.ScsiCommand x) z = refl
  kind-zero (R.TaskManagement x) z = refl
  kind-zero (R.Login q) z = sym (here (eqb new 0) _ _ (eq-eqb new 0 z))
  kind-zero (R.DataOut x) z = refl
  kind-zero (R.Logout x) z = refl
  kind-zero (R.Snack x) z = refl

-- What a PDU is to a login: one that was read, and one that was not.
module _ (new : ℕ) (pdu : List ℕ) where
  pub read-refused : (f : Refusal) → Read.answer_of (Err f) ≡ read_pdu limits pdu → ReadAs new pdu (Err f)
  read-refused f e = record {
    other = ne_eqb (number f) 6 (λ z. reading limits pdu (sym e ∙ ap Read.refused z));
    step = λ l live ours g t. rw (← e, reading-status limits pdu f e);
    inside = omega arith;
    lent = λ q. false-true q;
  }

  module _ (p : Pdu) (e : Read.answer_of (Ok p) ≡ read_pdu limits pdu) where
    pub read_zero : new ≡ 0 → ReadAs new pdu (Err F.Field)
    read_zero z = record {
      other = refl;
      step = λ l live ours g t. rw (← e) (kind-zero l (data_of pdu p) live new ours g t p.request z);
      inside = omega arith;
      lent = λ q. false-true q;
    }

    pub read-other : ((q : Login) → p.request ≡ R.Login q → ⊥) → ReadAs new pdu (Err F.Field)
    read-other k = record {
      other = refl;
      step = λ l live ours g t. rw (← e) (kind-none l (data_of pdu p) live new ours g t p.request k);
      inside = omega arith;
      lent = λ q. false-true q;
    }

    pub read-got : (q : Login) → p.request ≡ R.Login q → (new ≡ 0 → ⊥) → ReadAs new pdu (Ok (record { login = q; start = p.data_start; length = p.data_segment_length }))
    unfolding data_of
    read-got q f z = record {
      other = refl;
      step = λ l live ours g t. rw (← e) (ap (λ (r : Request). kind_step r l (data_of pdu p) live new ours g t) (sym f));
      inside = got-data limits pdu p (sym e);
      lent = λ _. z;
    }

-- and to one that is over or not, with these areas
module _ (over : Bool) (new gather text : ℕ) (pdu : List ℕ) where
  small : (a b : Bool) (x y : Outcome) → (a || b) ≡ true → x ≡ pick a x (pick b x y)
  small true b x y e = refl
  small false true x y e = refl
  small false false x y e = false-true e

  large : (a b : Bool) → (a || b) ≡ false → (a ≡ false) × (b ≡ false)
  large true b e = false-true (sym e)
  large false b e = (refl, e)

  pub found-small : (ltb gather 8192 || ltb text 8192) ≡ true → FoundAs over new gather text pdu (Err F.Buffer)
  unfolding login_step
  found-small a = record {
    other = refl;
    step = λ l live ours g t e m n. small (ltb (length g) 8192) (ltb (length t) 8192) _ _ (rw (m, n) a);
    inside = omega arith;
    lent = λ q. false-true q;
  }

  module _ (a : (ltb gather 8192 || ltb text 8192) ≡ false) where
    reached : (x y z : Outcome) (g t : List ℕ) → length g ≡ gather → length t ≡ text → y ≡ z → y ≡ pick (ltb (length g) 8192) x (pick (ltb (length t) 8192) x z)
    reached x y z g t m n e =
        let b = large (ltb gather 8192) (ltb text 8192) a in
        sym (past _ _ _ _ (ap (λ (k : ℕ). ltb k 8192) m ∙ b.0) (past _ _ _ _ (ap (λ (k : ℕ). ltb k 8192) n ∙ b.1) (sym e)))

    pub found-closed : over ≡ true → FoundAs over new gather text pdu (Err F.Closed)
    unfolding login_step
    found-closed c = record {
      other = refl;
      step = λ l live ours g t e m n. reached _ _ _ g t m n (sym (here l.over _ _ (e ∙ c)));
      inside = omega arith;
      lent = λ q. false-true q;
    }

    pub found-read : over ≡ false → (f : Std.Result Found Refusal) → ReadAs new pdu f → FoundAs over new gather text pdu f
    unfolding login_step
    found-read c f r = record {
      other = r.other;
      step = λ l live ours g t e m n. reached _ _ _ g t m n (r.step l live ours g t ∙ sym (past l.over _ _ _ (e ∙ c) refl));
      inside = r.inside;
      lent = λ q. (ltb-false _ _ (large (ltb gather 8192) (ltb text 8192) a).0, ltb-false _ _ (large (ltb gather 8192) (ltb text 8192) a).1, r.lent q);
    }

-- what is gathered and comes fits
pub ruleset step_fits = (status-fits)
