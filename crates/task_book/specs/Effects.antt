-- What a data call did, read off the call with its answer. The data sentences' notions are recursions over what was done before.
use Rattle.std.specs.Prelude.{ℕ, List, [], ◌∷◌, eqb}
use Rattle.field.specs.Field.{pick}
use Rattle.request_header.specs.declared.DataOut.{DataOut}
use Rattle.response_header.specs.declared.DataIn.{DataIn}
use Rattle.response_header.specs.declared.R2t.{R2t}
use Rattle.task_book.specs.Steps.{Answer}
use Rattle.task_book.specs.History.{DataCall, Event, moved, responded}

pub data Effect : Type 0 where
  -- a Data-In that was written, and an R2T
  sends_data_in : DataIn → Effect
  sends_r2t : R2t → Effect
  -- a Data-Out that was accepted, with the length of its data
  takes : DataOut → (len : ℕ) → Effect
  -- a SNACK of type 2, DataACK, that was accepted
  acknowledges : (begRun : ℕ) → Effect
  -- a SNACK of type 3, R-Data, that was accepted, with its SNACK tag
  restarts : (offset tag : ℕ) → Effect
  -- all else: refusals, a SNACK of type 0, which only shows a run, and statuses
  none : Effect

-- By what a call did; x where it is none of these.
abbrev pub by_effect : {A : Type 0} → (DataIn → A) → (R2t → A) → (DataOut → ℕ → A) → (ℕ → A) → (ℕ → ℕ → A) → A → Effect → A
by_effect d r t a s x (sends_data_in h) = d h
by_effect d r t a s x (sends_r2t h) = r h
by_effect d r t a s x (takes p n) = t p n
by_effect d r t a s x (acknowledges b) = a b
by_effect d r t a s x (restarts o k) = s o k
by_effect d r t a s x Effect.none = x

abbrev pub if_sends_data_in : {A : Type 0} → (DataIn → A) → A → Effect → A
if_sends_data_in f x = by_effect f (λ h. x) (λ p n. x) (λ b. x) (λ o k. x) x

abbrev pub if_sends_r2t : {A : Type 0} → (R2t → A) → A → Effect → A
if_sends_r2t f x = by_effect (λ h. x) f (λ p n. x) (λ b. x) (λ o k. x) x

abbrev pub if_takes : {A : Type 0} → (DataOut → ℕ → A) → A → Effect → A
if_takes f x = by_effect (λ h. x) (λ h. x) f (λ b. x) (λ o k. x) x

abbrev pub if_acknowledges : {A : Type 0} → (ℕ → A) → A → Effect → A
if_acknowledges f x = by_effect (λ h. x) (λ h. x) (λ p n. x) f (λ o k. x) x

abbrev pub if_restarts : {A : Type 0} → (ℕ → ℕ → A) → A → Effect → A
if_restarts f x = by_effect (λ h. x) (λ h. x) (λ p n. x) (λ b. x) f x

-- ---- by the call and its answer

-- By an answer: a Data-In, an R2T, data that came, a run, numbers acknowledged; x for a refusal.
abbrev pub by_answer : {A : Type 0} → (DataIn → A) → (R2t → A) → A → A → A → A → Answer → A
by_answer d r c s a x (Answer.refused n) = x
by_answer d r c s a x (Answer.data_in h) = d h
by_answer d r c s a x (Answer.r2t h) = r h
by_answer d r c s a x (Answer.came o k m) = c
by_answer d r c s a x (Answer.run f k) = s
by_answer d r c s a x (Answer.acknowledged k) = a

abbrev pub if_data_in : {A : Type 0} → (DataIn → A) → A → Answer → A
if_data_in f x = by_answer f (λ h. x) x x x x

abbrev pub if_r2t : {A : Type 0} → (R2t → A) → A → Answer → A
if_r2t f x = by_answer (λ h. x) f x x x x

abbrev pub if_came : {A : Type 0} → A → A → Answer → A
if_came f x = by_answer (λ h. x) (λ h. x) f x x x

-- Only types 0 and 3 answer a run, only type 2 numbers acknowledged; a type 0 does nothing.
abbrev pub effect_by : DataCall → Answer → Effect
effect_by (DataCall.data_in f a n) = if_data_in sends_data_in Effect.none
effect_by (DataCall.r2t t n) = if_r2t sends_r2t Effect.none
effect_by (DataCall.data_out i p n) = if_came (takes p n) Effect.none
effect_by (DataCall.data_snack v i o p) =
    by_answer (λ h. Effect.none) (λ h. Effect.none) Effect.none
    (pick (eqb p.snack_type 0) Effect.none (restarts o p.target_transfer_tag)) (acknowledges p.beg_run) Effect.none

abbrev pub effect_of : Event → Effect
effect_of (moved c a) = effect_by c a
effect_of (responded r n) = Effect.none

-- What was done, the newest first, after the event e.
abbrev pub and_then : (past : List Effect) → Event → List Effect
and_then past e = effect_of e ∷ past

-- And after a list of events, in the order of the calls.
unfoldable pub done_by : (past : List Effect) → List Event → List Effect
done_by past [] = past
done_by past (e ∷ es) = done_by (and_then past e) es
