-- What a call did, read off the call with its answer and its lent outputs: to the command window, and to a connection. Demand 3's
-- notions are recursions over what was done before.
use Rattle.std.specs.Prelude.{ℕ, List, [], ◌∷◌}
use Rattle.std.proofs.Math.ListN as ListN
use Rattle.field.specs.Field.{pick}
use Rattle.store.specs.Slot.{header_size}
use Rattle.window.specs.Book as W
use Rattle.ledger.specs.Book.{is_status}
use Rattle.book.specs.declared.Opening.{Opening}
use Rattle.book.specs.Book.{Outputs, Call, offer, take, logout, opening, send, acknowledge, snack, resend, transfer, ask, Answer, refused, immediate, opened, window, sent, acknowledged, run, resent, moved, told, cmd_sn_of}
use Rattle.book.specs.Events.{Event}

-- ---- the window's side

pub data WindowEffect : Type 0 where
  -- an offer that was kept
  keeps : (number connection ticket : ℕ) → (header : List ℕ) → WindowEffect
  -- a number handed out, void or not
  hands_out : (number : ℕ) → WindowEffect
  -- a logout that was not refused, with the counts that it answered
  logs_out : (connection reason emptied voided : ℕ) → WindowEffect
  -- all else: refusals, answers that only show something, and calls on a connection
  none : WindowEffect

-- By what a call did to the window; x where it is none of these.
abbrev pub by_window_effect : {A : Type 0} → (ℕ → ℕ → ℕ → List ℕ → A) → (ℕ → A) → (ℕ → ℕ → ℕ → ℕ → A) → A → WindowEffect → A
by_window_effect k h l x (keeps n c t d) = k n c t d
by_window_effect k h l x (hands_out n) = h n
by_window_effect k h l x (logs_out c r e v) = l c r e v
by_window_effect k h l x none = x

abbrev pub if_keeps : {A : Type 0} → (ℕ → ℕ → ℕ → List ℕ → A) → A → WindowEffect → A
if_keeps f x = by_window_effect f (λ n. x) (λ c r e v. x) x

abbrev pub if_hands_out : {A : Type 0} → (ℕ → A) → A → WindowEffect → A
if_hands_out f x = by_window_effect (λ n c t d. x) f (λ c r e v. x) x

abbrev pub if_logs_out : {A : Type 0} → (ℕ → ℕ → ℕ → ℕ → A) → A → WindowEffect → A
if_logs_out f x = by_window_effect (λ n c t d. x) (λ n. x) f x

-- ---- a connection's side

pub data ConnectionEffect : Type 0 where
  -- a connection opened
  opens : (connection : ℕ) → Opening → ConnectionEffect
  -- a logout that was not refused
  closes : (connection reason : ℕ) → ConnectionEffect
  -- a status sent
  sends : (connection number ticket : ℕ) → (header : List ℕ) → ConnectionEffect
  -- an acknowledgement that was not refused
  acknowledges : (connection expStatSN : ℕ) → ConnectionEffect
  -- all else: refusals, answers that only show something, and calls on the window
  none : ConnectionEffect

-- By what a call did to a connection; x where it is none of these.
abbrev pub by_connection_effect : {A : Type 0} → (ℕ → Opening → A) → (ℕ → ℕ → A) → (ℕ → ℕ → ℕ → List ℕ → A) → (ℕ → ℕ → A) → A → ConnectionEffect → A
by_connection_effect o l s a x (opens c g) = o c g
by_connection_effect o l s a x (closes c r) = l c r
by_connection_effect o l s a x (sends c n t d) = s c n t d
by_connection_effect o l s a x (acknowledges c e) = a c e
by_connection_effect o l s a x none = x

abbrev pub if_opens : {A : Type 0} → (ℕ → Opening → A) → A → ConnectionEffect → A
if_opens f x = by_connection_effect f (λ c r. x) (λ c n t d. x) (λ c e. x) x

abbrev pub if_closes : {A : Type 0} → (ℕ → ℕ → A) → A → ConnectionEffect → A
if_closes f x = by_connection_effect (λ c g. x) f (λ c n t d. x) (λ c e. x) x

abbrev pub if_sends : {A : Type 0} → (ℕ → ℕ → ℕ → List ℕ → A) → A → ConnectionEffect → A
if_sends f x = by_connection_effect (λ c g. x) (λ c r. x) f (λ c e. x) x

abbrev pub if_acknowledges : {A : Type 0} → (ℕ → ℕ → A) → A → ConnectionEffect → A
if_acknowledges f x = by_connection_effect (λ c g. x) (λ c r. x) (λ c n t d. x) f x

-- ---- by the call and its answer

-- What an answer of the window shows: f for one that was kept, handed out or logged out; x for another.
abbrev pub by_window_answer : {A : Type 0} → A → (ℕ → A) → (ℕ → ℕ → A) → A → W.Answer → A
by_window_answer k h l x W.kept = k
by_window_answer k h l x W.duplicate = x
by_window_answer k h l x W.passed = x
by_window_answer k h l x W.beyond = x
by_window_answer k h l x W.nothing = x
by_window_answer k h l x (W.command n t o) = h n
by_window_answer k h l x (W.void n) = h n
by_window_answer k h l x (W.logged_out e v) = l e v
by_window_answer k h l x (W.refused n) = x

-- By an answer: the window's, opened, sent, acknowledged; x for another.
abbrev pub by_answer : {A : Type 0} → (W.Answer → A) → A → (ℕ → A) → A → A → Answer → A
by_answer w o s k x (refused n) = x
by_answer w o s k x immediate = x
by_answer w o s k x opened = o
by_answer w o s k x (window a) = w a
by_answer w o s k x (sent n) = s n
by_answer w o s k x (acknowledged n) = k
by_answer w o s k x (run f n) = x
by_answer w o s k x (resent t) = x
by_answer w o s k x (moved a y) = x
by_answer w o s k x (told r) = x

abbrev pub if_kept : {A : Type 0} → A → A → Answer → A
if_kept f x = by_answer (by_window_answer f (λ n. x) (λ e v. x) x) x (λ n. x) x x

abbrev pub if_handed_out : {A : Type 0} → (ℕ → A) → A → Answer → A
if_handed_out f x = by_answer (by_window_answer x f (λ e v. x) x) x (λ n. x) x x

abbrev pub if_logged_out : {A : Type 0} → (ℕ → ℕ → A) → A → Answer → A
if_logged_out f x = by_answer (by_window_answer x (λ n. x) f x) x (λ n. x) x x

abbrev pub if_opened : {A : Type 0} → A → A → Answer → A
if_opened f x = by_answer (λ a. x) f (λ n. x) x x

abbrev pub if_sent : {A : Type 0} → (ℕ → A) → A → Answer → A
if_sent f x = by_answer (λ a. x) x f x x

abbrev pub if_acknowledged : {A : Type 0} → A → A → Answer → A
if_acknowledged f x = by_answer (λ a. x) x (λ n. x) f x

-- What a call did to the window.
abbrev pub window_effect_by : Call → Answer → WindowEffect
window_effect_by (offer c t p) a = if_kept (keeps (cmd_sn_of p) c t (ListN.take header_size p)) WindowEffect.none a
window_effect_by (take x) a = if_handed_out hands_out WindowEffect.none a
window_effect_by (logout c r) a = if_logged_out (logs_out c r) WindowEffect.none a
window_effect_by (opening c g) a = WindowEffect.none
window_effect_by (send c t r y x) a = WindowEffect.none
window_effect_by (acknowledge c e) a = WindowEffect.none
window_effect_by (snack c p) a = WindowEffect.none
window_effect_by (resend c n y x) a = WindowEffect.none
window_effect_by (transfer c y d) a = WindowEffect.none
window_effect_by (ask q) a = WindowEffect.none

-- What a call did to a connection. "A NOP-In with ITT 0xffffffff .. doesn't count as a status sent": its send does nothing.
abbrev pub connection_effect_by : Call → Outputs → Answer → ConnectionEffect
connection_effect_by (offer c t p) o a = ConnectionEffect.none
connection_effect_by (take x) o a = ConnectionEffect.none
connection_effect_by (logout c r) o a = if_logged_out (λ e v. closes c r) ConnectionEffect.none a
connection_effect_by (opening c g) o a = if_opened (opens c g) ConnectionEffect.none a
connection_effect_by (send c t r y x) o a =
    if_sent (λ n. pick (is_status r) (sends c n t (ListN.take header_size o.header)) ConnectionEffect.none) ConnectionEffect.none a
connection_effect_by (acknowledge c e) o a = if_acknowledged (acknowledges c e) ConnectionEffect.none a
connection_effect_by (snack c p) o a = ConnectionEffect.none
connection_effect_by (resend c n y x) o a = ConnectionEffect.none
connection_effect_by (transfer c y d) o a = ConnectionEffect.none
connection_effect_by (ask q) o a = ConnectionEffect.none

abbrev pub window_effect : Event → WindowEffect
window_effect e = window_effect_by e.call e.answer

abbrev pub connection_effect : Event → ConnectionEffect
connection_effect e = connection_effect_by e.call e.out e.answer

-- ---- the past

-- What was done before a call, the newest first.
pub record Past : Type 0 where
  pub window : List WindowEffect
  pub connections : List ConnectionEffect

abbrev pub nothing_done : Past
nothing_done = record { window = []; connections = [] }

abbrev pub and_then : Past → Event → Past
and_then p e = record { window = window_effect e ∷ p.window; connections = connection_effect e ∷ p.connections }
