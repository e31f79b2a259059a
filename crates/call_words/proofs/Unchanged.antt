-- A call that writes none of the session's words: it was refused, or its answer leaves the state. The contracts of such calls.
use mathlib.Core.Path.{◌≡◌, refl, ap, subst}
use mathlib.Core.List.{List}
use Prim.Native.Nat.{ℕ}
use Rattle.window.specs.Agree as WA
use Rattle.window.specs.Agree.{Commands}
use Rattle.window.specs.declared.Offered.{Offered}
use Rattle.window.specs.declared.Offered.TheVariants as O
use Rattle.window.specs.declared.Taken.{Taken}
use Rattle.window.specs.declared.Taken.TheVariants as T
use Rattle.ledger.specs.Agree.{Statuses}
use Rattle.book.specs.Book.{Outputs, Call, lent, Answer, refused, immediate, opened, window, sent, acknowledged, run, resent, moved, told, from_window}
use Rattle.session_state.specs.declared.Session.{Session}
use Rattle.session_state.specs.Agree.{State, state, Did}
use Rattle.session_words.specs.State.{session_of}
use Rattle.answer_words.specs.Answer.{answer_words}
use Rattle.call_words.specs.Session.{SessionWords, session_words, state_of, nothing, LeavesWords, Said}

session-left : {call : Call} {s : State} {a : Answer} {o : Outputs} {x : Session} {k : Commands} {ss : Statuses}
    → Did call s a o (state x k ss) → state x k ss ≡ s → Did call s a o (state s.session k ss)
session-left {call} {s} {a} {o} {k = k} {ss = ss} d e =
    subst (λ (y : Session). Did call s a o (state y k ss)) (ap (λ (t : State). t.session) e) d

module _ {call : Call} {n m : List ℕ} {k k' : Commands} {ss ss' : Statuses} {o : Outputs} {x : Session} {w : List ℕ} where
  pub refused-said : {f : ℕ} → Did call (state (session_of n m) k ss) (refused f) o (state x k' ss') → w ≡ answer_words (refused f)
      → Said call (session_words n m k ss) w o (session_words n m k' ss')
  refused-said {f} d e = record {
    answer = refused f;
    did = session-left d d.stays.0;
    words = e;
    writes = nothing;
    stays = (ap (λ (t : State). session_words n m t.commands t.statuses) d.stays.0, d.stays.1);
  }

  pub immediate-said : Did call (state (session_of n m) k ss) immediate o (state x k' ss') → w ≡ answer_words immediate
      → Said call (session_words n m k ss) w o (session_words n m k' ss')
  immediate-said d e = record { answer = immediate; did = session-left d d.stays; words = e; writes = nothing; stays = tt }

-- an answer that only shows something
pub still : (a : Answer) (call : Call) (s : SessionWords) (o : Outputs) → Did call (state_of s) a o (state_of s) → LeavesWords a s s (lent call) o
still (refused n) call s o d = (refl, d.stays.1)
still immediate call s o d = tt
still opened call s o d = tt
still (window a) call s o d = tt
still (sent n) call s o d = tt
still (acknowledged n) call s o d = tt
still (run f n) call s o d = tt
still (resent t) call s o d = tt
still (moved a x) call s o d = tt
still (told r) call s o d = tt

pub shown-said : {call : Call} {s : SessionWords} {o : Outputs} {w : List ℕ} (a : Answer)
    → Did call (state_of s) a o (state_of s) → w ≡ answer_words a → Said call s w o s
shown-said {call} {s} {o} a d e = record { answer = a; did = d; words = e; writes = nothing; stays = still a call s o d }

-- what the window answers to an offer or a take is no refusal
pub offered-moves : (a : Offered) (s s' : SessionWords) (l o : Outputs) → LeavesWords (from_window (WA.offer_answer a)) s s' l o
offered-moves O.Kept s s' l o = tt
offered-moves O.Duplicate s s' l o = tt
offered-moves O.Passed s s' l o = tt
offered-moves O.Beyond s s' l o = tt

pub taken-moves : (a : Taken) (s s' : SessionWords) (l o : Outputs) → LeavesWords (from_window (WA.take_answer a)) s s' l o
taken-moves T.Nothing s s' l o = tt
taken-moves (T.Void n) s s' l o = tt
taken-moves (T.Command n t x) s s' l o = tt
