-- `ledger_resend::resend` meets its contract: what is held lies in the slot of its number.
use Prim.Native.Nat.{ℕ, ◌+◌, ◌*◌, ◌%◌, ◌≤◌}
use mathlib.Core.Path.{◌≡◌, refl, ◌∙◌}
use mathlib.Core.List.{List, ◌++◌}
use native.Mathlib.Omega.{arith}
use lib.ListN.{drop, length, length-drop}
use lib.Seq.{length-take-le}
use Rattle.store.specs.Slot.{in_slot}
use Rattle.ledger.specs.Book.{renewed_for, renewed}
use Rattle.ledger.specs.Agree.{statuses_in}
use Rattle.ledger.proofs.Laws.{renew-both, renewed-front, renew, length-renewed, headed-size, headed-rest, resend-missing, resend-found}
use Rattle.ledger_resend.proofs.resend.Goals as goal

size : (h : List ℕ) (j : ℕ) → j * 48 + 48 ≤ length h → length (in_slot h j) ≡ 48
unfolding in_slot
size h j l = length-take-le 48 (drop (j * 48) h) (rw length-drop (omega arith))

pub returns-then-l-place : goal.returns-then-l-place
returns-then-l-place c =
    let a = c.args in
    record {
      meets = λ b g. resend-missing a.c a.l _ a.out.now b a.stat_sn _ a.renewal g (c.place_of-place.ensures a.c _ b g)
          c.if-l-place.true;
      stays = refl;
      out_size = refl;
      out_rest = refl;
    }

pub returns : goal.returns
returns c =
    let held = c.if-l-place.false in
    let p = c.place_of-place in
    let a = c.args in
    let ss = statuses_in a.headers.now a.tickets.now in
    let slot = a.c * 32 + a.stat_sn % 32 in
    let h = in_slot a.headers.now slot in
    let sz = size a.headers.now slot (omega arith) in
    let got : c.get.new.out ≡ h ++ drop 48 a.out.now = unfold in_slot in c.get.ensures in
    let for : c.renew_for.new.out ≡ renewed_for a.renewal.numbering h ++ drop 48 a.out.now =
    rw (c.renew_for.ensures, got) (renewed-front a.renewal.numbering h (drop 48 a.out.now) sz) in
    let is : c.put.new.h ≡ renewed h a.renewal ++ drop 48 a.out.now =
    rw (c.put.ensures, c.pair-numbers.ensures, renew-both, for)
    (renew h (drop 48 a.out.now) a.renewal sz) in
    let fits = length-renewed h a.renewal ∙ sz in
    rw is (record {
      meets = λ b g. resend-found a.c a.l ss a.out.now b a.stat_sn p.result a.renewal g (p.ensures a.c ss b g) (omega arith) held;
      stays = tt;
      out_size = headed-size (renewed h a.renewal) a.out.now fits (omega arith);
      out_rest = headed-rest (renewed h a.renewal) a.out.now fits;
    })
