use Prim.Native.Nat.{◌≤◌, ◌<◌}
use mathlib.Core.Path.{refl}
use native.Mathlib.Omega.{arith}
use lib.ListN.{length}
use Rattle.call_words.proofs.Unfit.{unfit-short, unfit-refused, unfit-open}
use Rattle.send_words.proofs.send_unfit.Goals as goal

pub returns-then-lent-lt-HEADER_BYTES : goal.returns-then-lent-lt-HEADER_BYTES
returns-then-lent-lt-HEADER_BYTES c k ss o e =
    let a = c.args in
    let short : length o < 48 = omega (arith, e, c.if-lent-lt-HEADER_BYTES.true) in
    record { number = 1; meets = λ b g. unfit-short b a.conn a.stated o short; words = c.pack_refused.ensures; stays = (refl, refl) }

pub returns-in-Err : goal.returns-in-Err
returns-in-Err c k ss o e =
    let a = c.args in
    let long : 48 ≤ length o = omega (arith, e, c.if-lent-lt-HEADER_BYTES.false) in
    let no = rw c.load-s.ensures at c.in-Err.ensures in
    record {
      number = _;
      meets = λ b g. unfit-refused b a.conn a.stated o long _ g _ no;
      words = c.pack_refused-in-Err.ensures;
      stays = (refl, refl);
    }

pub returns-in-Ok : goal.returns-in-Ok
returns-in-Ok c k ss o e =
    let a = c.args in
    let long : 48 ≤ length o = omega (arith, e, c.if-lent-lt-HEADER_BYTES.false) in
    let i = rw c.load-s.ensures at c.in-Ok.ensures in
    record {
      number = _;
      meets = λ b g. unfit-open b a.conn a.stated o long _ g _ i;
      words = rw (← c.unfit_refusal.ensures) c.pack_refused-in-Ok.ensures;
      stays = (refl, refl);
    }
