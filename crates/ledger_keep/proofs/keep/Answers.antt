-- `ledger_keep::keep` meets its contract: the slot of the next number is c's own, and no held status lies in it.
use Rattle.std.proofs.Common.{◌+◌, ◌*◌, ◌%◌, ◌<◌, refl, ◌∙◌, arith, length-set}
use lib.Seq.{length-paste}
use Rattle.response_layout.specs.WholeNumbers.{own_bytes}
use Rattle.response_layout.proofs.Laid.{length-own}
use Rattle.ledger.specs.Agree.{statuses_in, Puts}
use Rattle.ledger.proofs.Laws.{stored-agrees, stored-others}
use Rattle.ledger_keep.proofs.keep.Goals as goal

pub returns : goal.returns
unfolding Puts
returns c =
    let a = c.args in
    let h = own_bytes a.o a.n in
    let size = length-own a.o a.n in
    let near : a.c < 4 = omega arith in
    let low : a.l.held < 32 = omega arith in
    rw c.place.ensures (record {
      agrees = λ b g. stored-agrees a.c a.l _ a.ticket h (statuses_in a.headers.now a.tickets.now) b g low size
          refl refl;
      others = λ k m b ne g. stored-others a.c k a.l.next a.ticket h (statuses_in a.headers.now a.tickets.now) m b near ne size g;
      headers_size = λ e. length-paste a.headers.now ((a.c * 32 + a.l.next % 32) * 48) h 48 (omega arith) (omega (arith, size)) ∙ e;
      tickets_size = λ e. length-set a.tickets.now (a.c * 32 + a.l.next % 32) a.ticket ∙ e;
      puts = (refl, refl);
    })
