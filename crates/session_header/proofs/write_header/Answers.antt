-- `session_header::write_header` meets its contract: the header's six stores, with the numbers of now.
use mathlib.Core.Path.{◌∙◌}
use Rattle.response_header.specs.declared.Numbers.{Numbers}
use Rattle.response_layout.specs.WholeNumbers.{own_bytes}
use Rattle.response_layout.proofs.Laid.{length-own, front}
use Rattle.ledger.proofs.Laws.{headed-size, headed-rest}
use Rattle.book.specs.Book.{written}
use Rattle.session_header.proofs.write_header.Goals as goal

pub returns : goal.returns
unfolding written
returns c r q =
    let l = c.args.out.now in
    let o = c.args.o in
    let n : Numbers = record { stat_sn = c.args.stat_sn; exp_cmd_sn = c.exp_cmd_sn-exp_cmd_sn.result; max_cmd_sn = c.max_cmd_sn-max_cmd_sn.result } in
    let h = own_bytes o n in
    let size = length-own o n in
    rw (c.place.ensures ∙ front l h size) (record {
      header = λ k b g. rw (← (c.exp_cmd_sn-exp_cmd_sn.ensures k b g), ← (c.max_cmd_sn-max_cmd_sn.ensures k b g), q n);
      keeps = record { size = headed-size h l size c.requires; rest = headed-rest h l size };
    })
