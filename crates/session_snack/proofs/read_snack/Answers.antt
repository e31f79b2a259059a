-- `session_snack::read_snack` meets its contract: of a good SNACK, its two fields.
use mathlib.Core.Path.{ap}
use Rattle.request_header.specs.declared.Request.TheVariants as Q
use Rattle.request_header.specs.Request.{pdu_of, request_of}
use Rattle.request_header.proofs.Header.{header-snack}
use Rattle.book.specs.Book.{asked_by}
use Rattle.session_snack.proofs.read_snack.Goals as goal

pub returns : goal.returns
unfolding pdu_of request_of
returns c =
    let h = c.in_ok-header.ensures.header in
    rw (c.run_in.ensures, h.good) (ap (λ x. asked_by c.args.level (Q.Snack x)) (header-snack c.args.pdu.now h.first))
