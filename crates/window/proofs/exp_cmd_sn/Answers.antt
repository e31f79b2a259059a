-- `window::exp_cmd_sn` meets its contract.
use Rattle.std.proofs.Common.{ℕ, ◌+◌, ◌%◌, ◌^◌, ap₂}
use Rattle.window.specs.Book.{exp_cmd_sn_of}
use Rattle.window.proofs.Bits.{counts}
use Rattle.window.proofs.Steps.{all-places}
use Rattle.window.proofs.exp_cmd_sn.Goals as goal

pub returns : goal.returns
unfolding exp_cmd_sn_of
returns c cs b g =
    ap₂ (λ (x y : ℕ). (x + y) % 2 ^ 32) g.next
    (counts b.held c.args.w.held c.gapless.result (all-places _ b g) g.held c.gapless.ensures)
