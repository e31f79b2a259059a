-- `window_take::handed_on` meets its contract: each map is halved, since R is one more.
use Rattle.std.proofs.Common.{ℕ, ◌/◌, refl, ◌∙◌}
use lib.ListN.{get_or-map}
use Rattle.std.proofs.lemmas.List.{length-map}
use Rattle.window_take.proofs.Steps.{shift-agrees}
use Rattle.window_take.proofs.handed_on.Goals as goal

pub returns : goal.returns
returns c cs b g =
    let w = c.args.w in
    rw c.halves.ensures
    (shift-agrees w _ cs b g refl c.one_more.ensures refl refl (length-map w.origins (λ (m : ℕ). m / 2) ∙ g.origins_size)
    (λ k. get_or-map (λ (m : ℕ). m / 2) w.origins k 0))
