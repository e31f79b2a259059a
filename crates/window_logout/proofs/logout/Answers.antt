-- `window_logout::logout` meets its contract: with the maps that the helpers ensure, Effect has the counts and the agreement.
use mathlib.Core.Path.{refl}
use native.Mathlib.Omega.{arith}
use Rattle.place_map.specs.Bit.{without}
use Rattle.window_logout.proofs.Effect.{logout-meets}
use Rattle.window_logout.proofs.logout.Goals as goal

pub returns : goal.returns
unfolding without
returns c cs =
    let a = c.args in
    record {
      meets = λ b n.
          logout-meets a.w cs b a.conn a.reason _ _ _ n c.gapless-gapless.ensures c.below-before.ensures c.concerned_by-concerned.ensures
          (omega arith) (omega arith) _ c.newly_voided-voided.ensures _ refl refl refl refl c.origins_left-origins.ensures;
      stays = tt;
      out_size = refl;
      out_rest = refl;
    }
