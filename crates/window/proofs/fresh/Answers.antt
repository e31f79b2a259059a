-- `window::fresh` meets its contract: no bit is set, and nothing is held.
use Rattle.std.proofs.Common.{◌≡◌, ℕ, zero, suc, [], ◌∷◌, get_or, replicate, refl, arith, rules}
use Rattle.window.specs.Book.{fresh_book, next, empty}
use Rattle.window.specs.Agree.{Maps, held_bit, void_bit, origin_bit, SlotHas}
use Rattle.window.proofs.Bits.{maps_none, alike}
use Rattle.window.proofs.fresh.Goals as goal

no_origin : (c : ℕ) → Maps (get_or (0 ∷ 0 ∷ 0 ∷ 0 ∷ []) c 0) (origin_bit c) (replicate 64 empty)
unfolding origin_bit
no_origin c = rw (zeros c) (maps_none (origin_bit c) 64 refl)
  where
    zeros : (c : ℕ) → ◌≡◌ {A = ℕ} (get_or (0 ∷ 0 ∷ 0 ∷ 0 ∷ []) c 0) 0
    zeros zero = refl
    zeros (suc zero) = refl
    zeros (suc (suc zero)) = refl
    zeros (suc (suc (suc zero))) = refl
    zeros (suc (suc (suc (suc c)))) = refl

pub returns : goal.returns
unfolding fresh_book next
returns c = record {
  agrees = record {
    next = omega arith;
    handed = refl;
    share = refl;
    size = refl;
    headers_size = search rules;
    tickets_size = search rules;
    origins_size = refl;
    held = maps_none held_bit 64 (unfold held_bit in refl);
    voided = maps_none void_bit 64 (unfold void_bit in refl);
    origins = no_origin;
    in_slots = λ d. rw (alike empty 64 d) (unfold SlotHas in tt);
  };
  zero_headers = search rules;
  zero_tickets = search rules;
}
