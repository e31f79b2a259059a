-- The table says what the definition says of each of the 256 bytes: one test, computed.
use Rattle.std.proofs.Common.{◌≡◌, ◌<◌, ℕ, Bool, true, false, not, nat_eq, get_or, List, refl, arith}
use Rattle.std.specs.Bool.{beq}
use Rattle.text.proofs.Laws.{at, below}
use Rattle.text_block.specs.declared.block.TheConstants.{NAME_BYTES}
use Rattle.text_block.specs.Block.{name_byte}
use Rattle.text_block.proofs.block.is_name_byte.Goals as goal

beq-eq : (a b : Bool) → beq a b ≡ true → a ≡ b
beq-eq true true e = refl
beq-eq true false e = cc
beq-eq false true e = cc
beq-eq false false e = refl

abbrev agrees : List ℕ → ℕ → Bool
agrees table b = beq (not (nat_eq (get_or table b 0) 44)) (name_byte b)

from-table : (table : List ℕ) (b : ℕ) → b < 256 → below (agrees table) 256 ≡ true → not (nat_eq (get_or table b 0) 44) ≡ name_byte b
from-table table b l h = beq-eq _ _ (at (agrees table) 256 h b l)

pub returns : goal.returns
unfolding name_byte
returns c = from-table NAME_BYTES c.args.b (omega arith) refl
