-- Writing into lent bytes: the answer, and what the bytes are then.
use Rattle.std.specs.Prelude.{ℕ, List, ◌++◌, length, drop, eqb, ltb, Result, ⊤}
use Rattle.field.specs.Field.{pick}
use Rattle.refusal.specs.Refusal.{answer_number}
use Rattle.refusal.specs.declared.Refusal.{Refusal}
use Rattle.response_header.specs.declared.Numbers.{Numbers}
use Rattle.response_header.specs.declared.Response.{Response}
use Rattle.response_header.specs.Response.{header_bytes, refusal_in}

-- the answer, 0 for a header that was written, else the refusal's number; and what the lent bytes are then
pub record Outcome : Type 0 where
  pub answer : ℕ
  pub bytes : List ℕ

abbrev pub answered : Result ⊤ Refusal → ℕ
answered r = answer_number r

-- BUFFER first; then the response's own refusal, which leaves every byte; else the header in the first 48 bytes, and later bytes stay
unfoldable pub writing : ℕ → List ℕ → Response → Numbers → Outcome
writing max out r n =
    pick (ltb (length out) 48) (record { answer = 1; bytes = out })
    (pick (eqb (refusal_in max r) 0)
    (record { answer = 0; bytes = header_bytes r n ++ drop 48 out })
    (record { answer = refusal_in max r; bytes = out }))
