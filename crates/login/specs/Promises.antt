-- What a PDU is to a login in the code, for its contracts. This follows the code; the rules are in login_book's Login.
use Rattle.std.specs.Prelude.{ℕ, ◌+◌, ◌≤◌, Bool, true, false, ◌≡◌, List, length, take, drop, eqb, Result, Ok, Err}
use Rattle.refusal.specs.Refusal.{number, status}
use Rattle.request_header.specs.Request.{read_pdu, limits}
use Rattle.login.specs.declared.request.Found.{Found}
use Rattle.refusal.specs.declared.Refusal.{Refusal}
use Rattle.login_book.specs.Login.{Outcome, refused, request_step, read_step, login_step}
use Rattle.login_book.specs.Book.{LoginBook}

-- what is done with the Login that was found
abbrev pub found_step : Result Found Refusal → LoginBook → List ℕ → ℕ → ℕ → List ℕ → List ℕ → List ℕ → Outcome
found_step (Ok f) b pdu live new ours g t = request_step b f.login (take f.length (drop f.start pdu)) live new ours g t
found_step (Err f) b pdu live new ours g t = record { book = b; answer = refused (number f) (status f); gather = g; text = t }

-- where its data ends
abbrev pub end_of : Result Found Refusal → ℕ
end_of (Ok f) = f.start + f.length
end_of (Err f) = 0

abbrev pub is_login : Result Found Refusal → Bool
is_login (Ok f) = true
is_login (Err f) = false

-- a refusal before the checks is not 6
abbrev pub is_six : Result Found Refusal → Bool
is_six (Ok f) = false
is_six (Err f) = eqb (number f) 6

pub record ReadAs (new : ℕ) (pdu : List ℕ) (f : Result Found Refusal) : Type 0 where
  pub step : (b : LoginBook) (live : ℕ) (ours g t : List ℕ) → found_step f b pdu live new ours g t ≡ read_step (read_pdu limits pdu) b pdu live new ours g t
  pub other : is_six f ≡ false
  pub inside : end_of f ≤ length pdu
  pub lent : is_login f ≡ true → new ≡ 0 → ⊥

pub record FoundAs (over : Bool) (new gather text : ℕ) (pdu : List ℕ) (f : Result Found Refusal) : Type 0 where
  pub step : (b : LoginBook) (live : ℕ) (ours g t : List ℕ) → b.over ≡ over → length g ≡ gather → length t ≡ text → found_step f b pdu live new ours g t ≡ login_step b pdu live new ours g t
  pub other : is_six f ≡ false
  pub inside : end_of f ≤ length pdu
  pub lent : is_login f ≡ true → (8192 ≤ gather) × (8192 ≤ text) × (new ≡ 0 → ⊥)
