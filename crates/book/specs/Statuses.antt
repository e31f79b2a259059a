-- Demand 3's notions of connections and their statuses: what the list of calls says by itself of which are open, and of the statuses
-- that were sent and their numbers. All numbers are taken modulo 2^32, so that nothing is asked of them.
use Rattle.std.specs.Prelude.{ℕ, suc, ◌+◌, ◌-◌, ◌%◌, ◌^◌, Bool, true, false, ◌&&◌, ◌||◌, List, [], ◌∷◌, ltb, eqb}
use Rattle.field.specs.Field.{pick}
use Rattle.ledger.specs.Book.{Found, missing, found}
use Rattle.book.specs.declared.Given.{Given}
use Rattle.book.specs.Effects.{ConnectionEffect, if_opens, if_closes, if_sends, if_acknowledges}
use Rattle.book.specs.Commands.{same}

-- Open: connection 0 of a fresh session, and one that was opened and not closed since by a logout of it, or with reason 0.
unfoldable pub is_open_at : (past : List ConnectionEffect) → ℕ → Bool
is_open_at [] c = eqb c 0
is_open_at (x ∷ past) c =
    if_closes (λ d r. pick (eqb r 0 || eqb c d) false (is_open_at past c))
    (if_opens (λ d g. pick (eqb c d) true (is_open_at past c)) (is_open_at past c) x) x

-- The last status sent under the number n on c since its latest opening.
unfoldable pub last_sent : (past : List ConnectionEffect) → (c n : ℕ) → Found
last_sent [] c n = missing
last_sent (x ∷ past) c n =
    if_opens (λ d g. pick (eqb c d) missing (last_sent past c n))
    (if_sends (λ d m t h. pick (eqb c d && same n m) (found (record { header = h; ticket = t })) (last_sent past c n)) (last_sent past c n) x) x

-- n comes before x in the order of serial numbers.
unfoldable pub precedes : ℕ → ℕ → Bool
precedes n x = ltb 0 ((x + (2 ^ 32 - n % 2 ^ 32)) % 2 ^ 32) && ltb ((x + (2 ^ 32 - n % 2 ^ 32)) % 2 ^ 32) (2 ^ 31)

-- "acknowledged since": since that last status an ExpStatSN after its number was acknowledged on c.
unfoldable pub acknowledged_since : (past : List ConnectionEffect) → (c n : ℕ) → Bool
acknowledged_since [] c n = false
acknowledged_since (x ∷ past) c n =
    if_opens (λ d g. pick (eqb c d) false (acknowledged_since past c n))
    (if_sends (λ d m t h. pick (eqb c d && same n m) false (acknowledged_since past c n))
    (if_acknowledges (λ d e. (eqb c d && precedes n e) || acknowledged_since past c n) (acknowledged_since past c n) x) x) x

-- ---- numbers: "From a first StatSN, given at opening"

-- The first StatSN of c: what its latest opening gave; before any, what the session was given for connection 0, the only one open then.
unfoldable pub first_stat_sn : (g : Given) → (past : List ConnectionEffect) → (c : ℕ) → ℕ
first_stat_sn g [] c = g.opening.stat_sn
first_stat_sn g (x ∷ past) c = if_opens (λ d o. pick (eqb c d) o.stat_sn (first_stat_sn g past c)) (first_stat_sn g past c) x

-- How many statuses were sent on c since its latest opening, acknowledged or not.
unfoldable pub statuses_sent : (past : List ConnectionEffect) → (c : ℕ) → ℕ
statuses_sent [] c = 0
statuses_sent (x ∷ past) c =
    if_opens (λ d o. pick (eqb c d) 0 (statuses_sent past c))
    (if_sends (λ d m t h. pick (eqb c d) (suc (statuses_sent past c)) (statuses_sent past c)) (statuses_sent past c) x) x

-- The next StatSN of c: its first one, plus one for each status sent on it since, modulo 2^32. It is counted, and not read off the number that
-- the last status bore.
unfoldable pub next_number : (g : Given) → (past : List ConnectionEffect) → (c : ℕ) → ℕ
next_number g past c = (first_stat_sn g past c + statuses_sent past c) % 2 ^ 32
