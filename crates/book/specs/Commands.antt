-- Demand 3's notions of commands: what the list of calls says by itself of numbers handed out, held and void. All numbers are taken
-- modulo 2^32, so that nothing is asked of them. g is what the session was given.
use Rattle.std.specs.Prelude.{ℕ, zero, suc, ◌+◌, ◌-◌, ◌%◌, ◌^◌, Bool, true, false, not, ◌&&◌, ◌||◌, List, [], ◌∷◌, ltb, eqb}
use Rattle.field.specs.Field.{pick}
use Rattle.window.specs.Book.{Origin, connection, is_from}
use Rattle.window.specs.Book as W
use Rattle.book.specs.declared.Given.{Given}
use Rattle.book.specs.Book.{share}
use Rattle.book.specs.Effects.{WindowEffect, if_keeps, if_hands_out, if_logs_out}

-- The same number, modulo 2^32.
unfoldable pub same : ℕ → ℕ → Bool
same n m = eqb (n % 2 ^ 32) (m % 2 ^ 32)

-- How many were handed out. "Void hand-outs count as handed out".
unfoldable pub hand_outs : (past : List WindowEffect) → ℕ
hand_outs [] = 0
hand_outs (x ∷ past) = if_hands_out (λ n. suc (hand_outs past)) (hand_outs past) x

-- The next number to hand out, R; a number less R; "among the next 64 to hand out", which is the share.
unfoldable pub next : (g : Given) → (past : List WindowEffect) → ℕ
next g past = (g.first + hand_outs past) % 2 ^ 32

unfoldable pub distance : (g : Given) → (past : List WindowEffect) → ℕ → ℕ
distance g past n = (n + (2 ^ 32 - next g past)) % 2 ^ 32

unfoldable pub among_next : (g : Given) → (past : List WindowEffect) → ℕ → Bool
among_next g past n = ltb (distance g past n) (share g)

-- "among the last 2^31 handed out": n is one of the last k numbers handed out.
unfoldable pub among_last : (k : ℕ) → (past : List WindowEffect) → ℕ → Bool
among_last k [] n = false
among_last k (x ∷ past) n = if_hands_out (λ m. ltb 0 k && (same n m || among_last (k - 1) past n)) (among_last k past n) x

-- "its latest kept offer": its connection, ticket and header.
pub data Latest : Type 0 where
  none : Latest
  by : (connection ticket : ℕ) → (header : List ℕ) → Latest

unfoldable pub latest_offer : (past : List WindowEffect) → ℕ → Latest
latest_offer [] n = Latest.none
latest_offer (x ∷ past) n = if_keeps (λ m c t h. pick (same n m) (by c t h) (latest_offer past n)) (latest_offer past n) x

-- The origin that it has: the connection of its latest kept offer, unless a logout with reason 2 of that connection came since.
unfoldable pub origin_of : (past : List WindowEffect) → ℕ → Origin
origin_of [] n = W.none
origin_of (x ∷ past) n =
    if_keeps (λ m c t h. pick (same n m) (connection c) (origin_of past n))
    (if_logs_out (λ c r e v. pick (eqb r 2 && is_from c (origin_of past n)) W.none (origin_of past n)) (origin_of past n) x) x

-- A logout concerns the commands of its connection, and with reason 0 all.
unfoldable pub concerned : (connection reason : ℕ) → Origin → Bool
concerned c r o = eqb r 0 || is_from c o

-- How many of the m numbers from k on are held without a gap.
unfoldable pub held_run : (ℕ → Bool) → (k m : ℕ) → ℕ
held_run h k zero = 0
held_run h k (suc m) = pick (h k) (suc (held_run h (suc k) m)) 0

-- Held: its offer was kept, and since then it was neither handed out nor emptied by a logout. A logout empties the commands
-- that it concerns and that are not before ExpCmdSN, the one before the logout.
unfoldable pub held : (g : Given) → (past : List WindowEffect) → ℕ → Bool
held g [] n = false
held g (x ∷ past) n =
    if_keeps (λ m c t h. pick (same n m) true (held g past n))
    (if_hands_out (λ m. pick (same n m) false (held g past n))
    (if_logs_out (λ c r e v.
    held g past n
    && not (concerned c r (origin_of past n)
    && not (ltb (distance g past n) (held_run (λ k. held g past (next g past + k)) 0 (share g)))))
    (held g past n) x) x) x

-- The count of held numbers without a gap from R; ExpCmdSN and MaxCmdSN; before ExpCmdSN.
unfoldable pub gapless : (g : Given) → (past : List WindowEffect) → ℕ
gapless g past = held_run (λ k. held g past (next g past + k)) 0 (share g)

unfoldable pub exp_cmd_sn_of : (g : Given) → (past : List WindowEffect) → ℕ
exp_cmd_sn_of g past = (next g past + gapless g past) % 2 ^ 32

unfoldable pub max_cmd_sn_of : (g : Given) → (past : List WindowEffect) → ℕ
max_cmd_sn_of g past = (next g past + (share g - 1)) % 2 ^ 32

unfoldable pub before_exp : (g : Given) → (past : List WindowEffect) → ℕ → Bool
before_exp g past n = ltb (distance g past n) (gapless g past)

-- "a logout voided it since": since its latest kept offer a logout with another reason than 2 concerned it, and it was before
-- the ExpCmdSN of then.
unfoldable pub voided_since : (g : Given) → (past : List WindowEffect) → ℕ → Bool
voided_since g [] n = false
voided_since g (x ∷ past) n =
    if_keeps (λ m c t h. pick (same n m) false (voided_since g past n))
    (if_logs_out (λ c r e v. voided_since g past n || (not (eqb r 2) && (concerned c r (origin_of past n) && before_exp g past n)))
    (voided_since g past n) x) x

-- ---- counts: "Kept offers = handed out + held + emptied by logouts"

unfoldable pub kept_offers : (past : List WindowEffect) → ℕ
kept_offers [] = 0
kept_offers (x ∷ past) = if_keeps (λ m c t h. suc (kept_offers past)) (kept_offers past) x

-- "emptied is what logouts answered, added up".
unfoldable pub emptied : (past : List WindowEffect) → ℕ
emptied [] = 0
emptied (x ∷ past) = if_logs_out (λ c r e v. e + emptied past) (emptied past) x

-- How many of the m numbers from k on are held; and of the next ones, which are all that can be.
unfoldable pub held_count : (ℕ → Bool) → (k m : ℕ) → ℕ
held_count h k zero = 0
held_count h k (suc m) = W.one-if (h k) + held_count h (suc k) m

unfoldable pub held_now : (g : Given) → (past : List WindowEffect) → ℕ
held_now g past = held_count (λ k. held g past (next g past + k)) 0 (share g)
