-- Read beside paper 01, 'The command window': what is held, what each call answers, and what is held after it.
use Rattle.std.specs.Prelude.{ℕ, zero, suc, ◌+◌, ◌-◌, ◌%◌, ◌^◌, min, Bool, true, false, not, ◌&&◌, ◌||◌, List, [], ◌∷◌, ◌++◌, drop, replicate, ◌==◌, nat_le, nat_lt, slice_index_or, slice_set}
use Rattle.std.proofs.Math.ListN as ListN
use Rattle.field.specs.Field.{pick}
use Rattle.store.specs.Slot.{header_size}

-- "64 places": the share of a window of its own.
abbrev pub places : ℕ
places = 64

-- "connection number 4 or more" there is none of.
abbrev pub connections : ℕ
connections = 4

-- "among the last 2^31 handed out".
abbrev pub remembered : ℕ
remembered = 2 ^ 31

-- The connection that a command came on, or none.
pub data Origin : Type 0 where
  none : Origin
  connection : ℕ → Origin

-- "the held numbers (header, ticket, origin, void or not)".
pub record Command : Type 0 where
  pub header : List ℕ
  pub ticket : ℕ
  pub origin : Origin
  pub void : Bool

-- The place of a number: it is held, or not.
pub data Place : Type 0 where
  empty : Place
  holds : Command → Place

-- first: the first number; handed: the count of hand-outs; share: how many numbers from R on may be held; held: the
-- places of these numbers.
pub record Book : Type 0 where
  pub first : ℕ
  pub handed : ℕ
  pub share : ℕ
  pub held : List Place

-- "R is the first number plus that count"; "all wraps at 2^32".
unfoldable pub next : Book → ℕ
next b = (b.first + b.handed) % 2 ^ 32

-- "the count of held numbers without a gap from R".
unfoldable pub gapless : List Place → ℕ
gapless [] = zero
gapless (empty ∷ l) = zero
gapless (holds _ ∷ l) = suc (gapless l)

-- "ExpCmdSN is R plus the count of held numbers without a gap from R".
unfoldable pub exp_cmd_sn_of : Book → ℕ
exp_cmd_sn_of b = (next b + gapless b.held) % 2 ^ 32

-- "MaxCmdSN is R plus 63": the last number that may be held.
unfoldable pub max_cmd_sn_of : Book → ℕ
max_cmd_sn_of b = (next b + (b.share - 1)) % 2 ^ 32

-- "A fresh session is given its first number": nothing is held.
unfoldable pub fresh_book : (first share : ℕ) → Book
fresh_book n s = record { first = n % 2 ^ 32; handed = zero; share = s; held = replicate s empty }

-- An offer of a numbered command, a take with the output that it lends, the effect of a logout.
pub data Call : Type 0 where
  offer : (number ticket connection : ℕ) → (header : List ℕ) → Call
  take : (out : List ℕ) → Call
  logout : (connection reason : ℕ) → Call

-- refused: with the number of a refusal, where the window itself refuses a call. None of 01's calls is.
pub data Answer : Type 0 where
  kept duplicate passed beyond nothing : Answer
  command : (number ticket : ℕ) → Origin → Answer
  void : (number : ℕ) → Answer
  logged_out : (emptied voided : ℕ) → Answer
  refused : (number : ℕ) → Answer

-- The answer to a call, the lent output after it ([] where none is lent), and the book after it.
pub record Step : Type 0 where
  pub answer : Answer
  pub bytes : List ℕ
  pub book : Book

abbrev pub step : Answer → List ℕ → Book → Step
step a o b = record { answer = a; bytes = o; book = b }

-- ---- offer

-- "let d be the number less R".
unfoldable pub distance : Book → ℕ → ℕ
distance b n = (n + (2 ^ 32 - next b)) % 2 ^ 32

unfoldable pub keeping : Book → ℕ → Command → Book
keeping b d e = record { first = b.first; handed = b.handed; share = b.share; held = slice_set b.held d (holds e) }

-- "kept, or duplicate if held".
unfoldable pub offer_at : Place → Book → ℕ → Command → Step
offer_at empty b d e = step kept [] (keeping b d e)
offer_at (holds _) b d e = step duplicate [] b

-- "among the last 2^31 handed out": the numbers R-1 down to R less the count of hand-outs, or less 2^31.
unfoldable pub was_handed_out : Book → ℕ → Bool
was_handed_out b d = nat_le (2 ^ 32 - d) (min b.handed remembered)

-- "below 64", the share, "kept, or duplicate if held; otherwise passed if among the last 2^31 handed out, else beyond".
unfoldable pub offer_step : Book → ℕ → Command → Step
offer_step b d e =
    pick (nat_lt d b.share) (offer_at (slice_index_or b.held d empty) b d e) (step (pick (was_handed_out b d) passed beyond) [] b)

-- ---- take

-- The place of R.
unfoldable pub first_place : Book → Place
first_place b = slice_index_or b.held zero empty

-- One more is handed out, and the place of R plus the share comes into the window.
unfoldable pub handed_on : Book → Book
handed_on b = record { first = b.first; handed = suc b.handed; share = b.share; held = drop 1 b.held ++ empty ∷ [] }

-- "Take hands out R if held, with header, ticket and origin, or void; else nothing."
unfoldable pub take_step : Place → Book → List ℕ → Step
take_step empty b o = step nothing o b
take_step (holds e) b o =
    pick e.void (step (void (next b)) o (handed_on b))
    (step (command (next b) e.ticket e.origin) (e.header ++ drop header_size o) (handed_on b))

-- ---- logout

-- The reasons that differ from the others: 0 closes the session, 2 removes the connection for recovery.
abbrev pub close_session : ℕ
close_session = 0

abbrev pub recovery : ℕ
recovery = 2

abbrev pub one-if : Bool → ℕ
one-if true = 1
one-if false = 0

unfoldable pub is_from : ℕ → Origin → Bool
is_from c none = false
is_from c (connection x) = x == c

-- "its held commands"; with reason 0 "every held command, origin or none".
unfoldable pub concerns : (connection reason : ℕ) → Command → Bool
concerns c r e = r == close_session || is_from c e.origin

-- Before ExpCmdSN: "become void", but with reason 2 "stay with no origin".
unfoldable pub spared : (reason : ℕ) → Command → Command
spared r e =
    pick (r == recovery) (record { header = e.header; ticket = e.ticket; origin = none; void = e.void })
    (record { header = e.header; ticket = e.ticket; origin = e.origin; void = true })

unfoldable pub before : (connection reason : ℕ) → Place → Place
before c r empty = empty
before c r (holds e) = holds (pick (concerns c r e) (spared r e) e)

-- After it: "emptied".
unfoldable pub after : (connection reason : ℕ) → Place → Place
after c r empty = empty
after c r (holds e) = pick (concerns c r e) empty (holds e)

-- What is left of the places: the first g of them lie before ExpCmdSN.
unfoldable pub left : (connection reason g : ℕ) → List Place → List Place
left c r g [] = []
left c r zero (p ∷ l) = after c r p ∷ left c r zero l
left c r (suc g) (p ∷ l) = before c r p ∷ left c r g l

-- 1 for a command that is emptied where it lies after ExpCmdSN, and for one that is newly voided where it lies before.
unfoldable pub emptied_at : (connection reason : ℕ) → Place → ℕ
emptied_at c r empty = 0
emptied_at c r (holds e) = one-if (concerns c r e)

unfoldable pub voided_at : (connection reason : ℕ) → Place → ℕ
voided_at c r empty = 0
voided_at c r (holds e) = one-if (not (r == recovery) && (concerns c r e && not e.void))

unfoldable pub sum_of : (Place → ℕ) → List Place → ℕ
sum_of f [] = zero
sum_of f (p ∷ l) = f p + sum_of f l

unfoldable pub after_logout : Book → (connection reason g : ℕ) → Book
after_logout b c r g = record { first = b.first; handed = b.handed; share = b.share; held = left c r g b.held }

-- "ExpCmdSN is the one before the logout. The answer counts emptied and newly voided."
unfoldable pub logout_step : Book → (connection reason g : ℕ) → Step
logout_step b c r g =
    step (logged_out (sum_of (emptied_at c r) (drop g b.held)) (sum_of (voided_at c r) (ListN.take g b.held))) [] (after_logout b c r g)

-- ---- who holds a number

-- Nobody: it is free; it is held void; or it is held, with its ticket and the origin that it still has.
pub data Holder : Type 0 where
  free heldVoid : Holder
  held_by : (ticket : ℕ) → Origin → Holder

unfoldable pub holder_at : Place → Holder
holder_at empty = free
holder_at (holds e) = pick e.void heldVoid (held_by e.ticket e.origin)

-- Only "held numbers" have a place: a number that is not among the next 64 is free.
unfoldable pub holder_of : Book → (number : ℕ) → Holder
holder_of b n = holder_at (slice_index_or b.held (distance b n) empty)

-- ---- the step of the book at a call

unfoldable pub book_step : Book → Call → Step
book_step b (offer n t c h) = offer_step b (distance b n) (record { header = h; ticket = t; origin = connection c; void = false })
book_step b (take o) = take_step (first_place b) b o
book_step b (logout c r) = logout_step b c r (gapless b.held)
