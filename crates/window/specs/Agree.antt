-- Follows the code: how its window, with the arrays lent to it, stands for a book. Bit d of each map is for the place d,
-- and so is its slot.
use Rattle.std.specs.Prelude.{◌≡◌, Option, Some, None, ℕ, ◌+◌, ◌-◌, ◌*◌, ◌%◌, ◌^◌, min, List, [], length, drop, replicate, slice_index, slice_index_or, slice_set}
use Rattle.std.proofs.Math.Seq.{paste}
use Rattle.store.specs.Slot.{header_size, in_slot}
use Rattle.place_map.specs.Bit.{bit_at, with_bit}
use Rattle.window.specs.PlaceSlot.{slots, slot_of}
use Rattle.window.specs.Book.{places, connections, remembered, Origin, none, connection, Place, empty, holds, Book, next, fresh_book, Call, offer, take, logout, Answer, kept, duplicate, passed, beyond, nothing, command, void, logged_out, refused, book_step, is_from, one-if}
use Rattle.window.specs.declared.Window.{Window}
use Rattle.window.specs.declared.FreshWindow.{FreshWindow}
use Rattle.window.specs.declared.Offered.{Offered}
use Rattle.window.specs.declared.Offered.TheVariants.{Kept, Duplicate, Passed, Beyond}
use Rattle.window.specs.declared.Taken.{Taken}
use Rattle.window.specs.declared.Taken.TheVariants.{Nothing, Void, Command as Out}

-- ---- the answers

abbrev pub offer_answer : Offered → Answer
offer_answer Kept = kept
offer_answer Duplicate = duplicate
offer_answer Passed = passed
offer_answer Beyond = beyond

abbrev pub origin_of : Option ℕ → Origin
origin_of None = none
origin_of (Some c) = connection c

abbrev pub take_answer : Taken → Answer
take_answer Nothing = nothing
take_answer (Void n) = void n
take_answer (Out n t o) = command n t (origin_of o)

-- ---- the state

-- The two arrays that are lent to a window: the headers and the tickets of its commands, slot by slot.
pub record Commands : Type 0 where
  pub headers : List ℕ
  pub tickets : List ℕ

abbrev pub commands : (headers tickets : List ℕ) → Commands
commands h t = record { headers = h; tickets = t }

pub record State : Type 0 where
  pub window : Window
  pub commands : Commands

abbrev pub state : Window → Commands → State
state w k = record { window = w; commands = k }

-- What the maps have for a place: held, void, and of connection c.
unfoldable pub held_bit : Place → ℕ
held_bit empty = 0
held_bit (holds e) = 1

unfoldable pub void_bit : Place → ℕ
void_bit empty = 0
void_bit (holds e) = one-if e.void

unfoldable pub origin_bit : ℕ → Place → ℕ
origin_bit c empty = 0
origin_bit c (holds e) = one-if (is_from c e.origin)

-- The bits of n are those that f has for the places.
unfoldable pub Maps : ℕ → (Place → ℕ) → List Place → Type 0
Maps n f l = (d : ℕ) → bit_at n d ≡ f (slice_index_or l d empty)

-- The slot j has the header and the ticket of a place.
unfoldable pub SlotHas : Commands → ℕ → Place → Type 0
SlotHas k j empty = Unit {0}
SlotHas k j (holds e) = (in_slot k.headers j ≡ e.header) × (slice_index k.tickets j ≡ e.ticket)

pub record Agrees (s : State) (b : Book) : Type 0 where
  pub next : s.window.next ≡ next b
  pub handed : s.window.handed ≡ min b.handed remembered
  pub share : b.share ≡ slots
  pub size : length b.held ≡ b.share
  pub headers_size : length s.commands.headers ≡ slots * header_size
  pub tickets_size : length s.commands.tickets ≡ slots
  pub origins_size : length s.window.origins ≡ connections
  pub held : Maps s.window.held held_bit b.held
  pub voided : Maps s.window.voided void_bit b.held
  pub origins : (c : ℕ) → Maps (slice_index s.window.origins c) (origin_bit c) b.held
  pub in_slots : (d : ℕ) → SlotHas s.commands (slot_of s.window d) (slice_index_or b.held d empty)

-- A fresh window: "keeps 64 headers of 48 bytes, all zero".
pub record IsFresh (first : ℕ) (r : FreshWindow) : Type 0 where
  pub agrees : Agrees (state r.window (commands r.headers r.tickets)) (fresh_book first places)
  pub zero_headers : r.headers ≡ replicate (slots * header_size) 0
  pub zero_tickets : r.tickets ≡ replicate slots 0

-- o is the origin of the command at a place.
unfoldable pub OriginAt : Origin → Place → Type 0
OriginAt o empty = Unit {0}
OriginAt o (holds e) = o ≡ e.origin

-- The window w' is w with a command of connection c held at the place d.
pub record Enters (w : Window) (d c : ℕ) (w' : Window) : Type 0 where
  pub next : w'.next ≡ w.next
  pub handed : w'.handed ≡ w.handed
  pub held : w'.held ≡ with_bit w.held d
  pub voided : w'.voided ≡ w.voided
  pub origins : w'.origins ≡ slice_set w.origins c (with_bit (slice_index w.origins c) d)

-- ---- what a call does

-- The step of the code, from s to s' with the answer a and the output o, is the book's.
pub record MeetsAt (call : Call) (s : State) (a : Answer) (o : List ℕ) (s' : State) (b : Book) : Type 0 where
  pub answer : a ≡ (book_step b call).answer
  pub bytes : o ≡ (book_step b call).bytes
  pub agrees : Agrees s' (book_step b call).book

abbrev pub Meets : Call → State → Answer → List ℕ → State → Type 0
Meets call s a o s' = (b : Book) → Agrees s b → MeetsAt call s a o s' b

-- The output that a call lends.
abbrev pub lent : Call → List ℕ
lent (offer n t c h) = []
lent (take o) = o
lent (logout c r) = []

-- How far a number lies from R on; all wraps at 2^32.
unfoldable pub ahead : Window → (number : ℕ) → ℕ
ahead w n = (n + (2 ^ 32 - w.next % 2 ^ 32)) % 2 ^ 32

-- A kept offer changes the slot of its place, and no other byte of the arrays.
unfoldable pub Puts : Window → (number ticket : ℕ) → (header : List ℕ) → Commands → Commands → Type 0
Puts w n t h k k' =
    (k'.headers ≡ paste k.headers (slot_of w (ahead w n) * header_size) h header_size)
    × (k'.tickets ≡ slice_set k.tickets (slot_of w (ahead w n)) t)

abbrev pub Keeps : Call → State → State → Type 0
Keeps (offer n t c h) s s' = Puts s.window n t h s.commands s'.commands
Keeps (take o) s s' = Unit {0}
Keeps (logout c r) s s' = Unit {0}

-- What an answer leaves as it was, of whatever state: an offer that is not kept, a take of nothing, and a refusal leave
-- all; a void hand-out leaves the output.
abbrev pub Stays : Call → Answer → State → State → List ℕ → List ℕ → Type 0
Stays call kept s s' l o = Keeps call s s'
Stays call duplicate s s' l o = s' ≡ s
Stays call passed s s' l o = s' ≡ s
Stays call beyond s s' l o = s' ≡ s
Stays call nothing s s' l o = (s' ≡ s) × (o ≡ l)
Stays call (command n t w) s s' l o = Unit {0}
Stays call (void n) s s' l o = o ≡ l
Stays call (logged_out e v) s s' l o = Unit {0}
Stays call (refused n) s s' l o = (s' ≡ s) × (o ≡ l)

-- The contract of a call; of any state the output keeps its length, and its bytes from 48 on.
pub record Did (call : Call) (s : State) (a : Answer) (o : List ℕ) (s' : State) : Type 0 where
  pub meets : Meets call s a o s'
  pub stays : Stays call a s s' (lent call) o
  pub out_size : length o ≡ length (lent call)
  pub out_rest : drop header_size o ≡ drop header_size (lent call)
