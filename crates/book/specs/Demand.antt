-- Demand 3 in the buyer's words, sentence by sentence, of a list of calls and answers from a fresh session. Its notions are those of
-- Commands and Statuses: they are read off the list, and no book is named. The theorem that gives it, for every list of calls of
-- the functions themselves, is `demand3` in session/proofs/Tied; that "every answer is that of document 01's book" is `booked`
-- there.
use Rattle.std.specs.Prelude.{ℕ, ◌+◌, ◌%◌, ◌^◌, ◌<◌, ◌≤◌, ◌≡◌, Bool, true, false, not, List, [], ◌∷◌, ◌++◌, ◌↔◌, ◌⊎◌, length, get_or, drop}
use Rattle.field.specs.Field.{byte, bit, bytes_of}
use Rattle.store.specs.Slot.{header_size}
use Rattle.window.specs.Book as W
use Rattle.ledger.specs.Book.{Status, missing, found}
use Rattle.task_book.specs.Record.{Record}
use Rattle.task_book.specs.Steps.{exp_data_sn_of}
use Rattle.book.specs.declared.Given.{Given}
use Rattle.book.specs.Book.{connections, cmd_sn_of, Outputs, offer, take, resend, ask, window_numbers, next_stat_sn, holder}
use Rattle.book.specs.Book.{Answer, refused, window, resent, told, numbers, next_is, holding}
use Rattle.book.specs.Events.{Event}
use Rattle.book.specs.Effects.{WindowEffect, hands_out, window_effect, ConnectionEffect, Past, nothing_done, and_then}
use Rattle.book.specs.Commands.{hand_outs, next, among_next, among_last, Latest, by, latest_offer, origin_of, held, exp_cmd_sn_of, max_cmd_sn_of, voided_since, kept_offers, emptied, held_now}
use Rattle.book.specs.Statuses.{is_open_at, last_sent, acknowledged_since, next_number}

-- In all that follows: g is what the session was given, past what was done before the call (to the window, where only that is spoken
-- of), and e the call with its answer and its lent outputs after it.

-- "Hand-out k, counting from zero, bears the first number plus k, modulo 2^32."
abbrev pub Numbered : Given → (past : List WindowEffect) → Event → Type 0
Numbered g past e = (n : ℕ) → window_effect e ≡ hands_out n → n ≡ (g.first + hand_outs past) % 2 ^ 32

-- "A take, not refused, hands out exactly when the next number is held: the header and ticket of its latest kept offer, or
-- void exactly when a logout voided it since." Of an output of 48 bytes or more, out, and after the call out'.
pub record Takes (g : Given) (past : List WindowEffect) (out : List ℕ) (a : Answer) (out' : List ℕ) : Type 0 where
  -- the next number is not held: nothing
  pub nothing : held g past (next g past) ≡ false → (a ≡ window W.nothing) × (out' ≡ out)
  -- it is held, and a logout voided it since: void
  pub void : held g past (next g past) ≡ true → voided_since g past (next g past) ≡ true → (a ≡ window (W.void (next g past))) × (out' ≡ out)
  -- it is held, and none did: the ticket and the header of its latest kept offer, and the origin that it still has
  pub command : held g past (next g past) ≡ true → voided_since g past (next g past) ≡ false → (c t : ℕ) (h : List ℕ)
      → latest_offer past (next g past) ≡ by c t h → (a ≡ window (W.command (next g past) t (origin_of past (next g past)))) × (out' ≡ h ++ drop header_size out)
  -- a number that is held has a latest kept offer
  pub offered : held g past (next g past) ≡ true → latest_offer past (next g past) ≡ Latest.none → ⊥

-- "A numbered offer, not refused, is kept exactly when among the next 64 to hand out and not held, "duplicate" exactly when
-- held, "passed" exactly when among the last 2^31 handed out." Of its number n; else it is beyond.
pub record Offers (g : Given) (past : List WindowEffect) (n : ℕ) (a : Answer) : Type 0 where
  pub kept : (a ≡ window W.kept) ↔ ((among_next g past n ≡ true) × (held g past n ≡ false))
  pub duplicate : (a ≡ window W.duplicate) ↔ (held g past n ≡ true)
  pub passed : (a ≡ window W.passed) ↔ (among_last (2 ^ 31) past n ≡ true)
  pub beyond : (a ≡ window W.beyond) ↔ ((among_next g past n ≡ false) × (among_last (2 ^ 31) past n ≡ false))

-- "a resend is refused exactly when no status was sent under its number in that time, or the last one was acknowledged since;
-- otherwise it shows that last one, but for the two current window numbers", and of a SCSI Response (0x21) what it takes of the record x that is
-- given: its ExpDataSN, by the response code that was sent, "and the tag of a type 3 SNACK since".
pub record Shows (g : Given) (past : List WindowEffect) (x : Record) (s : Status) (out : List ℕ) (a : Answer) (out' : List ℕ) : Type 0 where
  pub ticket : a ≡ resent s.ticket
  pub size : length out' ≡ length out
  -- the header as it was sent, but for bytes 28 to 35
  pub header : (byte s.header 0 ≡ 0x21 → ⊥) → (i : ℕ) → (i < 28) ⊎ (36 ≤ i) → i < header_size → get_or out' i 0 ≡ get_or s.header i 0
  -- a SCSI Response "may differ in bytes 20 to 23 and 28 to 39"
  pub scsi_response : (i : ℕ) → (i < 20) ⊎ (((24 ≤ i) × (i < 28)) ⊎ (40 ≤ i)) → i < header_size → get_or out' i 0 ≡ get_or s.header i 0
  -- its bytes 36 to 39 are the record's ExpDataSN; 20 to 23 the record's SNACK tag, or where that is 0, as they were sent
  pub exp_data_sn : byte s.header 0 ≡ 0x21 → (i : ℕ) → i < 4 → get_or out' (36 + i) 0 ≡ get_or (bytes_of 4 (exp_data_sn_of x.numbering (byte s.header 2))) i 0
  pub snack_tag : byte s.header 0 ≡ 0x21 → (x.numbering.snack_tag ≡ 0 → ⊥) → (i : ℕ) → i < 4
      → get_or out' (20 + i) 0 ≡ get_or (bytes_of 4 x.numbering.snack_tag) i 0
  pub sent_tag : x.numbering.snack_tag ≡ 0 → (i : ℕ) → i < 4 → get_or out' (20 + i) 0 ≡ get_or s.header (20 + i) 0
  -- bytes 28 to 31 are the current ExpCmdSN, 32 to 35 the current MaxCmdSN
  pub exp_cmd_sn : (i : ℕ) → i < 4 → get_or out' (28 + i) 0 ≡ get_or (bytes_of 4 (exp_cmd_sn_of g past)) i 0
  pub max_cmd_sn : (i : ℕ) → i < 4 → get_or out' (32 + i) 0 ≡ get_or (bytes_of 4 (max_cmd_sn_of g past)) i 0
  -- later bytes stay
  pub later : (i : ℕ) → header_size ≤ i → get_or out' i 0 ≡ get_or out i 0

pub record Resends (g : Given) (past : Past) (c n : ℕ) (x : Record) (out : List ℕ) (a : Answer) (out' : List ℕ) : Type 0 where
  pub refused : (last_sent past.connections c n ≡ missing) ⊎ (acknowledged_since past.connections c n ≡ true) → (a ≡ refused 12) × (out' ≡ out)
  pub shows : (s : Status) → last_sent past.connections c n ≡ found s → acknowledged_since past.connections c n ≡ false → Shows g past.window x s out a out'

-- Who holds the number n: nobody exactly when it is not held, void exactly when a logout voided it since; otherwise the ticket of its latest
-- kept offer, and the origin that it still has.
pub record Holds (g : Given) (past : List WindowEffect) (n : ℕ) (a : Answer) : Type 0 where
  pub free : (a ≡ told (holding W.free)) ↔ (held g past n ≡ false)
  pub void : (a ≡ told (holding W.heldVoid)) ↔ ((held g past n ≡ true) × (voided_since g past n ≡ true))
  pub by : held g past n ≡ true → voided_since g past n ≡ false → (c t : ℕ) (h : List ℕ)
      → latest_offer past n ≡ by c t h → a ≡ told (holding (W.held_by t (origin_of past n)))
  -- a number that is held has a latest kept offer
  pub offered : held g past n ≡ true → latest_offer past n ≡ Latest.none → ⊥

-- The next StatSN of the connection c: refused as NOCONN exactly when c is 4 or more, else as CLOSED exactly when c is not open. It is told exactly
-- when c is open: the StatSN that c was given at its latest opening, plus one for each status sent on c since, modulo 2^32.
pub record TellsNext (g : Given) (past : List ConnectionEffect) (c : ℕ) (a : Answer) : Type 0 where
  pub no_connection : (a ≡ refused 7) ↔ (connections ≤ c)
  pub closed : (a ≡ refused 8) ↔ ((c < connections) × (is_open_at past c ≡ false))
  pub next : (a ≡ told (next_is (next_number g past c))) ↔ (is_open_at past c ≡ true)

-- The answer is no refusal.
abbrev pub NotRefused : Answer → Type 0
NotRefused a = (n : ℕ) → a ≡ refused n → ⊥

-- "I set is immediate .. Else it is numbered": bit 0x40 of an offered PDU's first byte is clear.
unfoldable pub is_numbered_pdu : (pdu : List ℕ) → Bool
is_numbered_pdu pdu = not (bit (byte pdu 0) 64)

pub record Sentences (g : Given) (past : Past) (e : Event) : Type 0 where
  -- "Hand-out k .. bears the first number plus k, modulo 2^32."
  pub numbered : Numbered g past.window e
  -- "A take, not refused, hands out exactly when the next number is held: .." It is refused exactly where its output is short.
  pub takes : (out : Outputs) → e.call ≡ take out → header_size ≤ length out.header → Takes g past.window out.header e.answer e.out.header
  pub short_takes : (out : Outputs) → e.call ≡ take out → length out.header < header_size → (e.answer ≡ refused 1) × (e.out ≡ out)
  -- "A numbered offer, not refused, is kept exactly when .."
  pub offers : (c t : ℕ) (pdu : List ℕ) → e.call ≡ offer c t pdu → is_numbered_pdu pdu ≡ true → NotRefused e.answer → Offers g past.window (cmd_sn_of pdu) e.answer
  -- "Kept offers = handed out + held + emptied by logouts." After the call; what is held is among the next 64.
  pub balance : kept_offers (window_effect e ∷ past.window) ≡ hand_outs (window_effect e ∷ past.window) + held_now g (window_effect e ∷ past.window) + emptied (window_effect e ∷ past.window)
  pub within : (n : ℕ) → held g (window_effect e ∷ past.window) n ≡ true → among_next g (window_effect e ∷ past.window) n ≡ true
  -- "On each open connection since its latest opening, at ErrorRecoveryLevel above 0 and with 48 bytes lent, a resend is ..".
  pub resends : (c n : ℕ) (x : Record) (out : Outputs) → e.call ≡ resend c n x out → is_open_at past.connections c ≡ true → 0 < g.level
      → header_size ≤ length out.header → Resends g past c n x out.header e.answer e.out.header
  -- the window's two numbers, the next StatSN of a connection, and who holds a number, where they are asked for
  pub window_numbers : e.call ≡ ask window_numbers → e.answer ≡ told (numbers (exp_cmd_sn_of g past.window) (max_cmd_sn_of g past.window))
  pub next_stat_sn : (c : ℕ) → e.call ≡ ask (next_stat_sn c) → TellsNext g past.connections c e.answer
  pub holds : (n : ℕ) → e.call ≡ ask (holder n) → Holds g past.window n e.answer

-- What holds of each event of a list, in the order of the calls, with what was done before it.
unfoldable pub Each : (Past → Event → Type 0) → Past → List Event → Type 0
Each P past [] = Unit {0}
Each P past (e ∷ es) = P past e × Each P (and_then past e) es

-- Demand 3 of the events of a session that was given g: the sentences hold of each.
abbrev pub Demand3 : Given → List Event → Type 0
Demand3 g es = Each (Sentences g) nothing_done es
