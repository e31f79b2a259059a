-- Which rule refuses a request, each with all the rules before it kept, in the order of paper 01; and when none does. Stated beside the definitions
-- of Login, which are not used here.
use Rattle.std.specs.Prelude.{ℕ, ◌+◌, ◌<◌, ◌≤◌, Bool, true, false, ◌≡◌, List, [], ◌∷◌, ◌++◌, ◌⊎◌, length, take, drop, eqb, Err}
use Rattle.request_header.specs.declared.Login.{Login}
use Rattle.text.specs.Text.{pick, bytes}
use Rattle.text_block.specs.Block.{Pair, formed, pairs}
use Rattle.login_book.specs.Keys.{named}
use Rattle.login_book.specs.Book.{Stage, start, in_stage, at_start, begun, LoginBook}
use Rattle.login_book.specs.Block.{judge_pair}
use Rattle.login_book.specs.Login.{Answer, refused, answered}
use Rattle.login_book.specs.Events.{Call, a_login, unread, read_as, unrefused, keys_after, replies, block_of}

-- ---- the checks

-- Permitted steps: start to security 0 or operational 1; 0 to 1 or full feature 3; 1 to 3.
pub data Permitted : Stage → ℕ → Type 0 where
  start_security : Permitted start 0
  start_operational : Permitted start 1
  security_operational : Permitted (in_stage 0) 1
  security_full : Permitted (in_stage 0) 3
  operational_full : Permitted (in_stage 1) 3

-- the Login q with n bytes of data breaks a check on the login b, at the live session's handle: the check's place in their order, and its status
pub data Breaks (b : LoginBook) (q : Login) (n live : ℕ) : ℕ → ℕ → Type 0 where
  -- Version-min above 0
  version : 0 < q.version_min → Breaks b q n live 0 0x0205
  -- TSIH neither 0 nor the live session's handle
  session : (q.tsih ≡ 0 → ⊥) → (q.tsih ≡ live → ⊥) → Breaks b q n live 1 0x020a
  -- ISID, TSIH or CID differing from the first request
  other_first : (stage isid tsih cid : ℕ) → b.phase ≡ begun stage isid tsih cid → ((q.isid ≡ isid) × (q.tsih ≡ tsih) × (q.cid ≡ cid) → ⊥)
      → Breaks b q n live 2 0x0200
  -- C and T both set
  both_set : q.continues ≡ true → q.transit ≡ true → Breaks b q n live 3 0x0200
  -- CSG not the stage (at start: not 0 or 1)
  other_start : b.phase ≡ at_start → (Permitted start q.csg → ⊥) → Breaks b q n live 4 0x0200
  other_stage : (stage isid tsih cid : ℕ) → b.phase ≡ begun stage isid tsih cid → (q.csg ≡ stage → ⊥) → Breaks b q n live 4 0x0200
  -- T set and the step not permitted
  no_step : q.transit ≡ true → (Permitted (in_stage q.csg) q.nsg → ⊥) → Breaks b q n live 5 0x0200
  -- gathered text above 8,192 bytes
  too_long : 8192 < b.gathered + n → Breaks b q n live 6 0x0200

-- ---- how far a request comes

-- the lent areas have 8,192 bytes or more
pub record Lent (c : Call) : Type 0 where
  pub gather : 8192 ≤ length c.gather
  pub text : 8192 ≤ length c.text

-- as far as the checks: the areas are long enough, the login b is not over, the PDU is read as the Login q with data d, the new handle is not 0
pub record Reaches (b : LoginBook) (c : Call) (q : Login) (d : List ℕ) : Type 0 where
  pub lent : Lent c
  pub going : b.over ≡ false
  pub reads : read_as c.pdu ≡ a_login q d
  pub handle : c.new ≡ 0 → ⊥

-- past the checks
pub record Passes (b : LoginBook) (c : Call) (q : Login) (d : List ℕ) : Type 0 where
  pub reaches : Reaches b c q d
  pub kept : (place status : ℕ) → Breaks b q (length d) c.live place status → ⊥

-- the block that a request without C has judged
abbrev pub block : LoginBook → Call → List ℕ → List ℕ
block b c d = block_of b.gathered d c.gather

-- past the block's form, without C
pub record Formed (b : LoginBook) (c : Call) (q : Login) (d : List ℕ) : Type 0 where
  pub passes : Passes b c q d
  pub whole : q.continues ≡ false
  pub formed : formed 64 (block b c d) ≡ true

-- past the pairs: none is refused
pub record Unrefused (b : LoginBook) (c : Call) (q : Login) (d : List ℕ) : Type 0 where
  pub formed : Formed b c q d
  pub none_refused : unrefused q.csg (eqb q.tsih 0) c.ours b.keys (pairs 64 (block b c d)) ≡ true

-- the first judged block has both names; a later one needs none
abbrev pub Named : LoginBook → Call → Login → List ℕ → Type 0
Named b c q d = b.judged ≡ false → named (keys_after q.csg (eqb q.tsih 0) c.ours b.keys (pairs 64 (block b c d))) ≡ true

-- ---- what refuses

-- a rule refuses the request c on the login b: the answer's number, and the status (0 but with 6)
pub data Refuses (b : LoginBook) (c : Call) : ℕ → ℕ → Type 0 where
  -- BUFFER: a lent area is shorter than 8,192 bytes
  buffer : (length c.gather < 8192) ⊎ (length c.text < 8192) → Refuses b c 1 0
  -- CLOSED: the login is over
  closed : Lent c → b.over ≡ true → Refuses b c 8 0
  -- reading's refusals, and FIELD for a PDU that is no Login
  unreadable : (n : ℕ) → Lent c → b.over ≡ false → read_as c.pdu ≡ unread n → Refuses b c n 0
  -- FIELD for a lent new handle 0
  no_handle : (q : Login) (d : List ℕ) → Lent c → b.over ≡ false → read_as c.pdu ≡ a_login q d → c.new ≡ 0 → Refuses b c 3 0
  -- a check is broken, and none before it
  check_broken : (q : Login) (d : List ℕ) → Reaches b c q d → (place status : ℕ) → Breaks b q (length d) c.live place status
      → ((earlier s : ℕ) → earlier < place → Breaks b q (length d) c.live earlier s → ⊥) → Refuses b c 6 status
  -- the block has not the form of a block
  form_broken : (q : Login) (d : List ℕ) → Passes b c q d → q.continues ≡ false → formed 64 (block b c d) ≡ false → Refuses b c 6 0x0200
  -- a pair is refused, and none before it
  pair_refused : (q : Login) (d : List ℕ) → Formed b c q d → (before : List Pair) (p : Pair) (later : List Pair) (status : ℕ)
      → pairs 64 (block b c d) ≡ before ++ (p ∷ later) → unrefused q.csg (eqb q.tsih 0) c.ours b.keys before ≡ true
      → judge_pair q.csg (eqb q.tsih 0) c.ours (keys_after q.csg (eqb q.tsih 0) c.ours b.keys before) p ≡ Err status
      → Refuses b c 6 status
  -- the first judged block lacks a name, after its pairs
  names_lacking : (q : Login) (d : List ℕ) → Unrefused b c q d → b.judged ≡ false
      → named (keys_after q.csg (eqb q.tsih 0) c.ours b.keys (pairs 64 (block b c d))) ≡ false → Refuses b c 6 0x0207

-- ---- what is answered

-- no rule refuses the request c on the login b
pub data Accepts (b : LoginBook) (c : Call) : Type 0 where
  -- with C set, past the checks
  gathers : (q : Login) (d : List ℕ) → Passes b c q d → q.continues ≡ true → Accepts b c
  -- without C, past the block too
  judges : (q : Login) (d : List ℕ) → Unrefused b c q d → Named b c q d → Accepts b c

-- what a Login q with data d is answered
pub record AnswerFields (b : LoginBook) (c : Call) (q : Login) (d : List ℕ) (stage : ℕ) (transit : Bool) (csg nsg tsih : ℕ) (text : List ℕ) : Type 0 where
  -- CSG as in the request
  pub same_csg : csg ≡ q.csg
  -- with T set the answer carries T and the same NSG, and the stage is NSG
  pub same_transit : transit ≡ q.transit
  pub same_nsg : q.transit ≡ true → nsg ≡ q.nsg
  pub no_nsg : q.transit ≡ false → nsg ≡ 0
  pub moves : q.transit ≡ true → stage ≡ q.nsg
  -- a first request makes its CSG the stage, and of a later one it is the stage
  pub stays : q.transit ≡ false → stage ≡ q.csg
  -- a leading login (TSIH 0) to full feature answers the caller's new handle; any other answer, the request's TSIH
  pub new_handle : q.tsih ≡ 0 → q.transit ≡ true → q.nsg ≡ 3 → tsih ≡ c.new
  pub own_handle : ((q.tsih ≡ 0) × (q.transit ≡ true) × (q.nsg ≡ 3) → ⊥) → tsih ≡ q.tsih
  -- with C set the answer is empty
  pub no_text : q.continues ≡ true → text ≡ []
  -- the answers to the pairs; the first judged block's start with TargetPortalGroupTag=1
  pub replied : q.continues ≡ false
      → text
      ≡ pick b.judged [] (bytes "TargetPortalGroupTag=1" ++ (0 ∷ [])) ++ replies q.csg (eqb q.tsih 0) c.ours b.keys (pairs 64 (block b c d))

abbrev pub HasFields : LoginBook → Call → Login → List ℕ → Answer → Type 0
HasFields b c q d (refused n s) = Unit {0}
HasFields b c q d (answered stage transit csg nsg tsih text) = AnswerFields b c q d stage transit csg nsg tsih text

-- the gather area g after the answer: text with C, or after gathered bytes, joins them, and what is behind stays; else all of it stays
pub record Gathers (b : LoginBook) (c : Call) (q : Login) (d g : List ℕ) : Type 0 where
  pub joins : (q.continues ≡ true) ⊎ (b.gathered ≡ 0 → ⊥) → g ≡ (take b.gathered c.gather ++ d) ++ drop (b.gathered + length d) c.gather
  pub stays : q.continues ≡ false → b.gathered ≡ 0 → g ≡ c.gather
