-- One login request, whole: its answer, the login's book after it, and every lent byte.
use Rattle.std.specs.Prelude.{ℕ, ◌+◌, Bool, true, false, not, ◌&&◌, ◌||◌, List, [], ◌∷◌, ◌++◌, length, take, drop, eqb, ltb}
use Rattle.request_header.specs.Request.{read_pdu, limits, data_of}
use Rattle.request_header.specs.Request as Read
use Rattle.request_header.specs.Kind.{if_login}
use Rattle.request_header.specs.declared.Login.{Login}
use Rattle.request_header.specs.declared.Request.{Request}
use Rattle.text.specs.Text.{pick, bytes}
use Rattle.text_block.specs.Block.{formed, pairs}
use Rattle.login_book.specs.Keys.{Keys, named}
use Rattle.login_book.specs.Book.{start, in_stage, permitted, Phase, at_start, begun, LoginBook}
use Rattle.login_book.specs.Block.{judge, Result, stopped, went}

-- ---- what a request is answered, and what it leaves

-- the first refusal's number, with the status that comes with 6 (0 with every other); or the stage after the request, T, CSG, NSG, TSIH and the text
pub data Answer : Type 0 where
  refused : ℕ → ℕ → Answer
  answered : ℕ → Bool → ℕ → ℕ → ℕ → List ℕ → Answer

-- the answer, the login after the request, and what the gather area and the text output hold then
pub record Outcome : Type 0 where
  pub book : LoginBook
  pub answer : Answer
  pub gather : List ℕ
  pub text : List ℕ

-- a refusal changes nothing
abbrev pub refuse : LoginBook → ℕ → List ℕ → List ℕ → Outcome
refuse b n g t = record { book = b; answer = refused n 0; gather = g; text = t }

-- but 6 ends that login
abbrev pub ended : LoginBook → LoginBook
ended b = record { over = true; phase = b.phase; judged = b.judged; keys = b.keys; gathered = b.gathered }

abbrev pub fail : LoginBook → ℕ → List ℕ → List ℕ → Outcome
fail b s g t = record { book = ended b; answer = refused 6 s; gather = g; text = t }

-- ---- the checks

-- ISID, TSIH or CID differ from those of the first request
abbrev pub differs : Phase → Login → Bool
differs at_start q = false
differs (begun stage isid tsih cid) q = (not (eqb q.isid isid) || not (eqb q.tsih tsih)) || not (eqb q.cid cid)

-- CSG is not the stage (at start: not 0 or 1)
abbrev pub strays : Phase → Login → Bool
strays at_start q = not (permitted start q.csg)
strays (begun stage isid tsih cid) q = not (eqb q.csg stage)

-- a rule that a request may break, and the status that refuses it then
pub record Check : Type 0 where
  pub broken : Bool
  pub status : ℕ

abbrev pub check : Bool → ℕ → Check
check b s = record { broken = b; status = s }

-- Checks in order, 0x0200 where no status is shown; for a request with n bytes of data, at the handle of the live session
abbrev pub checks : LoginBook → Login → ℕ → ℕ → List Check
checks b q n live =
    -- Version-min above 0
    check (ltb 0 q.version_min) 0x0205
    -- TSIH neither 0 nor the live session's handle that the caller gives
    ∷ check (not (eqb q.tsih 0) && not (eqb q.tsih live)) 0x020a
    -- ISID, TSIH or CID differing from the first request
    ∷ check (differs b.phase q) 0x0200
    -- C and T both set
    ∷ check (q.continues && q.transit) 0x0200
    -- CSG not the stage (at start: not 0 or 1)
    ∷ check (strays b.phase q) 0x0200
    -- T set and the step not permitted
    ∷ check (q.transit && not (permitted (in_stage q.csg) q.nsg)) 0x0200
    -- gathered text above 8,192 bytes
    ∷ check (ltb 8192 (b.gathered + n)) 0x0200
    ∷ []

-- the status of the first broken rule; 0 where none is broken
abbrev pub first_broken : List Check → ℕ
first_broken [] = 0
first_broken (c ∷ cs) = pick c.broken c.status (first_broken cs)

unfoldable pub status_of : LoginBook → Login → ℕ → ℕ → ℕ
status_of b q n live = first_broken (checks b q n live)

-- ---- gathering

-- d joined to the first n bytes of the area g; what is behind stays
abbrev pub joined : List ℕ → ℕ → List ℕ → List ℕ
joined g n d = (take n g ++ d) ++ drop (n + length d) g

-- With C set the text is gathered and the answer empty.
abbrev pub gather_step : LoginBook → Login → List ℕ → List ℕ → List ℕ → Outcome
gather_step b q d g t = record {
  book = record { over = false; phase = begun q.csg q.isid q.tsih q.cid; judged = b.judged; keys = b.keys; gathered = b.gathered + length d };
  answer = answered q.csg false q.csg 0 q.tsih [];
  gather = joined g b.gathered d;
  text = t;
}

-- ---- a judged block

-- The first judged block's answer starts with TargetPortalGroupTag=1.
unfoldable pub start_text : Bool → List ℕ
start_text judged = pick judged [] (bytes "TargetPortalGroupTag=1" ++ (0 ∷ []))

-- A leading login (TSIH 0) to full feature answers the caller's new handle; any other answer, the request's TSIH.
abbrev pub handle : Login → ℕ → ℕ
handle q new = pick ((eqb q.tsih 0 && q.transit) && eqb q.nsg 3) new q.tsih

-- With T set and no refusal the answer carries T and the same NSG, and the stage is NSG.
abbrev pub stage_after : Login → ℕ
stage_after q = pick q.transit q.nsg q.csg

-- After judging none counts as gathered.
abbrev pub judged_book : Login → Keys → LoginBook
judged_book q s = record { over = q.transit && eqb q.nsg 3; phase = begun (stage_after q) q.isid q.tsih q.cid; judged = true; keys = s; gathered = 0 }

-- the answer on a block, the login after it and what the text output holds then; bytes after the answer's text stay
pub record Texted : Type 0 where
  pub book : LoginBook
  pub answer : Answer
  pub text : List ℕ

abbrev pub accept : Login → ℕ → Keys → List ℕ → List ℕ → Texted
accept q new s a t = record {
  book = judged_book q s;
  answer = answered (stage_after q) q.transit q.csg (pick q.transit q.nsg 0) (handle q new) a;
  text = a ++ drop (length a) t;
}

abbrev pub fail_text : LoginBook → ℕ → List ℕ → Texted
fail_text b s t = record { book = ended b; answer = refused 6 s; text = t }

-- if the first judged block lacks either name it is 0x0207, after its pairs
abbrev pub finish : LoginBook → Login → ℕ → List ℕ → Result → Texted
finish b q new t (stopped s) = fail_text b s t
finish b q new t (went s a) = pick (not b.judged && not (named s)) (fail_text b 0x0207 t) (accept q new s a t)

-- A breach of the block's form is 0x0200 before a pair is judged.
unfoldable pub text_step : LoginBook → Login → ℕ → List ℕ → List ℕ → List ℕ → Texted
text_step b q new ours x t =
    pick (formed 64 x) (finish b q new t (judge q.csg (eqb q.tsih 0) ours b.keys (start_text b.judged) (pairs 64 x)))
    (fail_text b 0x0200 t)

-- the gather area is g where the block is refused, and h where it is answered
abbrev pub gather_after : Answer → List ℕ → List ℕ → List ℕ
gather_after (refused n s) g h = g
gather_after (answered stage transit csg nsg tsih text) g h = h

abbrev pub with_gather : List ℕ → List ℕ → Texted → Outcome
with_gather g h x = record { book = x.book; answer = x.answer; gather = gather_after x.answer g h; text = x.text }

-- Text without C after gathered bytes joins them.
unfoldable pub judge_step : LoginBook → Login → ℕ → List ℕ → List ℕ → List ℕ → List ℕ → Outcome
judge_step b q new ours d g t =
    pick (eqb b.gathered 0) (with_gather g g (text_step b q new ours d t))
    (with_gather g (joined g b.gathered d) (text_step b q new ours (take b.gathered g ++ d) t))

-- ---- a request

-- a Login with data d: FIELD for a lent new handle 0, the checks, then C or the block
unfoldable pub request_step : LoginBook → Login → List ℕ → ℕ → ℕ → List ℕ → List ℕ → List ℕ → Outcome
request_step b q d live new ours g t =
    pick (eqb new 0) (refuse b 3 g t)
    (pick (not (eqb (status_of b q (length d) live) 0)) (fail b (status_of b q (length d) live) g t)
    (pick q.continues (gather_step b q d g t)
    (judge_step b q new ours d g t)))

-- FIELD for a PDU that is no Login
abbrev pub kind_step : Request → LoginBook → List ℕ → ℕ → ℕ → List ℕ → List ℕ → List ℕ → Outcome
kind_step r b d live new ours g t = if_login (λ q. request_step b q d live new ours g t) (refuse b 3 g t) r

-- reading's refusals
abbrev pub read_step : Read.Answer → LoginBook → List ℕ → ℕ → ℕ → List ℕ → List ℕ → List ℕ → Outcome
read_step (Read.refused n) b pdu live new ours g t = refuse b n g t
read_step (Read.got p) b pdu live new ours g t = kind_step p.request b (data_of pdu p) live new ours g t

-- The whole: BUFFER for a gather area or a text output under 8,192 bytes, CLOSED for a login that is over, reading's refusals, and the rest.
-- Given are the PDU, the live session's handle (0 for no session), the new handle, our target name, and what the gather area and the text output hold.
unfoldable pub login_step : LoginBook → List ℕ → ℕ → ℕ → List ℕ → List ℕ → List ℕ → Outcome
login_step b pdu live new ours g t =
    pick (ltb (length g) 8192) (refuse b 1 g t)
    (pick (ltb (length t) 8192) (refuse b 1 g t)
    (pick b.over (refuse b 8 g t)
    (read_step (read_pdu limits pdu) b pdu live new ours g t)))
