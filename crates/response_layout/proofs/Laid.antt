-- A header from whole numbers: each kind's 48 bytes in six groups of eight, and the six stores that write them.
use mathlib.Core.Path.{◌≡◌, refl, sym, ap, subst, ◌∙◌}
use mathlib.Core.List.{List, [], ◌∷◌, ◌++◌, append_assoc}
use Prim.Native.Nat.{ℕ, ◌+◌, ◌*◌, ◌≤◌}
use native.Mathlib.Omega.{arith}
use lib.ListN.{length, drop, length-append}
use lib.Seq.{sets, paste, take_all}
use Rattle.field.specs.Field.{bytes_of}
use Rattle.field.proofs.Laws.{length-bytes, sets-append, paste-sets}
use Rattle.response_header.specs.Response.{kind_fields, header_bytes, weigh}
use Rattle.response_layout.specs.WholeNumbers.{stat_sn_of, own_bytes}
use Rattle.response_header.specs.declared.NopIn.{NopIn}
use Rattle.response_header.specs.declared.ScsiResponse.{ScsiResponse}
use Rattle.response_header.specs.declared.TaskManagementResponse.{TaskManagementResponse}
use Rattle.response_header.specs.declared.LoginResponse.{LoginResponse}
use Rattle.response_header.specs.declared.DataIn.{DataIn}
use Rattle.response_header.specs.declared.LogoutResponse.{LogoutResponse}
use Rattle.response_header.specs.declared.R2t.{R2t}
use Rattle.response_header.specs.declared.Reject.{Reject}
use Rattle.response_header.specs.declared.Numbers.{Numbers}
use Rattle.response_layout.specs.declared.OwnFields.{OwnFields}
use Rattle.response_header.specs.declared.Response.TheVariants as R

-- four single bytes
abbrev pub bytes4 : ℕ → ℕ → ℕ → ℕ → List ℕ
bytes4 a b c d = bytes_of 1 a ++ (bytes_of 1 b ++ (bytes_of 1 c ++ bytes_of 1 d))

-- a data length, after TotalAHSLength 0
abbrev pub length4 : ℕ → List ℕ
length4 n = bytes_of 1 0 ++ bytes_of 3 n

-- the groups of a header, the three numbers among them
abbrev pub laid : (a b c d e : List ℕ) → Numbers → List ℕ
laid a b c d e n = a ++ (b ++ (c ++ (bytes_of 4 n.stat_sn ++ (bytes_of 4 n.exp_cmd_sn ++ (bytes_of 4 n.max_cmd_sn ++ (d ++ e))))))

pub nop-in-laid : (x : NopIn) (n : Numbers) → header_bytes (R.NopIn x) n
    ≡ laid (bytes4 0x20 0x80 0 0 ++ length4 x.data_segment_length) (bytes_of 8 x.lun)
    (bytes_of 4 x.initiator_task_tag ++ bytes_of 4 x.target_transfer_tag) (bytes_of 4 0) (bytes_of 8 0) n
unfolding header_bytes kind_fields bytes_of
nop-in-laid x n = refl

pub scsi-response-laid : (x : ScsiResponse) (n : Numbers) → header_bytes (R.ScsiResponse x) n
    ≡ laid
    (bytes4 0x21 (0x80 + weigh x.overflow 0x04 + weigh x.underflow 0x02) x.response x.status ++ length4 x.data_segment_length)
    (bytes_of 8 0) (bytes_of 4 x.initiator_task_tag ++ bytes_of 4 x.snack_tag) (bytes_of 4 x.exp_data_sn)
    (bytes_of 4 0 ++ bytes_of 4 x.residual_count) n
unfolding header_bytes kind_fields bytes_of
scsi-response-laid x n = refl

pub task-management-response-laid : (x : TaskManagementResponse) (n : Numbers) → header_bytes (R.TaskManagementResponse x) n
    ≡ laid (bytes4 0x22 0x80 x.response 0 ++ bytes_of 4 0) (bytes_of 8 0) (bytes_of 4 x.initiator_task_tag ++ bytes_of 4 0) (bytes_of 4 0) (bytes_of 8 0) n
unfolding header_bytes kind_fields bytes_of
task-management-response-laid x n = refl

pub login-response-laid : (x : LoginResponse) (n : Numbers) → header_bytes (R.LoginResponse x) n
    ≡ laid (bytes4 0x23 (weigh x.transit 0x80 + x.csg * 4 + x.nsg) 0 0 ++ length4 x.data_segment_length)
    (bytes_of 6 x.isid ++ bytes_of 2 x.tsih) (bytes_of 4 x.initiator_task_tag ++ bytes_of 4 0)
    (bytes4 x.status_class x.status_detail 0 0) (bytes_of 8 0) n
unfolding header_bytes kind_fields bytes_of
login-response-laid x n = refl

-- Data-In's StatSN is 0, whatever number is given
pub data-in-laid : (x : DataIn) (n : Numbers) → header_bytes (R.DataIn x) n
    ≡ laid (bytes4 0x25 (weigh x.is_final 0x80 + weigh x.acknowledge 0x40) 0 0 ++ length4 x.data_segment_length) (bytes_of 8 x.lun)
    (bytes_of 4 x.initiator_task_tag ++ bytes_of 4 x.target_transfer_tag) (bytes_of 4 x.data_sn)
    (bytes_of 4 x.buffer_offset ++ bytes_of 4 0) (record { stat_sn = 0; exp_cmd_sn = n.exp_cmd_sn; max_cmd_sn = n.max_cmd_sn })
unfolding header_bytes kind_fields bytes_of
data-in-laid x n = refl

pub logout-response-laid : (x : LogoutResponse) (n : Numbers) → header_bytes (R.LogoutResponse x) n
    ≡ laid (bytes4 0x26 0x80 x.response 0 ++ bytes_of 4 0) (bytes_of 8 0) (bytes_of 4 x.initiator_task_tag ++ bytes_of 4 0) (bytes_of 4 0)
    ((bytes_of 2 x.time2wait ++ bytes_of 2 x.time2retain) ++ bytes_of 4 0) n
unfolding header_bytes kind_fields bytes_of
logout-response-laid x n = refl

pub r2t-laid : (x : R2t) (n : Numbers) → header_bytes (R.R2t x) n
    ≡ laid (bytes4 0x31 0x80 0 0 ++ bytes_of 4 0) (bytes_of 8 x.lun) (bytes_of 4 x.initiator_task_tag ++ bytes_of 4 x.target_transfer_tag)
    (bytes_of 4 x.r2t_sn) (bytes_of 4 x.buffer_offset ++ bytes_of 4 x.desired_data_transfer_length) n
unfolding header_bytes kind_fields bytes_of
r2t-laid x n = refl

pub reject-laid : (x : Reject) (n : Numbers) → header_bytes (R.Reject x) n
    ≡ laid (bytes4 0x3f 0x80 x.reason 0 ++ bytes_of 4 48) (bytes_of 8 0) (bytes_of 4 0xffffffff ++ bytes_of 4 0) (bytes_of 4 0) (bytes_of 8 0) n
unfolding header_bytes kind_fields bytes_of
reject-laid x n = refl

-- ---- writing

-- one more group of eight after i bytes
step : (l : List ℕ) (at i v : ℕ) (p : List ℕ) → length p ≡ i → sets (sets l at p) (at + i) (bytes_of 8 v) ≡ sets l at (p ++ bytes_of 8 v)
step l at i v p e = rw (← e) (sets-append l at p (bytes_of 8 v))

longer : (p : List ℕ) (i v : ℕ) → length p ≡ i → length (p ++ bytes_of 8 v) ≡ i + 8
longer p i v e = length-append p (bytes_of 8 v) ∙ ap (λ (k : ℕ). k + length (bytes_of 8 v)) e ∙ ap (λ (k : ℕ). i + k) (length-bytes 8 v)

-- six groups, one after the other
six : (l : List ℕ) (at a b c d e f : ℕ)
    → sets
    (sets (sets (sets (sets (sets l at (bytes_of 8 a)) (at + 8) (bytes_of 8 b)) (at + 16) (bytes_of 8 c)) (at + 24) (bytes_of 8 d)) (at + 32) (bytes_of 8 e))
    (at + 40) (bytes_of 8 f)
    ≡ sets l at (((((bytes_of 8 a ++ bytes_of 8 b) ++ bytes_of 8 c) ++ bytes_of 8 d) ++ bytes_of 8 e) ++ bytes_of 8 f)
six l at a b c d e f =
    let p1 = bytes_of 8 a in
    let e1 = length-bytes 8 a in
    let p2 = p1 ++ bytes_of 8 b in
    let e2 = longer p1 8 b e1 in
    let p3 = p2 ++ bytes_of 8 c in
    let e3 = longer p2 16 c e2 in
    let p4 = p3 ++ bytes_of 8 d in
    let e4 = longer p3 24 d e3 in
    let p5 = p4 ++ bytes_of 8 e in
    let e5 = longer p4 32 e e4 in
    rw (step l at 8 b p1 e1, step l at 16 c p2 e2, step l at 24 d p3 e3, step l at 32 e p4 e4) (step l at 40 f p5 e5)

-- the groups are the header of these numbers
grouped : (o : OwnFields) (n : Numbers) (d e : ℕ) → bytes_of 8 d ≡ bytes_of 4 (stat_sn_of o n) ++ bytes_of 4 n.exp_cmd_sn → bytes_of 8 e
    ≡ bytes_of 4 n.max_cmd_sn ++ bytes_of 4 o.at_36
    → ((((bytes_of 8 o.at_0 ++ bytes_of 8 o.at_8) ++ bytes_of 8 o.at_16) ++ bytes_of 8 d) ++ bytes_of 8 e) ++ bytes_of 8 o.at_40
    ≡ own_bytes o n
unfolding own_bytes
grouped o n d e p q = rw (p, q) (simp append_assoc refl)

pub length-own : (o : OwnFields) (n : Numbers) → length (own_bytes o n) ≡ 48
unfolding own_bytes
length-own o n = simp (length-append, length-bytes) refl

-- six stores write a header
pub placed : (l : List ℕ) (at : ℕ) (o : OwnFields) (n : Numbers) (d e : ℕ) → at + 48 ≤ length l
    → bytes_of 8 d ≡ bytes_of 4 (stat_sn_of o n) ++ bytes_of 4 n.exp_cmd_sn → bytes_of 8 e ≡ bytes_of 4 n.max_cmd_sn ++ bytes_of 4 o.at_36
    → sets
    (sets (sets (sets (sets (sets l at (bytes_of 8 o.at_0)) (at + 8) (bytes_of 8 o.at_8)) (at + 16) (bytes_of 8 o.at_16))
    (at + 24) (bytes_of 8 d)) (at + 32) (bytes_of 8 e))
    (at + 40) (bytes_of 8 o.at_40)
    ≡ paste l at (own_bytes o n) 48
placed l at o n d e h p q =
    six l at o.at_0 o.at_8 o.at_16 d e o.at_40
    ∙ ap (λ (r : List ℕ). sets l at r) (grouped o n d e p q)
    ∙ sym (paste-sets l at (own_bytes o n) 48 (length-own o n) h)

-- a header in the first 48 bytes
pub front : (out b : List ℕ) → length b ≡ 48 → paste out 0 b 48 ≡ b ++ drop 48 out
front out b e = ap (λ (r : List ℕ). r ++ drop 48 out) (take_all 48 b (omega (arith, e)))
