-- Small laws that the others share, and what an offered PDU is by its bytes.
use Prim.Native.Nat.{ℕ, ◌<◌, ◌≤◌}
use mathlib.Core.Path.{◌≡◌, refl}
use mathlib.Core.Bool.{Bool, true, false, ◌||◌}
use mathlib.Core.List.{List}
use native.Mathlib.Omega.{arith}
use borrow.Author.Tests.{eqb-true}
use lib.Dec.{eqb}
use Rattle.field.specs.Field.{pick, byte, bit}
use Rattle.request_header.specs.Request.{read_pdu, pdu_of, request_of, opcode_of}
use Rattle.request_header.specs.Request as Read
use Rattle.request_header.specs.Kind.{if_data_out, if_snack}
use Rattle.request_header.specs.declared.DataOut.{DataOut}
use Rattle.request_header.specs.declared.Snack.{Snack}
use Rattle.request_header.specs.declared.Request.{Request}
use Rattle.request_header.specs.declared.Request.TheVariants as R
use Rattle.response_header.specs.declared.Response.{Response}
use Rattle.response_header.specs.declared.Response.TheVariants as A
use Rattle.task_book.specs.Record.{Record}
use Rattle.ledger.specs.Book.{is_status}
use Rattle.request_header.specs.declared.Limits.{Limits}
use Rattle.request_header.proofs.Reading.{got-all}
use Rattle.request_header.proofs.FieldRules.{and-true}
use Rattle.book.specs.declared.Given.{Given}
use Rattle.book.specs.Book.{share, Offered, denied, at_once, numbered, offered_as, is_offered, cmd_sn_of, Step, completed}

-- a share has a place, and no more than there are slots
pub share-some : (g : Given) → 0 < share g
unfolding share
share-some g = omega arith

pub share-fits : (g : Given) → share g ≤ 64
unfolding share
share-fits g = omega arith

-- a kind that is offered is neither Data-Out nor SNACK, so it has an I and a CmdSN
pub has-number : (s : List ℕ) (op : ℕ) (a b : Bool) → eqb op 0x05 ≡ a → eqb op 0x10 ≡ b → is_offered (request_of op s) ≡ true → (a || b) ≡ false
unfolding request_of
has-number s op true b e f h = let g = rw (eqb-true op 0x05 e) at h in cc
has-number s op false true e f h = let g = rw (eqb-true op 0x10 f) at h in cc
has-number s op false false e f h = refl

-- what is read as a PDU is offered by its kind, its I and its CmdSN, which are the bytes'
by_bytes : (s : List ℕ) (op : ℕ) (a : Bool) → is_offered (request_of op s) ≡ a
    → offered_as (Read.got (pdu_of op s)) ≡ pick a (pick (bit (byte s 0) 64) at_once (numbered (cmd_sn_of s))) (denied 3)
unfolding pdu_of cmd_sn_of
by_bytes s op true e = rw (e, has-number s op _ _ refl refl e, and-true)
by_bytes s op false e = rw e

-- what an offered PDU is by its bytes, unless it is refused
pub data IsOffered (s : List ℕ) : Offered → Type 0 where
  is_denied : (n : ℕ) → IsOffered s (denied n)
  is_immediate : bit (byte s 0) 64 ≡ true → IsOffered s at_once
  is_numbered : bit (byte s 0) 64 ≡ false → IsOffered s (numbered (cmd_sn_of s))

pub offered-is : (m : Limits) (s : List ℕ) → IsOffered s (offered_as (read_pdu m s))
offered-is m s = go (read_pdu m s) refl
  where
    picks : (a b : Bool) → bit (byte s 0) 64 ≡ b → IsOffered s (pick a (pick b at_once (numbered (cmd_sn_of s))) (denied 3))
    picks true true e = is_immediate e
    picks true false e = is_numbered e
    picks false b e = is_denied 3

    go : (x : Read.Answer) → read_pdu m s ≡ x → IsOffered s (offered_as x)
    go (Read.refused k) e = is_denied k
    go (Read.got p) e =
        rw ((got-all m s p e).fields, by_bytes s (opcode_of s) _ refl) (picks (is_offered (request_of (opcode_of s) s)) (bit (byte s 0) 64) refl)

-- the number of a numbered offer is its CmdSN
pub offered-number : (m : Limits) (s : List ℕ) (n : ℕ) → offered_as (read_pdu m s) ≡ numbered n → n ≡ cmd_sn_of s
offered-number m s n e = go (offered-is m s) e
  where
    go : {x : Offered} → IsOffered s x → x ≡ numbered n → n ≡ cmd_sn_of s
    go (is_denied k) q = absurd cc
    go (is_immediate i) q = absurd cc
    go (is_numbered i) q = cc

-- a property of what is said of one kind of request, and of what is said of all others
pub by-data-out : (P : Step → Type 0) (f : DataOut → Step) (d : Step) → ((x : DataOut) → P (f x)) → P d → (r : Request) → P (if_data_out f d r)
by-data-out P f d a o (R.NopOut x) = o
by-data-out P f d a o (R.ScsiCommand x) = o
by-data-out P f d a o (R.TaskManagement x) = o
by-data-out P f d a o (R.Login x) = o
by-data-out P f d a o (R.DataOut x) = a x
by-data-out P f d a o (R.Logout x) = o
by-data-out P f d a o (R.Snack x) = o

pub by-snack : (P : Step → Type 0) (f : Snack → Step) (d : Step) → ((x : Snack) → P (f x)) → P d → (r : Request) → P (if_snack f d r)
by-snack P f d a o (R.NopOut x) = o
by-snack P f d a o (R.ScsiCommand x) = o
by-snack P f d a o (R.TaskManagement x) = o
by-snack P f d a o (R.Login x) = o
by-snack P f d a o (R.DataOut x) = o
by-snack P f d a o (R.Logout x) = o
by-snack P f d a o (R.Snack x) = a x

-- what is completed is as much a status as it was
pub completed-status : (x : Record) (r : Response) → is_status (completed x r) ≡ is_status r
completed-status x (A.NopIn r) = refl
completed-status x (A.ScsiResponse r) = refl
completed-status x (A.TaskManagementResponse r) = refl
completed-status x (A.LoginResponse r) = refl
completed-status x (A.DataIn r) = refl
completed-status x (A.LogoutResponse r) = refl
completed-status x (A.R2t r) = refl
completed-status x (A.Reject r) = refl
