-- The data sentences of a task hold of every list of calls that the book answers: each transfer moves the record as its rules say, and a SCSI Response that
-- is sent bears the ExpDataSN of the record.
use Prim.Native.Nat.{ℕ, ◌/◌, ◌%◌, ◌^◌, ◌<◌}
use mathlib.Core.Path.{◌≡◌, refl, sym, ap, ◌∙◌, subst}
use mathlib.Core.Bool.{Bool, true, false}
use mathlib.Core.List.{List, [], ◌∷◌, ◌++◌}
use native.Mathlib.Omega.{arith}
use lib.Dec.{eqb}
use lib.ListN.{length, drop}
use lib.ListN as ListN
use Rattle.field.specs.Field.{pick, be_at, bytes_of}
use Rattle.request_header.specs.Request.{read_pdu, request_of, opcode_of, pdu_of, data_out_of, snack_of, data_length_of, nop_out_of, scsi_command_of, task_management_of, login_of, logout_of}
use Rattle.request_header.specs.Request as Read
use Rattle.request_header.specs.Kind.{if_data_out, if_snack}
use Rattle.request_header.specs.declared.DataOut.{DataOut}
use Rattle.request_header.specs.declared.Snack.{Snack}
use Rattle.request_header.specs.declared.Request.TheVariants as Q
use Rattle.request_header.proofs.Reading.{got-all}
use Rattle.response_header.specs.Response.{is_too_long, header_bytes, kind_fields}
use Rattle.response_header.specs.declared.Numbers.{Numbers}
use Rattle.response_header.specs.declared.ScsiResponse.{ScsiResponse}
use Rattle.response_header.specs.declared.Response.TheVariants as R
use Rattle.task_book.specs.declared.TaskGiven.{TaskGiven}
use Rattle.task_book.specs.Record.{Record, making, made}
use Rattle.task_book.specs.Steps as T
use Rattle.task_book.specs.History as H
use Rattle.task_book.specs.Sentences.{DataPhases}
use Rattle.task_book.proofs.Bounded.{Bounded, bounded-made, bounded-step, expected-fits}
use Rattle.task_book.proofs.Sentences.{data-sentences}
use Rattle.window.specs.Book as W
use Rattle.ledger.specs.Book as L
use Rattle.book.specs.declared.Given.{Given}
use Rattle.book.specs.Book.{OpenConnection, Book, Outputs, no_outputs, written, Transfer, data_in, r2t, data_out, data_snack, Choice, Call, send, transfer, refused, sent, moved, Step, step, fresh_book, from_task, moved_by, data_out_by, data_snack_by, transfer_by, completed, is_due, with_exp_data_sn, send_as, send_by, book_step}
use Rattle.book.specs.Events.{Event, Turn, booked, book_run}
use Rattle.book.specs.Effects.{Past, nothing_done, and_then}
use Rattle.book.specs.Tasks.{data_call_of, Bears, OnTask, done, other, moves, responds}
use Rattle.book.proofs.Sentences.{Inv, inv-fresh, inv-step, by-reach, by-lend}

-- ---- a transfer

-- it moved the record from x to x', with the answer a, as the step s
record Moved (s : T.Step) (a : T.Answer) (x' : Record) : Type 0 where
  pub answer : a ≡ s.answer
  pub after : s.after ≡ x'

unmoved : {n : ℕ} {a : T.Answer} {x : Record} → refused n ≡ moved a x → ⊥
unmoved e = cc

moved-is : (s : T.Step) (a : T.Answer) (x' : Record) → from_task s.answer s.after ≡ moved a x' → Moved s a x'
moved-is s a x' e = grind arith

-- what is said of a Data-Out, and of a SNACK, is said of its fields in the PDU, or it is what is said of another kind
of-data-out : (P : Step → Type 0) (f : DataOut → Step) (d : Step) (s : List ℕ) (op : ℕ) → P (f (data_out_of s)) → P d → P (if_data_out f d (request_of op s))
unfolding request_of
of-data-out P f d s op a o = go (eqb op 0x00) (eqb op 0x01) (eqb op 0x02) (eqb op 0x03) (eqb op 0x05) (eqb op 0x06)
  where
    go : (t u v w y z : Bool)
        → P (if_data_out f d (pick t (Q.NopOut (nop_out_of s)) (pick u (Q.ScsiCommand (scsi_command_of s)) (pick v (Q.TaskManagement (task_management_of s))
        (pick w (Q.Login (login_of s)) (pick y (Q.DataOut (data_out_of s)) (pick z (Q.Logout (logout_of s)) (Q.Snack (snack_of s)))))))))
    go true u v w y z = o
    go false true v w y z = o
    go false false true w y z = o
    go false false false true y z = o
    go false false false false true z = a
    go false false false false false true = o
    go false false false false false false = o

of-snack : (P : Step → Type 0) (f : Snack → Step) (d : Step) (s : List ℕ) (op : ℕ) → P (f (snack_of s)) → P d → P (if_snack f d (request_of op s))
unfolding request_of
of-snack P f d s op a o = go (eqb op 0x00) (eqb op 0x01) (eqb op 0x02) (eqb op 0x03) (eqb op 0x05) (eqb op 0x06)
  where
    go : (t u v w y z : Bool)
        → P (if_snack f d (pick t (Q.NopOut (nop_out_of s)) (pick u (Q.ScsiCommand (scsi_command_of s)) (pick v (Q.TaskManagement (task_management_of s))
        (pick w (Q.Login (login_of s)) (pick y (Q.DataOut (data_out_of s)) (pick z (Q.Logout (logout_of s)) (Q.Snack (snack_of s)))))))))
    go true u v w y z = o
    go false true v w y z = o
    go false false true w y z = o
    go false false false true y z = o
    go false false false false true z = o
    go false false false false false true = o
    go false false false false false false = a

transfer-moves : (b : Book) (c : ℕ) (x : Record) (d : Transfer) (a : T.Answer) (x' : Record) → (transfer_by b c x d).answer ≡ moved a x'
    → Moved (H.step_of x (data_call_of b.given.level d)) a x'
unfolding transfer_by moved_by pdu_of
transfer-moves b c x (data_in f k n o) a x' =
    by-lend P b o _ (λ e. absurd (unmoved e))
    (λ long. by-reach P b c o _ (λ e. absurd (unmoved e)) (λ e. absurd (unmoved e)) (λ l q e. go (is_too_long q.longest n) q))
  where
    P : Step → Type 0
    P s = s.answer ≡ moved a x' → Moved (T.data_in_step x f k n) a x'

    go : (u : Bool) (q : OpenConnection) → P (pick u (step (refused 5) o b) (moved_by b o q (T.data_in_step x f k n)))
    go true q e = absurd (unmoved e)
    go false q e = moved-is (T.data_in_step x f k n) a x' e
transfer-moves b c x (r2t t n o) a x' =
    by-lend P b o _ (λ e. absurd (unmoved e))
    (λ long. by-reach P b c o _ (λ e. absurd (unmoved e)) (λ e. absurd (unmoved e)) (λ l q e. moved-is (T.r2t_step x t n) a x'))
  where
    P : Step → Type 0
    P s = s.answer ≡ moved a x' → Moved (T.r2t_step x t n) a x'
transfer-moves b c x (data_out p) a x' =
    by-reach P b c no_outputs _ (λ e. absurd (unmoved e)) (λ e. absurd (unmoved e)) (λ l q e. go q (read_pdu q.limits p) refl)
  where
    s : T.Step
    s = T.data_out_step x (be_at p 16 4) (data_out_of p) (data_length_of p)

    P : Step → Type 0
    P y = y.answer ≡ moved a x' → Moved s a x'

    go : (q : OpenConnection) (y : Read.Answer) → read_pdu q.limits p ≡ y → P (data_out_by b x q y)
    go q (Read.refused n) r = λ e. absurd (unmoved e)
    go q (Read.got u) r =
        rw (got-all q.limits p u r).fields
        (of-data-out P (λ w. moved_by b no_outputs q (T.data_out_step x (be_at p 16 4) w (data_length_of p))) (step (refused 3) no_outputs b) p (opcode_of p)
        (moved-is s a x') (λ e. absurd (unmoved e)))
transfer-moves b c x (data_snack f p) a x' =
    by-reach P b c no_outputs _ (λ e. absurd (unmoved e)) (λ e. absurd (unmoved e)) (λ l q e. go q (read_pdu q.limits p) refl)
  where
    s : T.Step
    s = T.data_snack_step x b.given.level (be_at p 16 4) f (snack_of p)

    P : Step → Type 0
    P y = y.answer ≡ moved a x' → Moved s a x'

    go : (q : OpenConnection) (y : Read.Answer) → read_pdu q.limits p ≡ y → P (data_snack_by b x f q y)
    go q (Read.refused n) r = λ e. absurd (unmoved e)
    go q (Read.got u) r =
        rw (got-all q.limits p u r).fields
        (of-snack P (λ w. moved_by b no_outputs q (T.data_snack_step x b.given.level (be_at p 16 4) f w)) (step (refused 3) no_outputs b) p (opcode_of p)
        (moved-is s a x') (λ e. absurd (unmoved e)))

transferred : (b : Book) (c : ℕ) (x : Record) (d : Transfer) (y : Choice) → (book_step b (transfer c x d) y).answer ≡ (transfer_by b c x d).answer
unfolding book_step
transferred b c x d y = refl

-- ---- a SCSI Response

digit : (a b : ℕ) → a / 256 ≡ b / 256 → a % 256 ≡ b % 256 → a ≡ b
digit a b p q = omega arith

small : (a : ℕ) → a < 2 ^ 32 → a / 256 / 256 / 256 < 256
small a l = omega arith

highest : (k m : ℕ) → k < 2 ^ 32 → m < 2 ^ 32 → k / 256 / 256 / 256 % 256 ≡ m / 256 / 256 / 256 % 256 → k / 256 / 256 / 256 ≡ m / 256 / 256 / 256
highest k m l j e = within (k / 256 / 256 / 256) (m / 256 / 256 / 256) (small k l) (small m j) e
  where
    within : (a b : ℕ) → a < 256 → b < 256 → a % 256 ≡ b % 256 → a ≡ b
    within a b p q e = omega arith

-- four bytes are those of one number below 2^32
four_same : (k m : ℕ) → k < 2 ^ 32 → m < 2 ^ 32 → bytes_of 4 k ≡ bytes_of 4 m → k ≡ m
unfolding bytes_of
four_same k m l j e =
    let d0 : k % 256 ≡ m % 256 = ap (λ (w : List ℕ). ListN.get_or w 3 0) e in
    let d1 : k / 256 % 256 ≡ m / 256 % 256 = ap (λ (w : List ℕ). ListN.get_or w 2 0) e in
    let d2 : k / 256 / 256 % 256 ≡ m / 256 / 256 % 256 = ap (λ (w : List ℕ). ListN.get_or w 1 0) e in
    let d3 : k / 256 / 256 / 256 % 256 ≡ m / 256 / 256 / 256 % 256 = ap (λ (w : List ℕ). ListN.get_or w 0 0) e in
    digit k m (digit (k / 256) (m / 256) (digit (k / 256 / 256) (m / 256 / 256) (highest k m l j d3) d2) d1) d0

-- the ExpDataSN of a header that is written
bears : (r : ScsiResponse) (n : Numbers) (rest : List ℕ) → ListN.take 4 (drop 36 (header_bytes (R.ScsiResponse r) n ++ rest)) ≡ bytes_of 4 r.exp_data_sn
unfolding header_bytes kind_fields bytes_of
bears r n rest = refl

unsent : {m n : ℕ} → refused m ≡ sent n → ⊥
unsent e = cc

send-bears : (b : Book) (c t : ℕ) (r : ScsiResponse) (x : Record) (o : Outputs) (q : OpenConnection) (n : ℕ)
    → (send_by b c t (R.ScsiResponse r) x o q).answer ≡ sent n
    → ListN.take 4 (drop 36 (send_by b c t (R.ScsiResponse r) x o q).out.header) ≡ bytes_of 4 (T.exp_data_sn_of x.numbering r.response)
unfolding send_by send_as written L.header_for
send-bears b c t r x o q n = go (L.sending q.ledger q.longest (is_due x (R.ScsiResponse r)) (completed x (R.ScsiResponse r)))
  where
    m : Numbers
    m = record { stat_sn = q.ledger.next; exp_cmd_sn = W.exp_cmd_sn_of b.window; max_cmd_sn = W.max_cmd_sn_of b.window }

    h : List ℕ
    h = header_bytes (completed x (R.ScsiResponse r)) m

    go : (y : L.Sending) → (send_as b c t h o q y).answer ≡ sent n
        → ListN.take 4 (drop 36 (send_as b c t h o q y).out.header) ≡ bytes_of 4 (T.exp_data_sn_of x.numbering r.response)
    go (L.refused k) e = absurd (unsent e)
    go (L.not_stored k) e = bears (with_exp_data_sn r (T.exp_data_sn_of x.numbering r.response)) m (drop 48 o.header)
    go (L.stored k) e = bears (with_exp_data_sn r (T.exp_data_sn_of x.numbering r.response)) m (drop 48 o.header)

responds-with : (b : Book) (c t : ℕ) (r : ScsiResponse) (x : Record) (l : Outputs) (y : Turn) (n : ℕ) (o : Outputs) (k : ℕ)
    → y.call ≡ send c t (R.ScsiResponse r) x l
    → (book_step b y.call y.choice).answer ≡ sent n → (book_step b y.call y.choice).out ≡ o → Bounded x → Bears o.header k
    → k ≡ T.exp_data_sn_of x.numbering r.response
responds-with b c t r x l y n o k q a w i u =
    four_same k (T.exp_data_sn_of x.numbering r.response) u.fits (expected-fits x i r.response)
    (sym u.bytes ∙ ap (λ (z : Outputs). ListN.take 4 (drop 36 z.header)) (sym w ∙ ap (λ (z : Call). (book_step b z y.choice).out) q)
    ∙ here (ap (λ (z : Call). (book_step b z y.choice).answer) (sym q) ∙ a))
  where
    P : Step → Type 0
    P s = s.answer ≡ sent n → ListN.take 4 (drop 36 s.out.header) ≡ bytes_of 4 (T.exp_data_sn_of x.numbering r.response)

    here : P (book_step b (send c t (R.ScsiResponse r) x l) y.choice)
    here =
        unfold book_step in (by-lend P b l _ (λ e. absurd (unsent e)) (λ long.
        by-reach P b c l _ (λ e. absurd (unsent e)) (λ e. absurd (unsent e)) (λ near z e. send-bears b c t r x l z n)))

-- ---- a list of calls

cut : {e f : Event} {es fs : List Event} → e ∷ es ≡ f ∷ fs → (e ≡ f) × (es ≡ fs)
cut q = (cc, cc)

empty : {e : Event} {es : List Event} → e ∷ es ≡ [] → ⊥
empty q = cc

runs : (g : Given) {x y : Record} {es : List Event} {ts : List H.Event} → OnTask g.level x es ts y → Bounded x → (past : Past) (b : Book)
    → Inv g past b → (us : List Turn) → es ≡ book_run b us → H.Ran x ts y
unfolding book_run booked
runs g done i past b v us q = H.done
runs g (other r) i past b v [] q = absurd (empty q)
runs g (other r) i past b v (u ∷ us) q = runs g r i (and_then past (booked b u)) (book_step b u.call u.choice).book (inv-step g past b v u) us (cut q).1
runs g (moves r) i past b v [] q = absurd (empty q)
runs g (moves {x = x} {x' = x'} {y = y} {c = c} {d = d} {a = a} {ts = ts} r) i past b v (u ∷ us) q =
    let e = (cut q).0 in
    let k = ap (λ (w : Event). w.call) e in
    let w : (book_step b (transfer c x d) u.choice).answer ≡ moved a x' =
    ap (λ (z : Call). (book_step b z u.choice).answer) k ∙ sym (ap (λ (w : Event). w.answer) e) in
    let m = transfer-moves b c x d a x' (sym (transferred b c x d u.choice) ∙ w) in
    let lv = ap (λ (z : Given). z.level) v.given in
    let m' = subst (λ (n : ℕ). Moved (H.step_of x (data_call_of n d)) a x') lv m in
    H.moves m'.answer (subst (λ (z : Record). H.Ran z ts y) (sym m'.after)
    (runs g r (subst Bounded m'.after (bounded-step x i (data_call_of g.level d))) (and_then past (booked b u)) (book_step b u.call u.choice).book
    (inv-step g past b v u) us (cut q).1))
runs g (responds h r) i past b v [] q = absurd (empty q)
runs g (responds {x = x} {c = c} {t = t} {n = n} {k = k} {r = s} {l = l} {o = o} h r) i past b v (u ∷ us) q =
    let e = (cut q).0 in
    H.responds
    (responds-with b c t s x l u n o k (sym (ap (λ (w : Event). w.call) e)) (sym (ap (λ (w : Event). w.answer) e)) (sym (ap (λ (w : Event). w.out) e)) i h)
    (runs g r i (and_then past (booked b u)) (book_step b u.call u.choice).book (inv-step g past b v u) us (cut q).1)

-- The data sentences of what the fresh book answers to any list of calls, of any task whose record was made.
pub tasks-booked : (g : Given) (us : List Turn) (t : TaskGiven) (n : ℕ) {x y : Record} {ts : List H.Event} → making t n ≡ made x
    → OnTask g.level x (book_run (fresh_book g) us) ts y → DataPhases t n ts
tasks-booked g us t n m r = data-sentences t n m (runs g r (bounded-made t n m) nothing_done (fresh_book g) (inv-fresh g) us refl)
