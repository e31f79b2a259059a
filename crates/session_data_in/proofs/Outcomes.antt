-- The book's step at a Data-In that is sent.
use Prim.Native.Nat.{ℕ}
use mathlib.Core.Path.{◌≡◌, refl}
use mathlib.Core.Bool.{Bool, false}
use Rattle.field.specs.Field.{pick}
use Rattle.response_header.specs.Response.{header_bytes, max_data_length, is_too_long}
use Rattle.response_header.specs.declared.Response.TheVariants as R
use Rattle.response_header.specs.declared.DataIn.{DataIn}
use Rattle.task_book.specs.Record.{Record}
use Rattle.task_book.specs.Steps as T
use Rattle.window.specs.Book as W
use Rattle.book.specs.Book.{written, OpenConnection, Book, Outputs, data_in, transfer, Choice, moved, step, refuse}
use Rattle.book.specs.Book.{on_connection, lending, moved_by, transfer_by, book_step}

pub data-in-eq : (b : Book) (c : ℕ) (x : Record) (f a : Bool) (n : ℕ) (o : Outputs) (z : Choice)
    → book_step b (transfer c x (data_in f a n o)) z
    ≡ lending b o (on_connection b c o (λ k. pick (is_too_long k.longest n) (refuse 5 o b) (moved_by b o k (T.data_in_step x f a n))))
unfolding book_step transfer_by
data-in-eq b c x f a n o z = refl

module _ (b : Book) (o : Outputs) (k : OpenConnection) (n : ℕ) (limit : k.longest ≡ max_data_length) (short : is_too_long max_data_length n ≡ false) where
  pub data-in-sent : (y : T.Step) (x : Record) (h : DataIn) (i : ℕ) (o' : Outputs) → T.step (T.data_in h) x ≡ y → i ≡ k.ledger.next
      → o' ≡ written (header_bytes (R.DataIn h) (record { stat_sn = i; exp_cmd_sn = W.exp_cmd_sn_of b.window; max_cmd_sn = W.max_cmd_sn_of b.window })) o
      → pick (is_too_long k.longest n) (refuse 5 o b) (moved_by b o k y) ≡ step (moved (T.data_in h) x) o' b
  unfolding moved_by
  data-in-sent y x h i o' e q w = rw (limit, short, ← e, w, q)
