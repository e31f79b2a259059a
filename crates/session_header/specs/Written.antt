-- Of the inner function that writes: what it leaves in the lent buffer.
use Rattle.std.specs.Prelude.{ℕ, ◌≡◌, List}
use Rattle.response_header.specs.Response.{header_bytes}
use Rattle.response_header.specs.declared.Response.{Response}
use Rattle.window.specs.declared.Window.{Window}
use Rattle.window.specs.Agree as WA
use Rattle.window.specs.Agree.{Commands}
use Rattle.window.specs.Book as W
use Rattle.book.specs.Book.{outputs, written}
use Rattle.session_state.specs.Agree.{KeepsLent}

-- The header of r with the StatSN given and the window's two numbers stands in the first 48 bytes, where the window stands for a book; and of whatever
-- window, later bytes stay.
pub record IsWritten (w : Window) (stat_sn_of : ℕ) (r : Response) (l o : List ℕ) : Type 0 where
  pub header : (k : Commands) (b : W.Book) → WA.Agrees (WA.state w k) b
      → outputs o ≡ written (header_bytes r (record { stat_sn = stat_sn_of; exp_cmd_sn = W.exp_cmd_sn_of b; max_cmd_sn = W.max_cmd_sn_of b })) (outputs l)
  pub keeps : KeepsLent (outputs l) (outputs o)
