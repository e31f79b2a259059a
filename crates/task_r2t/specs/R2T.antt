-- Follows the code: an R2T that the rules let pass, its opening in the arrays, and the answer to it.
use Rattle.std.specs.Prelude.{ℕ, ◌+◌, ◌<◌, ◌≤◌, ◌≡◌, true, List, [], ◌∷◌, ◌++◌, Ok}
use Rattle.task_book.specs.Record.{open_places, last_number, offset_end}
use Rattle.task_book.specs.Steps.{r2t_ok}
use Rattle.task.specs.declared.Task.{Task}
use Rattle.task.specs.declared.R2tSent.{R2tSent}
use Rattle.task.specs.Agree.{open_of, record_of, R2TDone}

-- What the rules leave of an R2T's length and of the record before it: no number passes its width.
pub record R2TFits (t : Task) (len : ℕ) : Type 0 where
  pub some : 0 < len
  pub end : t.data_out.asked + len ≤ offset_end
  pub few : t.open_count < open_places
  pub left : t.numbering.sent < last_number

-- The arrays have one open R2T more, after the others.
unfoldable pub Opened : Task → (tag len : ℕ) → (tags ends tags' ends' : List ℕ) → Type 0
Opened t q n ts es ts' es' =
    open_of ts' es' t.first_open (t.open_count + 1)
    ≡ open_of ts es t.first_open t.open_count ++ record { tag = q; end = t.data_out.asked + n } ∷ []

-- The answer is that of the call once the R2T is opened, where the rules let it pass.
unfoldable pub R2TSent : Task → (tag len : ℕ) → R2tSent → Type 0
R2TSent t q n r = (ts es ts' es' : List ℕ) → r2t_ok (record_of t ts es) q n ≡ true → Opened t q n ts es ts' es' → R2TDone t q n ts es (Ok r) ts' es'
