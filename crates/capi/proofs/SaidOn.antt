-- A transfer for C from the one on words: it writes none of the session's words.
use mathlib.Core.List.{List}
use Prim.Native.Nat.{ℕ}
use Rattle.window.specs.Agree.{Commands}
use Rattle.ledger.specs.Agree.{Statuses}
use Rattle.book.specs.Book.{Outputs, Transfer, transfer}
use Rattle.session_state.specs.Agree.{state}
use Rattle.session_words.specs.State.{session_of}
use Rattle.task_words.specs.TaskWords.{TaskWords, record_in}
use Rattle.transfer_words.specs.Moves.{Moves}
use Rattle.call_words.specs.Session.{session_words, nothing}
use Rattle.call_words.proofs.Unchanged.{still}
use Rattle.capi.specs.Transfer.{SaidOn}

pub said_on : {c : ℕ} {d : Transfer} {n m : List ℕ} {k : Commands} {ss : Statuses} {t t' : TaskWords} {w : List ℕ} {o : Outputs}
    → Moves c d (state (session_of n m) k ss) t w o t' → SaidOn c d (session_words n m k ss) t w o t'
said_on {c} {d} {n} {m} {k} {ss} {t} {t'} {w} {o} x = record {
  said = record {
    answer = x.answer;
    did = x.did;
    words = x.words;
    writes = nothing;
    stays = still x.answer (transfer c (record_in t) d) (session_words n m k ss) o x.did;
  };
  task = x.task;
}
