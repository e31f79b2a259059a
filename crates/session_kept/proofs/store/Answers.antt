-- Proved alone by `kept` and both definitions opened, too; but then the edits of this crate are only given up on at a limit, and not seen to be wrong.
use mathlib.Core.Path.{◌≡◌}
use lib.ListN.{length}
use Rattle.session_state.specs.After.{conn_at}
use Rattle.session_words.specs.State.{session_numbers}
use Rattle.session_kept.proofs.Kept.{kept}
use borrow.Author.Rules.{rules}
use Rattle.session_kept.proofs.store.Goals as goal

pub returns : goal.returns
unfolding session_numbers conn_at
returns c =
    let s = c.args.s in
    let o : length s.window.origins ≡ 4 = search rules in
    let k : length s.conns ≡ 4 = search rules in
    let w0 = c.open_word.ensures in
    let w1 = c.open_word-2.ensures in
    let w2 = c.open_word-3.ensures in
    let w3 = c.open_word-4.ensures in
    let w = c.maps_of.ensures in
    (rw (w0, w1, w2, w3), w, rw (w, w0, w1, w2, w3) (kept s o k))
