-- A word is read at each turn.
use Rattle.std.proofs.Common.{length, ◌≤◌}
use Rattle.login_vectors.proofs.pdu.words_of.Given as goal

abbrev pub invariant-loop-v : goal.invariant-loop-v
invariant-loop-v l = l.at ≤ length l.line
