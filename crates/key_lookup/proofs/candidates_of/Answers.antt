-- The table has the first candidate of a name, if it shares length and letter.
use Rattle.key_lookup.proofs.Places.{other_length, other_letter, both_there}
use Rattle.key_lookup.proofs.candidates_of.Goals as goal
use Rattle.key_lookup.proofs.candidates_of.Goals.{then-known-n-via-then-known-n, then-known-n-via-else-known-n+then-known-letter}

pub returns-then-known-n : goal.returns-then-known-n
returns-then-known-n c =
    let n = c.args.name.now in
    elim c.then-known-n.branch [
      | then-known-n-via-then-known-n w ↦ other_length n _ _ c.in_ok-first.was c.name_of-known.ensures w.if-known-n.true
      | then-known-n-via-else-known-n+then-known-letter w ↦ other_letter n _ _ c.in_ok-first.was c.name_of-known.ensures w.if-known-letter.true
    ]

pub returns : goal.returns
returns c = both_there c.args.name.now _ _ c.in_ok-first.was c.name_of-known.ensures c.if-known-n.false c.if-known-letter.false
