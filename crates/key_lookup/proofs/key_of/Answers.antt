-- A name is compared with its candidates alone.
use Rattle.key_lookup.proofs.Turns.{among, last}
use Rattle.key_names.proofs.Laws.{hit}
use mathlib.Core.Path.{sym, ◌∙◌}
use Rattle.std.proofs.Common.{rules}
use Rattle.key_lookup.proofs.key_of.Goals as goal

pub returns-then-is_name : goal.returns-then-is_name
returns-then-is_name c =
    hit c.args.name.now _ (among c.args.name.now c.in_ok-first.first 0 c.in_ok-first.ensures.first) (sym c.is_name.ensures ∙ c.if-is_name.true)

pub returns : goal.returns
returns c =
    let miss = sym c.is_name.ensures ∙ c.if-is_name.false in
    last c.args.name.now c.in_ok-first.first miss c.in_ok-first.second c.filter.result c.in_ok-first.ensures (search rules)
