use borrow.Author.Tests.{tests}
use Rattle.std.proofs.Common.{rules}
use Rattle.std.proofs.lemmas.Iterator.{YieldsList-from_slice}
use Rattle.std.proofs.lemmas.Iterator.Search.{all_from_yields_List}
use Rattle.text.proofs.Words.{all_is_list_all}
use Rattle.text_block.specs.Block.{name_byte}
use Rattle.text_block.proofs.block.name_bytes.Goals as goal

pub returns : goal.returns
returns c =
    rw all_is_list_all (all_from_yields_List name_byte _ _ _ c.all.ensures.ran (YieldsList-from_slice c.args.s.now cc) (λ x b q k. search (rules, tests)))
