-- `table::print::put_rate` meets its contract.
-- Assumes nothing.
use borrow.Author.Rules.{rules}
use Rattle.text.specs.Template.{capital, holes}
use Rattle.table.proofs.print.put_rate.Goals as goal

pub put-requires : goal.put-requires
unfolding capital holes
put-requires c = search rules
