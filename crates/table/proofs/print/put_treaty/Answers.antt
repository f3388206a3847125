-- `table::print::put_treaty` meets its contract.
-- Assumes nothing.
use borrow.Author.Rules.{rules}
use Rattle.text.specs.Template.{capital, holes}
use Rattle.table.proofs.Tables as law
use Rattle.table.proofs.print.put_treaty.Goals as goal

pub put_line-requires : goal.put_line-requires
unfolding holes capital
put_line-requires c = search rules

pub put_line-requires-in_default : goal.put_line-requires-in_default
unfolding holes capital
put_line-requires-in_default c = search rules

pub returns-in-2 : goal.returns-in-2
returns-in-2 c = (search law.surplus-put, search rules)

pub returns-in_default : goal.returns-in_default
returns-in_default c = (search law.quota-put, search rules)
