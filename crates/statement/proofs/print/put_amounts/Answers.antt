-- `statement::print::put_amounts` meets its contract.
-- Assumes nothing.
use borrow.Author.Rules.{rules}
use Rattle.statement.proofs.Pieced as law
use Rattle.statement.proofs.print.put_amounts.Goals as goal

pub returns : goal.returns
returns c = (search law.amounts-put, search rules)
