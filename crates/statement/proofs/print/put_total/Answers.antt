-- `statement::print::put_total` meets its contract.
-- Assumes nothing.
use borrow.Author.Rules.{rules}
use Rattle.statement.proofs.Pieced as law
use Rattle.statement.proofs.print.put_total.Goals as goal

pub returns : goal.returns
returns c = (search law.total-put, search rules)
