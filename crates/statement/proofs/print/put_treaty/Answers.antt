-- `statement::print::put_treaty` meets its contract.
-- Assumes nothing.
use borrow.Author.Rules.{rules}
use Rattle.statement.proofs.Pieced as law
use Rattle.statement.proofs.print.put_treaty.Goals as goal

pub returns : goal.returns
returns c = (search law.treaty-put, search rules)
