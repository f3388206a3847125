-- `statement::print::put_field` meets its contract.
-- Assumes nothing.
use borrow.Author.Rules.{rules}
use Rattle.statement.proofs.Pieced as law
use Rattle.statement.proofs.print.put_field.Goals as goal

pub returns : goal.returns
returns c = (search law.both-put, search rules)
