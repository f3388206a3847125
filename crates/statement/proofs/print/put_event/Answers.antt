-- `statement::print::put_event` meets its contract.
-- Assumes nothing.
use borrow.Author.Rules.{rules}
use Rattle.statement.proofs.Pieced as law
use Rattle.statement.proofs.print.put_event.Goals as goal

pub returns : goal.returns
returns c = (search law.event-put, search rules)
