-- `statement::lines::put_idle_within` meets its contract.
-- Assumes nothing.
use borrow.Author.Rules.{rules}
use Rattle.statement.proofs.Pieced as law
use Rattle.statement.proofs.lines.put_idle_within.Goals as goal

pub returns : goal.returns
returns c = (search law.idle-put, search rules)
