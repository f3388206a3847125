-- `statement::lines::put_idle` meets its contract.
-- Assumes nothing.
use borrow.Author.Rules.{rules}
use Rattle.statement.proofs.LineSizes as law
use Rattle.statement.proofs.lines.put_idle.Goals as goal

pub returns-then-out-eq0 : goal.returns-then-out-eq0
returns-then-out-eq0 c = (search law.idle-measured, search rules)

pub returns : goal.returns
returns c = let put = rw c.none.ensures at c.put_event.ensures.0 in (put, search law.idle-short)
