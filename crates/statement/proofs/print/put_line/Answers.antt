-- `statement::print::put_line` meets its contract.
-- Assumes nothing.
use Rattle.std.proofs.Common.{rules}
use Rattle.statement.proofs.LineSizes as law
use Rattle.statement.proofs.print.put_line.Goals as goal

pub returns-then-out-eq0 : goal.returns-then-out-eq0
returns-then-out-eq0 c = (search law.measured, search rules)
