-- `table::print::put_treaties` meets its contract.
-- Assumes nothing.
use Rattle.table.proofs.Tables as law
use Rattle.table.proofs.print.put_treaties.Goals as goal

pub loop-t-preserved : goal.loop-t-preserved
loop-t-preserved c = search law.one_lined
