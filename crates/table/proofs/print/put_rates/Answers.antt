-- `table::print::put_rates` meets its contract.
-- Assumes nothing.
use Rattle.table.proofs.RatePass as law
use Rattle.table.proofs.print.put_rates.Goals as goal

pub loop-rate-preserved : goal.loop-rate-preserved
loop-rate-preserved c = search law.one-charged

pub returns : goal.returns
returns c = (search law.all-charged, search law.charged-short)
