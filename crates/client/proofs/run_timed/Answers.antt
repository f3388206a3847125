-- `client::run_timed` meets its contract.
-- Assumes nothing.
use Rattle.client.proofs.TimedRun as law
use Rattle.client.proofs.run_timed.Goals as goal

pub returns : goal.returns
returns c = (search law.timed-after, search law.timed-bytes)
