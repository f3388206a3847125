-- `client::run_overcharged` meets its contract.
-- Assumes nothing.
use Rattle.client.proofs.TimedRun as law
use Rattle.client.proofs.run_overcharged.Goals as goal

pub returns : goal.returns
returns c = (search law.overcharged-after, search law.overcharged-bytes)
