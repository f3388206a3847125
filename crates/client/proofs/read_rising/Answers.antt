-- `client::read_rising` meets its contract.
-- Assumes nothing.
use Rattle.client.proofs.ScaledRun as law
use Rattle.client.proofs.read_rising.Goals as goal

pub returns : goal.returns
returns c = search law.rising-refused
