-- `client::read_refused` meets its contract.
-- Assumes nothing.
use Rattle.client.proofs.Computed as law
use Rattle.client.proofs.read_refused.Goals as goal

pub returns : goal.returns
returns c = search law.read-turned-down
