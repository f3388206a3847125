-- `client::run_refused` meets its contract.
-- Assumes nothing.
use Rattle.client.proofs.Computed as law
use Rattle.client.proofs.run_refused.Goals as goal

pub returns : goal.returns
returns c = (search law.refused-after, search law.refused-bytes)
