-- `client::run_sidney` meets its contract.
-- Assumes nothing.
use Rattle.client.proofs.Computed as law
use Rattle.client.proofs.run_sidney.Goals as goal

pub returns : goal.returns
returns c = (search law.run-after, search law.run-bytes)
