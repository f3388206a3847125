-- `client::run_too_few` meets its contract.
-- Assumes nothing.
use Rattle.client.proofs.ScaledRun as law
use Rattle.client.proofs.run_too_few.Goals as goal

pub returns : goal.returns
returns c = (search law.too_few_after, search law.too_few_bytes)
