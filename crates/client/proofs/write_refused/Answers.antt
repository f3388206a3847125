-- `client::write_refused` meets its contract.
-- Assumes nothing.
use Rattle.client.proofs.Computed as law
use Rattle.client.proofs.write_refused.Goals as goal

pub returns : goal.returns
returns c = (search law.short-answer, search law.short-bytes)
