-- `client::read_sidney` meets its contract.
-- Assumes nothing.
use Rattle.client.proofs.Computed as law
use Rattle.client.proofs.read_sidney.Goals as goal

pub returns : goal.returns
returns c = search law.reading-is
