-- `client::open_sidney` meets its contract.
-- Assumes nothing.
use Rattle.client.proofs.Computed as law
use Rattle.client.proofs.open_sidney.Goals as goal

pub returns : goal.returns
returns c = search law.opening_is
