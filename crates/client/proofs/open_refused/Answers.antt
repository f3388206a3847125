-- `client::open_refused` meets its contract.
-- Assumes nothing.
use Rattle.client.proofs.Computed as law
use Rattle.client.proofs.open_refused.Goals as goal

pub returns : goal.returns
returns c = search law.opening_turned_down
