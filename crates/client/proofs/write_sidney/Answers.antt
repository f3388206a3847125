-- `client::write_sidney` meets its contract.
-- Assumes nothing.
use Rattle.client.proofs.Computed as law
use Rattle.client.proofs.write_sidney.Goals as goal

pub returns : goal.returns
returns c = (search law.table-answer, search law.table-bytes)
