-- `client::read_steps` meets its contract.
-- Assumes nothing.
use Rattle.client.proofs.ScaledRun as law
use Rattle.client.proofs.read_steps.Goals as goal

pub returns : goal.returns
returns c = search law.steps-read
