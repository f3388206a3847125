-- `client::run_steps` meets its contract.
-- Assumes nothing.
use Rattle.client.proofs.ScaledRun as law
use Rattle.client.proofs.run_steps.Goals as goal

pub returns : goal.returns
returns c =
    let given = c.requires in (
      law.scaled_after given.0 c.cession_read-reading.ensures c.cession_open-opening.ensures
          c.read_steps-found.ensures given.2 given.3 c.run_scaled.ensures.0,
      law.scaled_bytes given.0 c.cession_read-reading.ensures c.cession_open-opening.ensures
          c.read_steps-found.ensures given.2 given.3 c.run_scaled.ensures.1,
    )
