-- `events::form::read_treaty` meets its contract.
-- Assumes nothing.
use native.Mathlib.Omega.{arith}
use Rattle.events.proofs.LineParts as law
use Rattle.events.proofs.form.read_treaty.Goals as goal

pub returns-then-after-eq32 : goal.returns-then-after-eq32
returns-then-after-eq32 c =
    law.treaty-one _ _ _ (omega arith) c.digit-treaty.ensures (omega arith) (omega arith)
