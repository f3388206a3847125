-- `treaty::Treaty::by_kind` meets its contract.
-- Assumes nothing.
use Rattle.treaty.proofs.Cases.{kind-quota, kind-surplus, kind-neither}
use Rattle.treaty.proofs.Treaty.by_kind.Goals as goal

pub returns-in-1 : goal.returns-in-1
returns-in-1 c = search kind-quota

pub returns-in-2 : goal.returns-in-2
returns-in-2 c = search kind-surplus

pub returns-in_default : goal.returns-in_default
returns-in_default c = search kind-neither
