-- `treaty::Treaty::by_surplus` meets its contract.
-- Assumes nothing.
use Rattle.treaty.proofs.Cases.{surplus-retained, surplus-above, surplus-between}
use Rattle.treaty.proofs.Treaty.by_surplus.Goals as goal

pub returns-then-maximum-self : goal.returns-then-maximum-self
returns-then-maximum-self c = search surplus-retained

pub returns-then-self-maximum : goal.returns-then-self-maximum
returns-then-self-maximum c = search surplus-above

pub returns : goal.returns
returns c = search surplus-between
