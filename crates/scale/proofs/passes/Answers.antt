-- `scale::passes` meets its contract.
-- Assumes nothing.
use Rattle.scale.proofs.Passing as law
use Rattle.scale.proofs.passes.Goals as goal

pub returns-then-shares-ne-DAYS : goal.returns-then-shares-ne-DAYS
returns-then-shares-ne-DAYS c = search law.wrong_length

pub returns-then-before-share : goal.returns-then-before-share
returns-then-before-share c = search law.falling-stops

pub returns : goal.returns
returns c = search law.falling-ends
