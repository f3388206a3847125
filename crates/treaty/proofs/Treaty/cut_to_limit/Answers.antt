-- `treaty::Treaty::cut_to_limit` meets its contract.
-- Assumes nothing.
use Rattle.treaty.proofs.Cases.{unlimited, used-up, limited}
use Rattle.treaty.proofs.Treaty.cut_to_limit.Goals as goal

pub returns-then-self-eq0 : goal.returns-then-self-eq0
returns-then-self-eq0 c = search unlimited

pub returns-then-self-taken : goal.returns-then-self-taken
returns-then-self-taken c = search used-up

pub returns : goal.returns
returns c = search limited
