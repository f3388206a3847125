-- `standings::open` meets its contract.
-- Assumes nothing.
use Rattle.standings.proofs.Opening.{opened, not_opened}
use Rattle.standings.proofs.open.Goals as goal

pub returns-then-holds : goal.returns-then-holds
returns-then-holds c = search opened

pub returns : goal.returns
returns c = rw c.number.ensures (search not_opened)
