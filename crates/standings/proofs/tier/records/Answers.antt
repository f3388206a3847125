-- `standings::tier::records` meets its contract.
-- Assumes nothing.
use Rattle.standings.proofs.Loads as law
use Rattle.standings.proofs.tier.records.Goals as goal

pub loop-place-preserved : goal.loop-place-preserved
loop-place-preserved c =
    law.record_next c.loop-place.invariant _ c.loop-place-test.true _ c.of_standing.ensures

pub returns : goal.returns
returns c = search law.record_ends
