-- `standings::tier::store` meets its contract.
-- Assumes nothing.
use Rattle.standings.proofs.Stores as law
use Rattle.standings.proofs.tier.store.Goals as goal

pub loop-place-preserved : goal.loop-place-preserved
loop-place-preserved c =
    let inv = c.loop-place.invariant in (
      law.store_next _ inv.0 _ c.loop-place-test.true _ c.cents.ensures,
      law.store_next _ inv.1 _ c.loop-place-test.true _ c.cents-in-loop-place.ensures,
    )
