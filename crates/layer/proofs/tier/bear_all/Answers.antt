-- `layer::tier::bear_all` meets its contract.
-- Assumes nothing.
use Rattle.std.proofs.Common.{arith}
use Rattle.layer.proofs.TierPass as law
use Rattle.layer.proofs.tier.bear_all.Goals as goal

pub loop-layer-init : goal.loop-layer-init
loop-layer-init c = law.none_passed _ _ _ c.requires.0 c.requires.1

pub loop-layer-preserved : goal.loop-layer-preserved
loop-layer-preserved c =
    law.one-passed _ _ _ _ _ _ c.loop-layer.invariant _ (omega (arith, c.loop-layer.invariant.places)) _
    c.bear_each-borne.ensures
