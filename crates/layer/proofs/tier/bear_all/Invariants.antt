-- `layer::tier::bear_all` meets its contract.
-- Assumes nothing.
use Rattle.layer.proofs.TierPass as law
use Rattle.layer.proofs.tier.bear_all.Given as goal

abbrev pub invariant-loop-layer : goal.invariant-loop-layer
invariant-loop-layer l = law.Passed l.subjects l.initial.layers l.initial.sums l.layer-index l.layers l.sums
