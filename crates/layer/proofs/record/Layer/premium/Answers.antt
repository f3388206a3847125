-- `layer::record::Layer::premium` meets its contract.
-- Assumes nothing.
use mathlib.Core.Path.{◌∙◌}
use Rattle.layer.specs.Layer.{premium_of}
use Rattle.layer.proofs.TimeTests.{shown-by-time, shown-by-amount}
use Rattle.layer.proofs.record.Layer.premium.Goals as goal

pub returns-then-is_timed : goal.returns-then-is_timed
returns-then-is_timed c = shown-by-time _ _ c.is_timed.ensures c.if-is_timed.true

pub returns : goal.returns
unfolding premium_of
returns c =
    c.premium_for.ensures ∙ rw c.used.ensures (shown-by-amount _ _ c.is_timed.ensures c.if-is_timed.false)
