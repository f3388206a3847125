-- `layer::record::Layer::take_each` meets its contract.
-- Assumes nothing.
use Rattle.std.proofs.Common.{arith}
use Rattle.layer.proofs.LayerPass as law
use Rattle.layer.proofs.record.Layer.take_each.Goals as goal

pub loop-subject-preserved : goal.loop-subject-preserved
loop-subject-preserved c =
    law.one-taken _ _ _ _ c.loop-subject.invariant 0 (omega arith) _ c.brings.ensures _ c.take-layer.ensures
