-- `statement::lines::put_layers` meets its contract.
-- Assumes nothing.
use Rattle.statement.proofs.LinePasses as law
use Rattle.statement.proofs.lines.put_layers.Goals as goal

pub put_layer-next-requires : goal.put_layer-next-requires
put_layer-next-requires c = (
  law.layers-small _ _ _ _ _ _ c.loop-i.invariant c.requires.0 c.requires.1,
  law.layer-sound _ _ _ _ _ _ c.loop-i.invariant c.loop-i-test.true _ _ c.of_standing-layer.ensures c.requires.4,
)

pub loop-i-preserved : goal.loop-i-preserved
loop-i-preserved c =
    law.layer-put _ _ _ _ _ _ c.loop-i.invariant c.loop-i-test.true _ _ c.of_standing-layer.ensures
    c.put_layer-next.ensures.0 c.put_layer-next.ensures.1
