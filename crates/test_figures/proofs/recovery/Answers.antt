-- `test_figures::recovery`: the layer that bore the amount is as sound as before.
use Rattle.std.proofs.Common.{arith}
use Rattle.test_figures.proofs.Borne.{still-sound}
use Rattle.test_figures.proofs.recovery.Goals as goal

pub returns : goal.returns
returns g c = still-sound _ _ _ _ c.bear-borne.ensures (omega (arith, c.nothing.ensures.0)) c.requires
