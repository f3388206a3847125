-- `test_figures::premium`: the layer that bore the amount is as sound as before.
use Rattle.std.proofs.Common.{arith}
use Rattle.test_figures.proofs.Borne.{still-sound}
use Rattle.test_figures.proofs.premium.Goals as goal

pub returns : goal.returns
returns g c =
    let fair = c.share.ensures in
    still-sound _ _ _ _ c.bear-borne.ensures (omega (arith, c.nothing.ensures.0)) c.requires
