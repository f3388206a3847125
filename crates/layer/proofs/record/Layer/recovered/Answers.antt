-- `layer::record::Layer::recovered` meets its contract.
-- Assumes nothing.
use mathlib.Core.Path.{ap, ◌∙◌}
use Rattle.layer.specs.Layer.{placed_of, recovered_of}
use Rattle.layer.proofs.record.Layer.recovered.Goals as goal

pub returns : goal.returns
unfolding recovered_of
returns c = c.placed_share.ensures ∙ ap (placed_of _) c.used.ensures
