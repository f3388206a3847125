-- `layer::record::Layer::bear_each` meets its contract.
-- Assumes nothing.
use Rattle.layer.proofs.Through.{terms-kept}
use Rattle.layer.proofs.record.Layer.bear_each.Goals as goal

pub returns : goal.returns
returns c = search terms-kept
