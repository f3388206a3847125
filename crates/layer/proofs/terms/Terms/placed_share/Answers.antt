-- `layer::terms::Terms::placed_share` meets its contract.
-- Assumes nothing.
use Rattle.layer.specs.Layer.{placed_of}
use Rattle.layer.proofs.terms.Terms.placed_share.Goals as goal

pub returns : goal.returns
unfolding placed_of
returns c = c.placed_share.ensures
