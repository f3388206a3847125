-- `layer::terms::Terms::premium_at` meets its contract.
-- Assumes nothing.
use mathlib.Core.Path.{◌∙◌}
use Rattle.layer.specs.Layer.{premium_of}
use Rattle.layer.proofs.terms.Terms.premium_at.Goals as goal

pub returns : goal.returns
unfolding premium_of
returns c = c.premium_for.ensures ∙ rw (c.less.ensures, c.new.ensures)
