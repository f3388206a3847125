-- `scale::built_in` meets its contract: each entry of the table is by the rule, which is computed here once.
-- Assumes nothing.
use mathlib.Core.Path.{refl}
use Rattle.scale.specs.Scale.{day_share, time_shares}
use Rattle.scale.proofs.built_in.Goals as goal

pub returns : goal.returns
unfolding time_shares day_share
returns c = refl
