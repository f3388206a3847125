-- `losses::kept::count` meets its contract.
-- Assumes nothing.
use mathlib.Core.Path.{sym}
use Rattle.losses.proofs.Triples.{losses-count}
use Rattle.losses.proofs.kept.count.Goals as goal

pub returns : goal.returns
returns c = sym (losses-count c.args.losses.now)
