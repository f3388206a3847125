-- `losses::treaties::lacks` meets its contract.
-- Assumes nothing.
use mathlib.Core.Path.{refl}
use Rattle.losses.proofs.RegisteredTreaties as law
use Rattle.losses.proofs.treaties.lacks.Goals as goal

pub returns-then-number : goal.returns-then-number
returns-then-number c = law.lacks_within c.requires c.args.number c.if-number.true _ refl

pub returns : goal.returns
returns c = law.lacks_above c.requires c.args.number c.if-number.false
