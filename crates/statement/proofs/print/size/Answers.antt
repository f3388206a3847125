-- `statement::print::size` meets its contract.
-- Assumes nothing.
use mathlib.Core.Path.{refl}
use Rattle.statement.proofs.LineSizes as law
use Rattle.statement.proofs.print.size.Goals as goal

pub returns-in-Event : goal.returns-in-Event
returns-in-Event c = law.sized c.in-Event.is refl c.sizes.ensures.0 c.sizes.ensures.1

pub returns-in-Treaty : goal.returns-in-Treaty
returns-in-Treaty c = law.sized c.in-Treaty.is refl c.sizes-in-Treaty.ensures.0 c.sizes-in-Treaty.ensures.1

pub returns-in-Layer : goal.returns-in-Layer
returns-in-Layer c = law.sized c.in-Layer.is c.layer_bytes.ensures.0 c.sizes-in-Layer.ensures.0 c.sizes-in-Layer.ensures.1

pub returns-in-Total : goal.returns-in-Total
returns-in-Total c = law.sized c.in-Total.is refl c.sizes-in-Total.ensures.0 c.sizes-in-Total.ensures.1
