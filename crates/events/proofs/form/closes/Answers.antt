-- `events::form::closes` meets its contract.
-- Assumes nothing.
use Rattle.events.proofs.LineEnds as law
use Rattle.events.proofs.form.closes.Goals as goal

pub returns-then-stands : goal.returns-then-stands
returns-then-stands c = law.ends-by-both _ _ _ c.stands.ensures c.if-stands.true _ c.stands-then-stands.ensures

pub returns-else-stands : goal.returns-else-stands
returns-else-stands c = law.ends_not _ _ _ c.stands.ensures c.if-stands.false
