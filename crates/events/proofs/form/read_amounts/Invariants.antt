-- `events::form::read_amounts` meets its contract.
-- Assumes nothing.
use Rattle.events.proofs.LineParts as law
use Rattle.events.proofs.form.read_amounts.Given as goal

abbrev pub invariant-loop-value : goal.invariant-loop-value
invariant-loop-value l =
    law.Reading l.line (law.amounts l.line l.treaty l.at) l.treaty l.maximum l.place l.last

abbrev pub decreases-loop-value : goal.decreases-loop-value
decreases-loop-value l = law.after_this l.last
