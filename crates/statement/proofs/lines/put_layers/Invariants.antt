-- `statement::lines::put_layers` meets its contract.
-- Assumes nothing.
use Rattle.statement.specs.LineKinds.{tier_template}
use Rattle.statement.proofs.LinePasses as law
use Rattle.statement.proofs.lines.put_layers.Given as goal

abbrev pub invariant-loop-i : goal.invariant-loop-i
invariant-loop-i l =
    law.LayersPut (tier_template l.tier) l.terms l.spent l.timed l.initial.out l.at l.out l.next l.i
