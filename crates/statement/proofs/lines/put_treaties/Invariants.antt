-- `statement::lines::put_treaties` meets its contract.
-- Assumes nothing.
use Rattle.statement.proofs.LinePasses as law
use Rattle.statement.proofs.lines.put_treaties.Given as goal

abbrev pub invariant-loop-treaty : goal.invariant-loop-treaty
invariant-loop-treaty l = law.TreatiesPut l.register l.cessions l.initial.out l.at l.out l.next l.treaty-index
