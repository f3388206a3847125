-- `text::number::put_cut` meets its contract.
-- Assumes nothing.
use Rattle.text.proofs.Backwards as law
use Rattle.text.proofs.number.put_cut.Given as goal

abbrev pub invariant-loop-v : goal.invariant-loop-v
invariant-loop-v l = law.Backward l.n l.initial.out l.at l.out l.v l.i

abbrev pub decreases-loop-v : goal.decreases-loop-v
decreases-loop-v l = l.v
