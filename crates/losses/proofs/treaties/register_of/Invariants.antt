-- `losses::treaties::register_of` meets its contract.
-- Assumes nothing.
use Rattle.losses.proofs.RegisterPass as law
use Rattle.losses.proofs.treaties.register_of.Given as goal

abbrev pub invariant-loop-t : goal.invariant-loop-t
invariant-loop-t l = law.Keeping l.t-items l.register l.t-index
