-- `scale::passes` meets its contract.
-- Assumes nothing.
use Rattle.scale.proofs.Passing as law
use Rattle.scale.proofs.passes.Given as goal

abbrev pub invariant-loop-share : goal.invariant-loop-share
invariant-loop-share l = law.Falling l.shares l.before l.share-index
