-- `standings::tier::exhausted` meets its contract.
-- Assumes nothing.
use Rattle.standings.proofs.Extent as law
use Rattle.standings.proofs.tier.exhausted.Given as goal

abbrev pub invariant-loop-place : goal.invariant-loop-place
invariant-loop-place l = law.Exhausting l.terms l.spent l.place
