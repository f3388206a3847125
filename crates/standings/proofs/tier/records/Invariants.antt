-- `standings::tier::records` meets its contract.
-- Assumes nothing.
use Rattle.standings.proofs.Loads as law
use Rattle.standings.proofs.tier.records.Given as goal

abbrev pub invariant-loop-place : goal.invariant-loop-place
invariant-loop-place l = law.Recorded l.terms l.spent l.timed l.layers l.place
