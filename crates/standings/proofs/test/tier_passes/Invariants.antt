-- `standings::test::tier_passes` meets its contract.
-- Assumes nothing.
use Rattle.standings.proofs.Tests as law
use Rattle.standings.proofs.test.tier_passes.Given as goal

abbrev pub invariant-loop-place : goal.invariant-loop-place
invariant-loop-place l = law.Passing l.terms l.spent l.timed l.place
