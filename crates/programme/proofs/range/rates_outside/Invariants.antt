-- `programme::range::rates_outside` meets its contract.
-- Assumes nothing.
use Rattle.programme.proofs.Rates as law
use Rattle.programme.proofs.range.rates_outside.Given as goal

abbrev pub invariant-loop-i : goal.invariant-loop-i
invariant-loop-i l = law.Looking l.used l.rates l.i
