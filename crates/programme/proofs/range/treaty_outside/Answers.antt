-- `programme::range::treaty_outside` meets its contract.
-- Assumes nothing.
use native.Mathlib.Omega.{arith}
use Rattle.std.proofs.lemmas.Bool.Decides.{nat_tests}
use Rattle.programme.specs.Ranges.{treaty_outside}
use Rattle.programme.proofs.range.treaty_outside.Goals as goal

pub returns-in-1 : goal.returns-in-1
unfolding treaty_outside
returns-in-1 c = grind (arith, nat_tests)

pub returns-in-2 : goal.returns-in-2
unfolding treaty_outside
returns-in-2 c = grind (arith, nat_tests)

pub returns-in_default : goal.returns-in_default
unfolding treaty_outside
returns-in_default c = grind (arith, nat_tests)
