-- `programme::rule::treaty_fault` meets its contract.
-- Assumes nothing.
use native.Mathlib.Omega.{arith}
use Rattle.std.proofs.lemmas.Bool.Decides.{nat_tests}
use Rattle.programme.specs.Rules.{treaty_fault}
use Rattle.programme.proofs.rule.treaty_fault.Goals as goal

pub returns-then-treaty_outside-gt0 : goal.returns-then-treaty_outside-gt0
unfolding treaty_fault
returns-then-treaty_outside-gt0 c = grind (arith, nat_tests)

pub returns-then-later-gt0 : goal.returns-then-later-gt0
unfolding treaty_fault
returns-then-later-gt0 c = grind (arith, nat_tests)

pub returns : goal.returns
unfolding treaty_fault
returns c = grind (arith, nat_tests)
