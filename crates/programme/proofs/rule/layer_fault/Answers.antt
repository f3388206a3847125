-- `programme::rule::layer_fault` meets its contract.
-- Assumes nothing.
use native.Mathlib.Omega.{arith}
use Rattle.std.proofs.lemmas.Bool.Decides.{nat_tests}
use Rattle.programme.specs.Rules.{layer_fault}
use Rattle.programme.proofs.rule.layer_fault.Goals as goal

pub returns-then-terms_outside-gt0 : goal.returns-then-terms_outside-gt0
unfolding layer_fault
returns-then-terms_outside-gt0 c = grind (arith, nat_tests)

pub returns-then-later-gt0 : goal.returns-then-later-gt0
unfolding layer_fault
returns-then-later-gt0 c = grind (arith, nat_tests)

pub returns-then-l-before : goal.returns-then-l-before
unfolding layer_fault
returns-then-l-before c = grind (arith, nat_tests)

pub returns : goal.returns
unfolding layer_fault
returns c = grind (arith, nat_tests)
