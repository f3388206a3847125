-- `programme::valid::holds` meets its contract.
-- Assumes nothing.
use Rattle.std.proofs.lemmas.Bool.Decides.{nat_tests}
use native.Mathlib.Omega.{arith}
use Rattle.programme.specs.Valid.{valid_treaties, valid_layers, valid}
use Rattle.programme.proofs.valid.holds.Goals as goal
use Rattle.programme.proofs.valid.holds.Goals.{then-keep_to_rules, else-keep_to_rules}

pub returns-then-keep_to_rules-2 : goal.returns-then-keep_to_rules-2
unfolding valid valid_treaties valid_layers
returns-then-keep_to_rules-2 c =
    elim c.if-keep_to_rules.branch [ then-keep_to_rules w ↦ grind (arith, nat_tests) | else-keep_to_rules w ↦ grind (arith, nat_tests) ]

pub returns-else-keep_to_rules-2 : goal.returns-else-keep_to_rules-2
unfolding valid valid_treaties valid_layers
returns-else-keep_to_rules-2 c =
    elim c.if-keep_to_rules.branch [ then-keep_to_rules w ↦ grind (arith, nat_tests) | else-keep_to_rules w ↦ grind (arith, nat_tests) ]
