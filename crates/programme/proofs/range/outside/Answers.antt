-- `programme::range::outside` meets its contract.
-- Assumes nothing.
use native.Mathlib.Omega.{arith}
use Rattle.std.proofs.lemmas.Bool.Decides.{nat_tests}
use Rattle.programme.specs.Ranges.{outside}
use Rattle.programme.proofs.range.outside.Goals as goal

pub returns : goal.returns
unfolding outside
returns c = grind (arith, nat_tests)
