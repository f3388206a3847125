-- `programme::range::treaty_not_zero` meets its contract.
-- Assumes nothing.
use Rattle.programme.specs.Ranges.{treaty_not_zero}
use borrow.Author.Rules.{rules}
use Rattle.programme.proofs.range.treaty_not_zero.Goals as goal

pub returns : goal.returns
unfolding treaty_not_zero
returns c = search rules
