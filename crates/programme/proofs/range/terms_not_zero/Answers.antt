-- `programme::range::terms_not_zero` meets its contract.
-- Assumes nothing.
use Rattle.programme.specs.Ranges.{terms_not_zero}
use borrow.Author.Rules.{rules}
use Rattle.programme.proofs.range.terms_not_zero.Goals as goal

pub returns : goal.returns
unfolding terms_not_zero
returns c = search rules
