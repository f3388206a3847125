-- `programme::range::terms_outside` meets its contract.
-- Assumes nothing.
use Rattle.programme.specs.Ranges.{terms_outside}
use borrow.Author.Rules.{rules}
use Rattle.programme.proofs.range.terms_outside.Goals as goal

pub returns : goal.returns
unfolding terms_outside
returns c = search rules
