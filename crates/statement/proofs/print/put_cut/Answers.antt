-- `statement::print::put_cut` meets its contract.
-- Assumes nothing.
use borrow.Author.Rules.{rules}
use Rattle.statement.proofs.Pieced as law
use Rattle.statement.proofs.print.put_cut.Goals as goal

pub returns : goal.returns
returns c = (law.cut-put c.put_within-end.ensures.0 (search rules) c.put_all.ensures, search rules)
