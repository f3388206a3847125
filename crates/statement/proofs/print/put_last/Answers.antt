-- `statement::print::put_last` meets its contract.
-- Assumes nothing.
use borrow.Author.Rules.{rules}
use Rattle.statement.proofs.Pieced as law
use Rattle.statement.proofs.print.put_last.Goals as goal

pub returns : goal.returns
returns c = (
  law.last-amounts c.args.amounts c.put_field-cat.ensures.0 c.put_field-net.ensures.0
      c.put_field-premium.ensures.0 c.put_within.ensures,
  search rules,
)
