-- `statement::print::put_figures` meets its contract.
-- Assumes nothing.
use borrow.Author.Rules.{rules}
use Rattle.statement.proofs.Pieced as law
use Rattle.statement.proofs.print.put_figures.Goals as goal

pub returns : goal.returns
returns c = (
  law.figures-put c.args.figures c.put_field-deductible.ensures.0 c.put_field-cover.ensures.0
      c.put_field-recovered.ensures.0 c.put_field-premium.ensures.0 c.put_within.ensures,
  search rules,
)
