-- `statement::print::put_layer` meets its contract.
-- Assumes nothing.
use borrow.Author.Rules.{rules}
use Rattle.statement.proofs.Pieced as law
use Rattle.statement.proofs.print.put_layer.Goals as goal

pub returns : goal.returns
returns c = (
  law.layer-put c.args.tier _ _ c.beginning.ensures.0 c.put_field-next.ensures.0 c.put_figures.ensures.0,
  search rules,
)
