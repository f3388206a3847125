-- `table::form::read` meets its contract.
-- Assumes nothing.
use Rattle.std.proofs.Common.{rules}
use Rattle.text.specs.Template.{capital, holes}
use Rattle.table.proofs.LineForms as law
use Rattle.table.proofs.form.read.Goals as goal

pub read_line-requires : goal.read_line-requires
unfolding capital holes
read_line-requires c = search rules

pub read_line-requires-in-2 : goal.read_line-requires-in-2
unfolding capital holes
read_line-requires-in-2 c = search rules

pub layer-requires : goal.layer-requires
unfolding capital holes
layer-requires c = search rules

pub layer-requires-in-4 : goal.layer-requires-in-4
unfolding capital holes
layer-requires-in-4 c = search rules

pub returns-in-1 : goal.returns-in-1
returns-in-1 c = search law.quota_line

pub returns-in-2 : goal.returns-in-2
returns-in-2 c = search law.surplus_line

pub returns-in-3 : goal.returns-in-3
returns-in-3 c = search law.risk_line

pub returns-in-4 : goal.returns-in-4
returns-in-4 c = search law.cat_line

pub returns-in_default : goal.returns-in_default
returns-in_default c = search law.no_line
