-- `table::print::put_layers` meets its contract.
-- Assumes nothing.
use Rattle.std.proofs.Common.{rules}
use Rattle.table.proofs.Tables as law
use Rattle.table.proofs.print.put_layers.Goals as goal

pub put_terms-next-requires : goal.put_terms-next-requires
put_terms-next-requires c =
    (search (law.lined_small, rules), search rules, search rules, search law.few-used)

pub loop-l-preserved : goal.loop-l-preserved
loop-l-preserved c = search law.one_lined
