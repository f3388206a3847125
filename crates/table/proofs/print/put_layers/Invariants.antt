-- `table::print::put_layers` meets its contract.
-- Assumes nothing.
use Rattle.table_text.specs.Forms.{terms_line}
use Rattle.table.proofs.Tables as law
use Rattle.table.proofs.print.put_layers.Given as goal

abbrev pub invariant-loop-l : goal.invariant-loop-l
invariant-loop-l l = law.Lined (terms_line l.begin) 3200 l.layers l.initial.out l.at l.out l.next l.l-index
