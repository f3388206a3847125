-- `table::print::put_treaties` meets its contract.
-- Assumes nothing.
use Rattle.table_text.specs.Forms.{treaty_line}
use Rattle.table.proofs.Tables as law
use Rattle.table.proofs.print.put_treaties.Given as goal

abbrev pub invariant-loop-t : goal.invariant-loop-t
invariant-loop-t l = law.Lined treaty_line 1200 l.treaties l.initial.out l.at l.out l.next l.t-index
