-- `table::form::tail_time` meets its contract.
-- Assumes nothing.
use Rattle.table.proofs.LayerParts as law
use Rattle.table.proofs.form.tail_time.Goals as goal

pub returns-then-eq : goal.returns-then-eq
returns-then-eq c = search law.ends-plain

pub returns-then-eq-2 : goal.returns-then-eq-2
returns-then-eq-2 c = search law.ends-timed

pub returns : goal.returns
returns c = search law.ends_otherwise
