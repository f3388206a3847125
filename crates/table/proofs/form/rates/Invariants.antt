-- `table::form::rates` meets its contract.
-- Assumes nothing.
use Rattle.table.proofs.RatePass as law
use Rattle.table.proofs.form.rates.Given as goal

abbrev pub invariant-loop-i : goal.invariant-loop-i
invariant-loop-i l = law.Rating l.line l.at l.count l.values l.end l.i
