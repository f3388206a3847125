-- `table::print::put_rates` meets its contract.
-- Assumes nothing.
use Rattle.table.proofs.RatePass as law
use Rattle.table.proofs.print.put_rates.Given as goal

abbrev pub invariant-loop-rate : goal.invariant-loop-rate
invariant-loop-rate l = law.Charged l.rates l.initial.out l.at l.out l.next l.rate-index
