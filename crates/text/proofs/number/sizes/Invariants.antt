-- `text::number::sizes` meets its contract.
-- Assumes nothing.
use Rattle.text.proofs.Lengths as law
use Rattle.text.proofs.number.sizes.Given as goal

abbrev pub invariant-loop-number : goal.invariant-loop-number
invariant-loop-number l = law.Counting l.numbers l.sum l.number-index
