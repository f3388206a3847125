-- `text::line::place_of` meets its contract.
-- Assumes nothing.
use Rattle.text.proofs.Feeds as law
use Rattle.text.proofs.line.place_of.Given as goal

abbrev pub invariant-loop-i : goal.invariant-loop-i
invariant-loop-i l = law.Seeking l.byte l.s l.at l.i
