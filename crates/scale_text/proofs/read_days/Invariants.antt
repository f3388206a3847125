-- `scale_text::read_days` meets its contract.
-- Assumes nothing.
use Rattle.scale_text.proofs.LinePass as law
use Rattle.scale_text.proofs.read_days.Given as goal

abbrev pub invariant-loop-k : goal.invariant-loop-k
invariant-loop-k l = law.Going l.text l.shares l.before l.k l.at
