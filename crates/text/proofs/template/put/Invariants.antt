-- `text::template::put` meets its contract.
-- Assumes nothing.
use Rattle.text.proofs.Filling as law
use Rattle.text.proofs.template.put.Given as goal

abbrev pub invariant-loop-byte : goal.invariant-loop-byte
invariant-loop-byte l = law.Filling l.template l.values l.initial.out l.at l.out l.k l.j l.byte-index
