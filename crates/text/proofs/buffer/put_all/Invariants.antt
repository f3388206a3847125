-- `text::buffer::put_all` meets its contract.
-- Assumes nothing.
use Rattle.text.proofs.Copies as law
use Rattle.text.proofs.buffer.put_all.Given as goal

abbrev pub invariant-loop-element : goal.invariant-loop-element
invariant-loop-element g l = law.Copying l.elements l.initial.out l.at l.out l.next l.element-index
