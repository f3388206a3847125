-- `text::buffer::put_within` meets its contract.
-- Assumes nothing.
use Rattle.std.proofs.Common.{◌+◌}
use Rattle.text.proofs.Copies as law
use Rattle.text.proofs.buffer.put_within.Given as goal

abbrev pub invariant-loop-i : goal.invariant-loop-i
invariant-loop-i g l = law.Copying l.elements l.initial.out l.at l.out (l.at + l.i) l.i
