-- `input_text::fill` reads on while the buffer has room. Each turn leaves fewer bytes of it to be filled.
use Rattle.std.proofs.Common.{length, ◌-◌, ◌≤◌}
use Rattle.input_text.proofs.fill.Given as goal

abbrev pub invariant-loop-size : goal.invariant-loop-size
invariant-loop-size g l = l.size ≤ length l.buffer

abbrev pub decreases-loop-size : goal.decreases-loop-size
decreases-loop-size g l = length l.initial.buffer - l.size
