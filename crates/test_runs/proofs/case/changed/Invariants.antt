-- `test_runs::case::changed` counts no more bytes than it has looked at.
-- Assumes nothing.
use Prim.Native.Nat.{◌≤◌}
use Rattle.test_runs.proofs.case.changed.Given as goal

abbrev pub invariant-loop-byte : goal.invariant-loop-byte
invariant-loop-byte l = l.count ≤ l.byte-index
