-- `test_tables::task::read` has a place for its last number.
use Rattle.std.proofs.Common.{◌≤◌}
use Rattle.test_tables.proofs.task.read.Given as goal

abbrev pub invariant-loop-byte : goal.invariant-loop-byte
invariant-loop-byte l = l.last ≤ 7
