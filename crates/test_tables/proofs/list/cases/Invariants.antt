-- `test_tables::list::cases` goes on behind the case that it has shown.
use Rattle.std.proofs.Common.{length, ◌-◌, ◌≤◌}
use Rattle.test_tables.proofs.list.cases.Given as goal

abbrev pub invariant-loop-at : goal.invariant-loop-at
invariant-loop-at g l = l.at ≤ length l.list

abbrev pub decreases-loop-at : goal.decreases-loop-at
decreases-loop-at g l = length l.list - l.at
