-- `text::number::read_on` meets its contract.
-- Assumes nothing.
use Rattle.std.proofs.Common.{◌≡◌, ◌^◌, ◌<◌, ◌≤◌, length, drop}
use Rattle.text.specs.Number.{read_on}
use Rattle.text.proofs.number.read_on.Given as goal

abbrev pub invariant-loop-i : goal.invariant-loop-i
invariant-loop-i l =
    (l.i ≤ length l.s) × (l.value < 10 ^ 16) × (read_on l.first (drop l.at l.s) ≡ read_on l.value (drop l.i l.s))
