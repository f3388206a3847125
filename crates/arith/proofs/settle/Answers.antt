-- `arith::settle` meets its contract.
-- Assumes nothing.
use Rattle.std.proofs.Common.{◌≡◌, ℕ, ◌+◌, ◌-◌, ◌*◌, ◌<◌, ◌≤◌, arith, rules}
use Rattle.arith.specs.Round.{rounded}
use Rattle.arith.proofs.Rounding.{rounded-is}
use Rattle.arith.proofs.settle.Goals as goal

-- the rest is less than what it lacks of the divisor, or not
lower : (q r d : ℕ) → r < d - r → q ≡ rounded (q * d + r) d
lower q r d h = rounded-is (q * d + r) q d (omega arith) (omega arith)

upper : (q r d : ℕ) → r < d → d - r ≤ r → q + 1 ≡ rounded (q * d + r) d
upper q r d hr h = rounded-is (q * d + r) (q + 1) d (omega arith) (omega arith)

pub returns-then-n-d : goal.returns-then-n-d
returns-then-n-d c = search (lower, rules)

pub returns-else-n-d : goal.returns-else-n-d
returns-else-n-d c = search (upper, rules)
