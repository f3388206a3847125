-- `events::form::read_amounts` meets its contract.
-- Assumes nothing.
use Rattle.std.proofs.Common.{arith, ◌∙◌}
use Rattle.events.proofs.LineParts as law
use Rattle.events.proofs.form.read_amounts.Goals as goal

pub returns-in_err-value : goal.returns-in_err-value
returns-in_err-value c =
    let missing = c.in_err-value.was {u = tt} in c.from_residual.ensures ∙ search law.no-amount

pub returns-then-stands : goal.returns-then-stands
returns-then-stands c = let found = c.in_ok-value.was {u = tt} in search law.amount-read

pub returns-then-last : goal.returns-then-last
returns-then-last c = let found = c.in_ok-value.was {u = tt} in search law.amount-unended

pub loop-value-preserved : goal.loop-value-preserved
loop-value-preserved c = let found = c.in_ok-value.was {u = tt} in search law.maximum_read

pub returns-else-stands-2 : goal.returns-else-stands-2
returns-else-stands-2 c = let found = c.in_ok-value.was {u = tt} in search law.maximum_unended
