-- `events::form::read_loss` meets its contract.
-- Assumes nothing.
use Rattle.std.proofs.Common.{arith, ◌∙◌}
use Rattle.events.proofs.LineParts as law
use Rattle.events.proofs.form.read_loss.Goals as goal

pub returns-then-line-at-lt8 : goal.returns-then-line-at-lt8
returns-then-line-at-lt8 c = search law.loss-short

pub returns-then-seven-ne-LOSS : goal.returns-then-seven-ne-LOSS
returns-then-seven-ne-LOSS c = search law.loss-other

pub returns-in_err-treaty : goal.returns-in_err-treaty
returns-in_err-treaty c =
    let missing = c.in_err-treaty.was {u = tt} in c.from_residual.ensures ∙ search law.no-treaty

pub returns-then-stands : goal.returns-then-stands
returns-then-stands c = let found = c.in_ok-treaty.was {u = tt} in search law.treaty-read

pub returns : goal.returns
returns c = let found = c.in_ok-treaty.was {u = tt} in search law.treaty-unended
