-- `events::form::read_head` meets its contract.
-- Assumes nothing.
use Rattle.events.proofs.LineParts as law
use Rattle.events.proofs.form.read_head.Goals as goal

pub returns-then-line-lt8 : goal.returns-then-line-lt8
returns-then-line-lt8 c = search law.head_short

pub returns-then-seven-ne-EVENT : goal.returns-then-seven-ne-EVENT
returns-then-seven-ne-EVENT c = search law.head_other

pub returns : goal.returns
returns c = search law.head_read
