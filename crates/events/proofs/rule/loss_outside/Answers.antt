-- `events::rule::loss_outside` meets its contract.
-- Assumes nothing.
use borrow.Author.Rules.{rules}
use Rattle.events.proofs.Faults as law
use Rattle.events.proofs.rule.loss_outside.Goals as goal

pub returns : goal.returns
returns c = (search law.loss-outside, search rules)
