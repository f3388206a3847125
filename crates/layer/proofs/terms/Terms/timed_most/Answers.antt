-- `layer::terms::Terms::timed_most` meets its contract.
-- Assumes nothing.
use mathlib.Core.Path.{◌∙◌}
use Rattle.layer.proofs.TimeTests.{most-by-time, most-by-amount}
use Rattle.layer.proofs.terms.Terms.timed_most.Goals as goal

pub returns-then-is_timed : goal.returns-then-is_timed
returns-then-is_timed c =
    c.premium_at.ensures ∙ most-by-time _ _ c.is_timed.ensures c.if-is_timed.true _

pub returns : goal.returns
returns c = c.none.ensures ∙ most-by-amount _ _ c.is_timed.ensures c.if-is_timed.false _
