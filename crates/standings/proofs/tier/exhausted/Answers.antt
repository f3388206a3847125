-- `standings::tier::exhausted` meets its contract.
-- Assumes nothing.
use mathlib.Core.Path.{◌∙◌}
use Rattle.standings.proofs.Extent as law
use Rattle.standings.proofs.tier.exhausted.Goals as goal

pub returns-then-spent-place-clause-exhausted : goal.returns-then-spent-place-clause-exhausted
returns-then-spent-place-clause-exhausted c =
    law.exhausted_no_more c.loop-place.invariant _ c.loop-place-test.true _ (c.cents.ensures ∙ c.cap.ensures)
    c.if-spent-place.true

pub loop-place-preserved : goal.loop-place-preserved
loop-place-preserved c =
    law.one_exhausted c.loop-place.invariant _ c.loop-place-test.true _ (c.cents.ensures ∙ c.cap.ensures)
    c.if-spent-place.false

pub returns-clause-exhausted : goal.returns-clause-exhausted
returns-clause-exhausted c = search law.all_exhausted
