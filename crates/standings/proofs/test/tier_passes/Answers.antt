-- `standings::test::tier_passes` meets its contract.
-- Assumes nothing.
use borrow.Author.Rules.{rules}
use Rattle.standings.proofs.Tests as law
use Rattle.standings.proofs.test.tier_passes.Goals as goal

pub returns-then-not-layer_passes : goal.returns-then-not-layer_passes
returns-then-not-layer_passes c =
    law.pass_stops c.loop-place.invariant _ c.loop-place-test.true _ c.layer_passes.ensures c.if-not-layer_passes.true

pub loop-place-preserved : goal.loop-place-preserved
loop-place-preserved c =
    law.pass_next c.loop-place.invariant _ c.loop-place-test.true _ c.layer_passes.ensures c.if-not-layer_passes.false

pub returns-then-zeros : goal.returns-then-zeros
returns-then-zeros c =
    law.pass-ends c.loop-place.invariant c.loop-place-test.false (search rules) (search rules) _ _ c.zeros.ensures
    c.zeros-then-zeros.ensures c.if-zeros.true
