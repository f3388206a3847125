-- `layer::terms::Terms::rated` meets its contract.
-- Assumes nothing.
use mathlib.Core.Path.{◌∙◌}
use native.Mathlib.Omega.{arith}
use Rattle.layer.proofs.SlicePass as law
use Rattle.layer.proofs.terms.Terms.rated.Goals as goal

pub loop-rate-init : goal.loop-rate-init
loop-rate-init c = search law.none-added

pub returns-then-cents : goal.returns-then-cents
returns-then-cents c = law.none_above _ _ _ _ _ _ c.loop-rate.invariant (omega arith)

pub at_rate-requires : goal.at_rate-requires
at_rate-requires c =
    let above = c.placed_share-above.ensures ∙ law.next-recovered _ _ _ _ _ _ c.loop-rate.invariant _ (omega arith) in
    rw (c.less.ensures ∙ law.next-slice _ _ _ _ _ _ c.loop-rate.invariant _ above)
    (omega (arith, law.with_next_fits _ _ _ _ _ _ c.loop-rate.invariant c.loop-rate-test.true 0))

pub plus-sum-requires : goal.plus-sum-requires
plus-sum-requires c =
    let above = c.placed_share-above.ensures ∙ law.next-recovered _ _ _ _ _ _ c.loop-rate.invariant _ (omega arith) in
    rw (c.at_rate.ensures, c.less.ensures ∙ law.next-slice _ _ _ _ _ _ c.loop-rate.invariant _ above)
    (law.with_next_fits _ _ _ _ _ _ c.loop-rate.invariant c.loop-rate-test.true 0)

pub loop-rate-preserved : goal.loop-rate-preserved
loop-rate-preserved c =
    let above = c.placed_share-above.ensures ∙ law.next-recovered _ _ _ _ _ _ c.loop-rate.invariant _ (omega arith) in
    let slice = c.less.ensures ∙ law.next-slice _ _ _ _ _ _ c.loop-rate.invariant _ above in
    law.one-added _ _ _ _ _ _ c.loop-rate.invariant c.loop-rate-test.true 0 _ _ _
    (c.plus-sum.ensures ∙ rw (c.at_rate.ensures, slice)) above (omega arith)
