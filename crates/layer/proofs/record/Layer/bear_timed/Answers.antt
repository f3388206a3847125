-- `layer::record::Layer::bear_timed` meets its contract.
-- Assumes nothing.
use mathlib.Core.Path.{refl}
use native.Mathlib.Omega.{arith}
use Rattle.layer.proofs.BearPass as law
use Rattle.layer.proofs.record.Layer.bear_timed.Goals as goal

pub at_time-requires : goal.at_time-requires
at_time-requires c =
    law.grown_narrow _ _ _ c.loop-subject.invariant 0 c.loop-subject-test.true _ c.spent_after-after.ensures _
    c.premium_at-later.ensures _ c.less.ensures

pub plus-due-requires : goal.plus-due-requires
plus-due-requires c =
    let inv = c.loop-subject.invariant in
    let small =
    law.due-small _ _ _ inv 0 c.loop-subject-test.true _ c.spent_after-after.ensures _ c.premium_at-later.ensures _
    c.less.ensures _ c.at_time.ensures in
    omega (arith, small, inv.first.terms.premium)

pub loop-subject-preserved-then-cents : goal.loop-subject-preserved-then-cents
loop-subject-preserved-then-cents c =
    law.none-spent _ _ _ c.loop-subject.invariant 0 c.loop-subject-test.true _ c.spent_after-after.ensures
    (omega (arith, c.if-cents.true, c.cents-in-loop-subject.ensures, c.cents.ensures))

pub loop-subject-preserved : goal.loop-subject-preserved
loop-subject-preserved c =
    law.one-charged _ _ _ c.loop-subject.invariant 0 c.loop-subject-test.true _ c.spent_after-after.ensures _
    c.premium_at-later.ensures _ c.less.ensures _ c.at_time.ensures _ c.plus-due.ensures

pub plus-timed-requires : goal.plus-timed-requires
plus-timed-requires c = law.timed-fits _ _ _ c.loop-subject.invariant c.loop-subject-test.false

pub recovery_since-recovery-requires : goal.recovery_since-recovery-requires
recovery_since-recovery-requires c =
    (law.all_sound _ _ _ c.loop-subject.invariant c.loop-subject-test.false _ c.plus-timed.ensures, c.requires.0)

pub plus-requires : goal.plus-requires
plus-requires c =
    law.recovered-fits _ _ _ c.loop-subject.invariant c.loop-subject-test.false _ c.plus-timed.ensures _ refl
    c.requires.1 _ c.recovery_since-recovery.ensures

pub plus-requires-2 : goal.plus-requires-2
plus-requires-2 c =
    law.premium-fits _ _ _ c.loop-subject.invariant c.loop-subject-test.false _ c.plus-timed.ensures _ refl
    c.requires.1 _ c.recovery_since-recovery.ensures

pub returns : goal.returns
returns c =
    law.all-charged _ _ _ c.loop-subject.invariant c.loop-subject-test.false _ c.plus-timed.ensures _ refl
    c.requires.1 _ c.recovery_since-recovery.ensures _ _ c.plus.ensures c.plus-2.ensures
