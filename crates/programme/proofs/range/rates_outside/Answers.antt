-- `programme::range::rates_outside` meets its contract.
-- Assumes nothing.
use mathlib.Core.Path.{refl, sym, ◌∙◌}
use native.Mathlib.Omega.{arith}
use borrow.Author.Tests.{ltb-true, ltb-false}
use Rattle.programme.proofs.Rates as law
use Rattle.programme.proofs.range.rates_outside.Goals as goal
use Rattle.programme.proofs.range.rates_outside.Goals.{then-used-i, else-used-i}
use Rattle.programme.proofs.range.rates_outside.Goals.{else-rate-ne0-via-then-rate-ne0+else-rate-gt-RATE}
use Rattle.programme.proofs.range.rates_outside.Goals.{else-rate-ne0-via-else-rate-ne0}

pub returns-then-rate-gt-RATE : goal.returns-then-rate-gt-RATE
returns-then-rate-gt-RATE c =
    let inv = c.loop-i.invariant in
    elim c.if-used-i.branch [
      | then-used-i w ↦ law.unused-refused inv c.loop-i-test.true _ refl w.if-used-i.true c.if-rate-ne0.true
      | else-used-i w ↦
          law.large-refused inv c.loop-i-test.true _ refl w.if-used-i.false
          (ltb-true _ _ (sym w.value-is ∙ c.if-rate-gt-RATE.true))
    ]

pub loop-i-preserved : goal.loop-i-preserved
loop-i-preserved c =
    let inv = c.loop-i.invariant in
    elim c.else-rate-ne0.branch [
      | else-rate-ne0-via-then-rate-ne0+else-rate-gt-RATE w ↦
          elim w.if-used-i.branch [
            | then-used-i v ↦ grind arith
            | else-used-i v ↦
                law.used_looked inv c.loop-i-test.true _ refl v.if-used-i.false
                (ltb-false _ _ (sym v.value-is ∙ w.if-rate-gt-RATE.false))
          ]
      | else-rate-ne0-via-else-rate-ne0 w ↦ law.zero_looked inv c.loop-i-test.true _ refl w.if-rate-ne0.false
    ]

pub returns : goal.returns
returns c = law.all_looked c.loop-i.invariant c.loop-i-test.false
