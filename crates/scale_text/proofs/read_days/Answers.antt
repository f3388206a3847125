-- `scale_text::read_days` meets its contract.
-- Assumes nothing.
use Rattle.std.proofs.Common.{rules, refl, sym, ◌∙◌, arith, lit≤}
use Rattle.refusal.proofs.Numbers.{not_zero}
use Rattle.text.specs.Template.{capital, holes}
use Rattle.scale_text.proofs.LinePass as law
use Rattle.scale_text.proofs.read_days.Goals as goal

pub loop-k-init : goal.loop-k-init
loop-k-init c = search law.going-begins

pub returns-then-text-at : goal.returns-then-text-at
returns-then-text-at c =
    rw c.at.ensures
    (law.too_few _ _ _ _ _ c.loop-k.invariant c.if-text-at.true (λ z. omega (arith, z, c.loop-k-test.true)))

pub returns-then-end-text : goal.returns-then-end-text
returns-then-end-text c =
    rw c.at-then-end-text.ensures
    (law.no-feed _ _ _ _ _ c.loop-k.invariant c.if-text-at.false (λ z. omega (arith, z, c.loop-k-test.true)) _
    c.end-end.ensures.0 c.if-end-text.true)

pub read_line-requires : goal.read_line-requires
unfolding holes capital
read_line-requires c = lit≤ tt

pub returns-in_default : goal.returns-in_default
returns-in_default c =
    rw c.at-in_default.ensures
    (law.no-form _ _ _ _ _ c.loop-k.invariant c.if-text-at.false (λ z. omega (arith, z, c.loop-k-test.true)) _
    c.end-end.ensures.0 (search rules) c.if-end-text.false (sym c.in_default.is ∙ c.read_line.ensures))

pub returns-in-Err : goal.returns-in-Err
returns-in-Err c =
    let g = c.loop-k.invariant in
    rw c.at-in-Err.ensures
    (law.at-fault _ _ _ _ _ g c.if-text-at.false (λ z. omega (arith, z, c.loop-k-test.true)) _ c.end-end.ensures.0 (search rules)
    c.if-end-text.false _ (sym c.in-Some.is ∙ c.read_line.ensures) _ (c.in-Err.ensures {u = tt})
    (λ z. omega (arith, not_zero c.in-Err.found)))

pub loop-k-preserved : goal.loop-k-preserved
loop-k-preserved c =
    let g = c.loop-k.invariant in
    law.goes_on _ _ _ _ _ g c.if-text-at.false (λ z. omega (arith, z, c.loop-k-test.true)) _ c.end-end.ensures.0 (search rules)
    c.if-end-text.false _ (sym c.in-Some.is ∙ c.read_line.ensures) _ (c.in_default-fault.ensures {u = tt}) refl

pub returns-then-at-text : goal.returns-then-at-text
returns-then-at-text c =
    rw c.at-then-at-text.ensures
    (law.too_many _ _ _ _ _ c.loop-k.invariant c.if-at-text.true
    (omega (arith, c.loop-k-test.false, c.loop-k.invariant.few)))

pub returns : goal.returns
returns c =
    law.all_read _ _ _ _ _ c.loop-k.invariant c.if-at-text.false
    (omega (arith, c.loop-k-test.false, c.loop-k.invariant.few))
