-- `table::read_lines` meets its contract.
-- Assumes nothing.
use Rattle.std.proofs.Common.{◌∙◌, refl, sym, arith}
use Rattle.refusal.proofs.Numbers.{not_zero}
use Rattle.table.proofs.LinePass as law
use Rattle.table.proofs.read_lines.Goals as goal

pub returns-then-end-text : goal.returns-then-end-text
returns-then-end-text c =
    rw c.at-then-end-text.ensures
    (law.no-feed c.loop-at.invariant _ c.end-end.ensures.0 c.loop-at-test.true c.if-end-text.true
    ∙ law.not_long _ c.if-text-gt-TABLE_BYTES.false)

pub returns-in_default : goal.returns-in_default
returns-in_default c =
    rw c.at-in_default.ensures
    (law.no-form c.loop-at.invariant _ c.end-end.ensures.0 c.loop-at-test.true c.if-end-text.false _ c.read.ensures
    c.in_default.is ∙ law.not_long _ c.if-text-gt-TABLE_BYTES.false)

pub fault-requires : goal.fault-requires
fault-requires c = search law.eight-at-most

pub returns-in-Err : goal.returns-in-Err
returns-in-Err c =
    rw c.at-in-Err.ensures
    (law.at-fault c.loop-at.invariant _ c.end-end.ensures.0 c.loop-at-test.true c.if-end-text.false _ c.read.ensures
    _ c.in-Some.is _ (c.in-Err.ensures {u = tt}) (λ z. omega (arith, not_zero c.in-Err.refusal))
    ∙ law.not_long _ c.if-text-gt-TABLE_BYTES.false)

pub add-requires : goal.add-requires
add-requires c =
    law.has-room c.loop-at.invariant _ c.end-end.ensures.0 c.loop-at-test.true c.if-end-text.false _ c.read.ensures
    _ c.in-Some.is _ (c.in_default-fault.ensures {u = tt}) refl

pub after-before-requires : goal.after-before-requires
after-before-requires c = (search law.eight-at-most, sym (c.in_default-fault.ensures {u = tt}))

pub loop-at-preserved : goal.loop-at-preserved
loop-at-preserved c =
    rw (c.add.ensures, c.after-before.ensures)
    (law.enters c.loop-at.invariant _ c.end-end.ensures.0 c.loop-at-test.true c.if-end-text.false _ c.read.ensures
    _ c.in-Some.is _ (c.in_default-fault.ensures {u = tt}) refl c.end-end.ensures.1 c.end-end.ensures.2)

pub returns : goal.returns
returns c =
    law.all_read c.loop-at.invariant c.loop-at-test.false ∙ law.not_long _ c.if-text-gt-TABLE_BYTES.false

pub returns-then-text-gt-TABLE_BYTES : goal.returns-then-text-gt-TABLE_BYTES
returns-then-text-gt-TABLE_BYTES c = rw c.at.ensures (law.too_long _ c.if-text-gt-TABLE_BYTES.true)
