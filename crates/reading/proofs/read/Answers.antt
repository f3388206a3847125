-- `reading::read` meets its contract.
-- Assumes nothing.
use Rattle.std.proofs.Common.{refl, arith}
use Rattle.refusal.proofs.Numbers.{not_zero}
use Rattle.reading.proofs.LossRead as loss
use Rattle.reading.proofs.LineRead as law
use Rattle.reading.proofs.read.Goals as goal
use Rattle.reading.proofs.read.Goals.{in_default, in-Some+then-losses-test+in_default-read_loss}
use Rattle.reading.proofs.read.Goals.{in-Some+else-losses-test+in-Err}

pub losses-init : goal.losses-init
losses-init c = search law.first-listed

pub keep_loss-next-requires : goal.keep_loss-next-requires
keep_loss-next-requires c = search law.next_small

pub losses-smaller : goal.losses-smaller
losses-smaller c = search loss.less_left

pub losses-preserved : goal.losses-preserved
losses-preserved c = search loss.one-listed

pub overflow_add-idle : goal.overflow_add-idle
overflow_add-idle c = search law.idle-fits

pub lines-preserved : goal.lines-preserved
lines-preserved c =
    law.goes_on c.lines.invariant c.if-text-at.false c.losses.invariant _ c.stands.ensures c.losses-test.false _
    c.closes-closed.ensures _ (c.in_default-fault.ensures {u = tt}) refl _ _ _ c.keep_head.ensures c.idle_by-idle.ensures

pub overflow_sub-result : goal.overflow_sub-result
overflow_sub-result c = law.idle-within c.lines.invariant

pub returns-then-text-at : goal.returns-then-text-at
returns-then-text-at c = law.all_read c.lines.invariant c.if-text-at.true

pub returns : goal.returns
returns c =
    let g = c.lines.invariant in
    rw c.at.ensures
    (elim c.match-read_head.branch [
      | in_default w ↦
          rw w.refusal-is (law.no_head g c.if-text-at.false _ c.read_head.ensures w.in_default.is)
      | in-Some+then-losses-test+in_default-read_loss w ↦
          rw w.refusal-is
          (law.no-loss g c.if-text-at.false w.losses.invariant _ w.stands.ensures w.losses-test.true _
          w.read_loss.ensures w.in_default-read_loss.is)
      | in-Some+else-losses-test+in-Err w ↦
          rw w.refusal-is
          (law.faulty g c.if-text-at.false w.losses.invariant _ w.stands.ensures w.losses-test.false _
          w.closes-closed.ensures _ (w.in-Err.ensures {u = tt}) (λ z. omega (arith, not_zero w.in-Err.fault)))
    ])
