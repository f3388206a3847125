-- `statement::lines::put_treaties` meets its contract.
-- Assumes nothing.
use Rattle.statement.proofs.LinePasses as law
use Rattle.statement.proofs.lines.put_treaties.Goals as goal
use Rattle.statement.proofs.lines.put_treaties.Goals.{then-number-ne0, else-number-ne0}

pub loop-treaty-preserved : goal.loop-treaty-preserved
loop-treaty-preserved c =
    elim c.if-number-ne0.branch [
      | then-number-ne0 w ↦
          rw (w.out-is, w.next-is)
          (law.treaty-put _ c.requires.1 _ _ _ c.loop-treaty.invariant c.loop-treaty-test.true w.if-number-ne0.true
          w.put_line-next.ensures.0 w.put_line-next.ensures.1)
      | else-number-ne0 w ↦
          rw (w.out-is, w.next-is)
          (law.treaty_absent _ c.requires.1 _ _ _ c.loop-treaty.invariant c.loop-treaty-test.true w.if-number-ne0.false)
    ]

pub returns : goal.returns
returns c = (
  law.treaties-put _ c.requires.1 _ _ _ c.loop-treaty.invariant c.loop-treaty-test.false,
  law.treaties-short _ c.requires.1 _ _ _ c.loop-treaty.invariant,
)
