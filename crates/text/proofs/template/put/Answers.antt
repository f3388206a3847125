-- `text::template::put` meets its contract.
-- Assumes nothing.
use Rattle.std.proofs.Common.{rules}
use Rattle.text.proofs.Filling as law
use Rattle.text.proofs.template.put.Goals as goal
use Rattle.text.proofs.template.put.Goals.{then-is_capital, else-is_capital}

pub bounds-values-k : goal.bounds-values-k
bounds-values-k c = search law.number-there

pub loop-byte-preserved : goal.loop-byte-preserved
loop-byte-preserved c =
    elim c.if-is_capital.branch [
      | then-is_capital w ↦ rw (w.out-is, w.k-is, w.j-is) (search law.number-filled)
      | else-is_capital w ↦ rw (w.out-is, w.k-is, w.j-is) (search law.byte-filled)
    ]

pub returns : goal.returns
returns c = (search law.all-filled, search law.all_short)
