-- `text::number::sizes` meets its contract.
-- Assumes nothing.
use Rattle.std.proofs.Common.{rules}
use Rattle.text.proofs.Lengths as law
use Rattle.text.proofs.number.sizes.Goals as goal

pub loop-number-init : goal.loop-number-init
loop-number-init c = search law.none-counted

pub loop-number-preserved : goal.loop-number-preserved
loop-number-preserved c = search law.one-counted

pub returns : goal.returns
returns c = (search law.all-counted, search rules)
