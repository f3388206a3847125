-- `text::number::read_short` meets its contract.
-- Assumes nothing.
use Rattle.text.proofs.Digits as law
use Rattle.text.proofs.number.read_short.Goals as goal

pub returns-then-s-at : goal.returns-then-s-at
returns-then-s-at c = search (law.missing, law.number-end)

pub returns-then-value-ge10 : goal.returns-then-value-ge10
returns-then-value-ge10 c = search (law.missing, law.number-other)

pub returns : goal.returns
returns c = search (law.on-from, law.number-digit)
