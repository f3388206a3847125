-- `text::word::leading` meets its contract.
-- Assumes nothing.
use Rattle.text.proofs.Zeros.{leading-bytes}
use Rattle.text.proofs.word.leading.Goals as goal

pub returns : goal.returns
returns c = rw c.byte_with.ensures (leading-bytes _ _ c.before.marks.ensures)
