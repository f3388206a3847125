-- `text::word::lowered` meets its contract.
-- Assumes nothing.
use Rattle.text.proofs.Marks.{lowered_bytes}
use Rattle.text.proofs.word.lowered.Goals as goal

pub returns : goal.returns
returns c = lowered_bytes _ _ _ c.at.ensures
