-- `text::word::seven` meets its contract.
-- Assumes nothing.
use Rattle.text.proofs.Words.{seven_bytes}
use Rattle.text.proofs.word.seven.Goals as goal

pub returns : goal.returns
returns c = seven_bytes _ _ _ c.at.ensures
