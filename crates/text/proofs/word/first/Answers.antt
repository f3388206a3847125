-- `text::word::first` meets its contract.
-- Assumes nothing.
use Rattle.std.proofs.Common.{arith}
use Rattle.text.proofs.Eights.{first-figures, first-value}
use Rattle.text.proofs.word.first.Goals as goal

pub eight-requires : goal.eight-requires
eight-requires c = first-figures _ _ (omega arith) c.requires.1 c.requires.2

pub returns : goal.returns
returns c = first-value _ _ (omega arith) c.before.requires.1 c.before.requires.2 _ c.eight.ensures
