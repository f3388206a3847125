-- `text::word::eight` meets its contract.
-- Assumes nothing.
use Rattle.std.proofs.Common.{arith}
use Rattle.text.proofs.Eights.{pairs, pairs-le, fours-le, pairs-fit, eight-value}
use Rattle.text.proofs.word.eight.Goals as goal

pub returns : goal.returns
returns c = eight-value c.args.t (omega arith) c.requires
