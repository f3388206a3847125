-- `text::word::marks` meets its contract.
-- Assumes nothing.
use Rattle.std.proofs.Common.{arith}
use lib.Bits.{and_le_r}
use Rattle.text.proofs.Marks.{marked-bytes}
use Rattle.text.proofs.word.marks.Goals as goal

pub returns : goal.returns
returns c = marked-bytes c.args.t
