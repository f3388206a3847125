-- `text::line::stands` meets its contract.
-- Assumes nothing.
use Rattle.std.proofs.Common.{arith}
use Rattle.text.proofs.Begins as law
use Rattle.text.proofs.line.stands.Goals as goal

pub returns-then-at-s : goal.returns-then-at-s
returns-then-at-s c = law.stands_here _ _ _ (omega arith)

pub returns : goal.returns
returns c = law.stands-nowhere _ _ _ (omega arith)
