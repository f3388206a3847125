-- `text::number::read_more` meets its contract.
-- Assumes nothing.
use Rattle.std.proofs.Common.{arith, rules}
use Rattle.text.proofs.Runs as run
use Rattle.text.proofs.number.read_more.Goals as goal

pub returns-then-next-ge10 : goal.returns-then-next-ge10
returns-then-next-ge10 c = run.no_more _ _ _ _ (omega arith) c.before.digit-next.ensures (omega arith)

pub returns-then-digits-eq8 : goal.returns-then-digits-eq8
returns-then-digits-eq8 c = search run.more-long

pub returns : goal.returns
returns c = search run.more-short
