-- `text::number::put_within` meets its contract.
-- Assumes nothing.
use Rattle.std.proofs.Common.{rules}
use Rattle.text.proofs.Backwards as law
use Rattle.text.proofs.number.put_within.Goals as goal

pub overflow_sub-i : goal.overflow_sub-i
overflow_sub-i c = search law.two-inside

pub loop-v-preserved : goal.loop-v-preserved
loop-v-preserved c = search law.two_back

pub returns-then-v-lt10 : goal.returns-then-v-lt10
returns-then-v-lt10 c = (search law.first_back, search rules)

pub returns : goal.returns
returns c = (search law.pair-back, search rules)
