-- `text::number::put_cut` meets its contract.
-- Assumes nothing.
use Rattle.std.proofs.Common.{rules}
use Rattle.text.proofs.Backwards as law
use Rattle.text.proofs.number.put_cut.Goals as goal

pub overflow_sub-i : goal.overflow_sub-i
overflow_sub-i c = search law.one_inside

pub loop-v-preserved : goal.loop-v-preserved
loop-v-preserved c =
    let put = c.before.before in
    law.one-back _ _ _ _ _ _ put.before.before.before.loop-v.invariant (search rules) put.put.ensures

pub returns : goal.returns
returns c = (search law.first-put, search rules)
