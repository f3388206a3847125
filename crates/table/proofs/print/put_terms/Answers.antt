-- `table::print::put_terms` meets its contract.
-- Assumes nothing.
use Rattle.std.proofs.Common.{arith, rules}
use Rattle.text.specs.Template.{capital, holes}
use Rattle.table.proofs.Tables as law
use Rattle.table.proofs.print.put_terms.Goals as goal

pub put-third-requires : goal.put-third-requires
unfolding capital holes
put-third-requires c = search rules

pub returns : goal.returns
returns c = (
  law.terms-put _ c.args.l.now c.requires.1 c.requires.3 (omega arith) c.put-first.ensures.0
      c.put_rates-second.ensures.0 c.put-third.ensures.0 c.put_tail.ensures.0,
  search rules,
)
