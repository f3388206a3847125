-- `table::print::put_table` meets its contract.
-- Assumes nothing.
use Rattle.std.proofs.Common.{arith, rules}
use Rattle.text.specs.Template.{capital, holes}
use Rattle.programme.proofs.Validity as valid
use Rattle.table.proofs.Tables as law
use Rattle.table.proofs.print.put_table.Goals as goal

pub shared_ref_as_front-treaties : goal.shared_ref_as_front-treaties
shared_ref_as_front-treaties c = search valid.few-treaties

pub shared_ref_as_front-risk : goal.shared_ref_as_front-risk
shared_ref_as_front-risk c = search valid.few-risk

pub shared_ref_as_front-cat : goal.shared_ref_as_front-cat
shared_ref_as_front-cat c = search valid.few-cat

pub put_treaties-first-requires : goal.put_treaties-first-requires
put_treaties-first-requires c = (omega arith, law.treaties-fit _ c.requires)

pub put_layers-second-requires : goal.put_layers-second-requires
unfolding holes capital
put_layers-second-requires c =
    let fit = law.risk-fit _ c.requires in (search rules, fit.0, fit.1, search rules, search rules)

pub put_layers-requires : goal.put_layers-requires
unfolding holes capital
put_layers-requires c =
    let fit = law.cat-fit _ c.requires in (search rules, fit.0, fit.1, search rules, search rules)

pub returns : goal.returns
returns c = search law.table-put
