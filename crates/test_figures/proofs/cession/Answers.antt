-- `test_figures::cession`: no more is ceded of a loss than its amount.
use Rattle.std.proofs.Common.{arith}
use Rattle.treaty.proofs.Cessions.{ceded-le-amount}
use Rattle.test_figures.proofs.cession.Goals as goal

pub returns : goal.returns
returns g c =
    let ceded = ceded-le-amount c.args.treaty c.args.taken c.args.loss c.requires.0.cede in
    rw c.cede-c.ensures (omega (arith, ceded, c.requires.1.amount))
