-- `table::form::rates` meets its contract.
-- Assumes nothing.
use Rattle.std.proofs.Common.{◌∙◌}
use Rattle.table.proofs.RatePass as law
use Rattle.table.proofs.form.rates.Goals as goal
use Rattle.table.proofs.form.rates.Goals.{then-i, else-i}

pub returns-then-not-stands : goal.returns-then-not-stands
returns-then-not-stands c = search law.no-blank

pub returns-in_err-rate : goal.returns-in_err-rate
returns-in_err-rate c =
    let missing = c.in_err-rate.was {u = tt} in c.from_residual.ensures ∙ search law.no_rate

pub loop-i-preserved : goal.loop-i-preserved
loop-i-preserved c =
    let found = c.in_ok-rate.was {u = tt} in
    elim c.if-i.branch [
      | then-i w ↦ rw w.values-is (search law.rate_kept)
      | else-i w ↦ rw w.values-is (search law.rate_dropped)
    ]

pub returns : goal.returns
returns c = search law.all-rated
