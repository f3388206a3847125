-- Contracts whose numbers are within their ranges: all of those that keep to the rules of a table.
-- Assumes nothing.
use mathlib.Core.Path.{◌≡◌}
use mathlib.Core.List.{map}
use Rattle.lists.specs.Each.{Each}
use Rattle.lists.proofs.Each.{each_append, each_map, each-chained}
use Rattle.programme.specs.declared.contract.Contract.{Contract}
use Rattle.programme.specs.declared.contract.Contract.TheVariants.{Proportional, Risk, Cat}
use Rattle.programme.specs.Contract.{Contracts, contracts_in_order}
use Rattle.programme.specs.Ranges.{treaty_outside, terms_outside}
use Rattle.programme.specs.Rules.{treaty_number, band_end}
use Rattle.programme.specs.Valid.{treaty_passes, layer_passes}
use Rattle.programme.proofs.Lawful.{Lawful, treaty-passed, layer-passed}

-- every number of a contract is within its range
abbrev pub Fit : Contract → Type 0
Fit (Proportional t) = treaty_outside t ≡ 0
Fit (Risk l) = terms_outside l ≡ 0
Fit (Cat l) = terms_outside l ≡ 0

-- every contract of lawful ones is within its ranges
pub each-fit : (c : Contracts) → Lawful c → Each Fit (contracts_in_order c)
each-fit c g =
    each_append Fit (map Proportional c.treaties) _
    (each_map Fit Proportional c.treaties
    (each-chained _ treaty_passes treaty_number (λ n t e. (treaty-passed n t e).0) 0 c.treaties g.treaties))
    (each_append Fit (map Risk c.risk) _
    (each_map Fit Risk c.risk
    (each-chained _ layer_passes band_end (λ n l e. (layer-passed n l e).0) 0 c.risk g.risk))
    (each_map Fit Cat c.cat
    (each-chained _ layer_passes band_end (λ n l e. (layer-passed n l e).0) 0 c.cat g.cat)))
