-- Document 02, Q-13, used: from the amounts of one year of Redated the theorem alone gives those of the other.
-- Assumes nothing.
use mathlib.Core.Path.{◌≡◌, sym, ◌∙◌}
use mathlib.Core.List.{[], ◌∷◌}
use Rattle.scale.specs.Scale.{time_shares}
use Rattle.year.specs.Tiers.{cat}
use Rattle.year.specs.History.{spent_in, recoveries_in}
use Rattle.dealing.specs.Dealing.{amount_premiums_in, SameYear}
use Rattle.dealing.proofs.SameYear.{same-year}
use Rattle.dealing.proofs.Redated.{cat_table, dated, redated, both_table, contracts_in_order, changed_over}
use Rattle.dealing.proofs.Redated.{ledger_in, net_in, redated-figures as figures}
use Rattle.dealing.proofs.Apart.{dated-redated, order_changed_over}

-- without risk layers, of the first layer with (time) and of the second
cat-years : SameYear time_shares time_shares cat_table dated redated
cat-years = same-year time_shares time_shares cat_table dated redated dated-redated

pub spent_by_theorem : spent_in (ledger_in cat_table redated).cat ≡ 23200 ∷ 6000 ∷ []
spent_by_theorem = sym (cat-years.every-layer figures.without_risk cat).spent ∙ figures.dated-spent

pub recovered_by_theorem : recoveries_in (ledger_in cat_table redated).cat ≡ 6733 ∷ 4320 ∷ []
recovered_by_theorem = sym (cat-years.every-layer figures.without_risk cat).recovered ∙ figures.dated-recovered

pub premium_by_theorem : amount_premiums_in (ledger_in cat_table redated).cat ≡ 450 ∷ 0 ∷ []
premium_by_theorem = sym (cat-years.every-layer figures.without_risk cat).premium ∙ figures.dated-premium

pub net_by_theorem : net_in cat_table redated ≡ 41146
net_by_theorem = sym (cat-years.net figures.without_risk) ∙ figures.dated-net

-- with a risk layer and a catastrophe layer, of the risk layer
both-years : SameYear time_shares time_shares both_table contracts_in_order changed_over
both-years = same-year time_shares time_shares both_table contracts_in_order changed_over order_changed_over

pub risk_spent_by_theorem : spent_in (ledger_in both_table changed_over).risk ≡ 10000 ∷ []
risk_spent_by_theorem = sym both-years.risk-layers.spent ∙ figures.in_order_risk

pub risk_recovered_by_theorem : recoveries_in (ledger_in both_table changed_over).risk ≡ 9000 ∷ []
risk_recovered_by_theorem = sym both-years.risk-layers.recovered ∙ figures.in_order_recovered

pub risk_premium_by_theorem : amount_premiums_in (ledger_in both_table changed_over).risk ≡ 540 ∷ []
risk_premium_by_theorem = sym both-years.risk-layers.premium ∙ figures.in_order_premium
