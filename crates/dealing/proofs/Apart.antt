-- Document 02, Q-13: "net may then differ". Five claims that are stronger than `same-year` and not so: each, made for
-- all programmes and histories under the built-in shares, fails for a year of Redated.
-- Assumes nothing.
use mathlib.Core.Path.{◌≡◌, sym, ap, ◌∙◌}
use mathlib.Core.Logic.Or
use mathlib.Core.List.Perm
use mathlib.Core.List.{List, [], ◌∷◌, Perm, Subset, Mem-prop}
use mathlib.Core.List.{perm_middle, mem-cons_self, mem-cons_of_mem, eq-or-mem_of_mem-cons}
use native.Mathlib.Omega.{arith}
use Rattle.lists.specs.Sums.{total}
use Rattle.treaty.specs.declared.Loss.{Loss}
use Rattle.scale.specs.Scale.{time_shares}
use Rattle.programme.specs.declared.contract.Programme.{Programme}
use Rattle.year.specs.Tiers.{risk, cat}
use Rattle.year.specs.History.{Call, events_of_history, timed_in}
use Rattle.dealing.specs.Dealing.{Dealt, WithoutRisk, SameTier, SameNet}
use Rattle.dealing.proofs.Redated.{cat_table, dated, redated, once, twice, limited, large, small, no_losses}
use Rattle.dealing.proofs.Redated.{both_table, contracts_in_order, changed_over, highest, lower}
use Rattle.dealing.proofs.Redated.{risk_table, larger_first, smaller_first}
use Rattle.dealing.proofs.Redated.{lists_in, ledger_in, redated-figures as figures}

-- two histories, dealt from the same multiset of lists
abbrev DealtIn : Programme → (h k : List Call) → Type 0
DealtIn p h k = Dealt (events_of_history time_shares p h) (events_of_history time_shares p k)

-- so are those of Redated
pub dated-redated : DealtIn cat_table dated redated
dated-redated =
    rw (figures.dated_lists, figures.redated_lists)
    (Perm.trans (Perm.swap large limited (small ∷ no_losses ∷ large ∷ []))
    (Perm.cons large (perm_middle (limited ∷ small ∷ []) (large ∷ []))))

pub order_changed_over : DealtIn both_table contracts_in_order changed_over
order_changed_over = rw (figures.in_order_lists, figures.changed_over_lists) (Perm.swap lower highest [])

-- whatever the table, that both have the same net
pub net_may_differ : ((p : Programme) (h k : List Call) → DealtIn p h k → SameNet time_shares time_shares p h k) → ⊥
net_may_differ claim =
    let same = claim both_table contracts_in_order changed_over order_changed_over in
    omega (arith, same, figures.in_order_net, figures.changed_over_net)

-- whatever the table, that every catastrophe layer ends with the same three amounts
pub cat_may_differ : ((p : Programme) (h k : List Call) → DealtIn p h k → SameTier time_shares time_shares p h k cat) → ⊥
cat_may_differ claim =
    let same = (claim both_table contracts_in_order changed_over order_changed_over).spent in
    omega (arith, ap total (sym figures.in_order_cat ∙ same ∙ figures.changed_over_cat))

-- that the timed premium of a layer is the same
pub timed_may_differ : ((p : Programme) (h k : List Call) → WithoutRisk p → DealtIn p h k
    → timed_in (ledger_in p h).cat ≡ timed_in (ledger_in p k).cat) → ⊥
timed_may_differ claim =
    let same = claim cat_table dated redated figures.without_risk dated-redated in
    omega (arith, ap total (sym figures.dated-timed ∙ same ∙ figures.redated-timed))

-- that the order of the losses inside a list is free: of one event each
pub order_inside_counts : ((p : Programme) (h k : List Call) (xs ys : List Loss) → Perm xs ys
    → lists_in p h ≡ xs ∷ [] → lists_in p k ≡ ys ∷ [] → SameTier time_shares time_shares p h k risk) → ⊥
order_inside_counts claim =
    let same = (claim risk_table larger_first smaller_first _ _ (Perm.swap _ _ []) figures.larger_first_lists
    figures.smaller_first_lists).spent in
    omega (arith, ap total (sym figures.larger-first ∙ same ∙ figures.smaller_first_lem))

-- that it does not matter how often a list occurs
pub lists_are_counted : ((p : Programme) (h k : List Call) → WithoutRisk p → Subset (lists_in p h) (lists_in p k)
    → Subset (lists_in p k) (lists_in p h) → SameTier time_shares time_shares p h k cat) → ⊥
lists_are_counted claim =
    let same = (claim cat_table once twice figures.without_risk more fewer).spent in
    omega (arith, ap total (sym figures.once-spent ∙ same ∙ figures.twice-spent))
  where
    more : Subset (lists_in cat_table once) (lists_in cat_table twice)
    more = rw (figures.once_lists, figures.twice_lists) (λ xs m. mem-cons_of_mem large m)

    fewer : Subset (lists_in cat_table twice) (lists_in cat_table once)
    fewer =
        rw (figures.once_lists, figures.twice_lists)
        (λ xs m. Or.elim Mem-prop (eq-or-mem_of_mem-cons m) (λ e. rw e mem-cons_self) (λ n. n))
