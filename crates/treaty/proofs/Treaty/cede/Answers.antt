-- `treaty::Treaty::cede` meets its contract.
-- Assumes nothing.
use mathlib.Core.Path.{◌≡◌, ap, ◌∙◌}
use Prim.Native.Nat.{◌≤◌}
use native.Mathlib.Omega.{arith}
use Rattle.treaty.specs.Treaty.{cut_to_limit, ceded_of_loss}
use Rattle.treaty.proofs.Cessions.{ceded-le-amount}
use Rattle.treaty.proofs.Treaty.cede.Goals as goal
use Rattle.treaty.proofs.Treaty.cede.Goals.{After-cut_to_limit-ceded}

-- what is ceded is the definition's
ceded_is : (c : After-cut_to_limit-ceded)
    → let s = c.before.before.args in c.cut_to_limit-ceded.result ≡ ceded_of_loss s.self s.taken s.loss
unfolding ceded_of_loss
ceded_is c = c.cut_to_limit-ceded.ensures ∙ ap (cut_to_limit _ _) c.before.by_kind-unlimited.ensures

ceded_le : (c : After-cut_to_limit-ceded)
    → let s = c.before.before.args in ceded_of_loss s.self s.taken s.loss ≤ s.loss.amount
ceded_le c =
    let s = c.before.before in
    ceded-le-amount s.args.self s.args.taken s.args.loss s.requires.terms.cede

pub overflow_sub-result : goal.overflow_sub-result
overflow_sub-result c = rw (ceded_is c.before) (ceded_le c.before)

pub overflow_add-result : goal.overflow_add-result
overflow_add-result c =
    let s = c.before.before.before in
    rw (ceded_is c.before) (omega (arith, ceded_le c.before, s.requires.taken-below, s.requires.loss.amount))

pub returns : goal.returns
returns c = rw (ceded_is c.before)
