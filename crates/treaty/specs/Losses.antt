-- Document 01, Proportional treaties: "What is left of g goes to the risk layers. A treaty's cession depends on its
-- own losses and terms only." The losses of one event in turn through the treaties of a table.
-- Assumes nothing.
use Rattle.std.specs.Prelude.{cond, List, [], ◌∷◌, ◌++◌, ℕ, ◌-◌, eqb}
use Rattle.lists.specs.Sums.{sum_of}
use Rattle.treaty.specs.declared.Treaty.{Treaty}
use Rattle.treaty.specs.declared.Loss.{Loss}
use Rattle.treaty.specs.Treaty.{ceded_of_loss, taken_by}

-- the amounts g of losses, added
abbrev pub gross_of : List Loss → ℕ
gross_of xs = sum_of (λ (x : Loss). x.amount) xs

-- What is ceded of a loss after the earlier ones of its event, by the treaty with its number, after what that treaty
-- took of those. 0 without such a treaty.
unfoldable pub ceded_in : List Treaty → (earlier : List Loss) → Loss → ℕ
ceded_in [] earlier x = 0
ceded_in (t ∷ ts) earlier x =
    cond (eqb x.treaty t.number) (ceded_of_loss t (taken_by t earlier) x) (ceded_in ts earlier x)

-- what is left of its g
abbrev pub left_in : List Treaty → (earlier : List Loss) → Loss → ℕ
left_in ts earlier x = x.amount - ceded_in ts earlier x

-- what is ceded of each loss in turn
abbrev pub ceded_of_each : List Treaty → (earlier losses : List Loss) → List ℕ
ceded_of_each ts earlier [] = []
ceded_of_each ts earlier (x ∷ xs) = ceded_in ts earlier x ∷ ceded_of_each ts (earlier ++ (x ∷ [])) xs

-- what is left of each
abbrev pub left_of_each : List Treaty → (earlier losses : List Loss) → List ℕ
left_of_each ts earlier [] = []
left_of_each ts earlier (x ∷ xs) = left_in ts earlier x ∷ left_of_each ts (earlier ++ (x ∷ [])) xs
