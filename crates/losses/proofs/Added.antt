-- Amounts by number after what is ceded of losses in turn is added: how many, how high, and that of one treaty.
-- Assumes nothing.
use mathlib.Core.Path.{◌≡◌, refl, sym, ap, ◌∙◌}
use mathlib.Core.List.{List, [], ◌∷◌, ◌++◌}
use Prim.Native.Nat.{ℕ, ◌+◌, ◌*◌, ◌≤◌, ◌<◌}
use native.Mathlib.Nat.{add-zero}
use native.Mathlib.Omega.{arith}
use lib.ListN.{length, get_or, set, length-set}
use Rattle.lists.specs.Each.{Each}
use Rattle.lists.proofs.Each.{each_so}
use Rattle.treaty.specs.declared.Treaty.{Treaty}
use Rattle.treaty.specs.declared.Loss.{Loss}
use Rattle.treaty.specs.Treaty.{taken_by}
use Rattle.treaty.specs.Losses.{ceded_in}
use Rattle.treaty.specs.Ranges.{LossInRange}
use Rattle.treaty.proofs.Losses.{Numbered, ceded-le-loss, ceded_of_own, treaty-ceded}
use Rattle.losses.specs.Cede.{ceded_added}
use Rattle.losses.proofs.Stores.{each-sum, sum-at}

module _ (ts : List Treaty) where
  -- amounts after one loss
  abbrev one_added : (earlier : List Loss) → List ℕ → Loss → List ℕ
  one_added earlier cs x = set cs x.treaty (get_or cs x.treaty 0 + ceded_in ts earlier x)

  pub added-length : (earlier : List Loss) (cs : List ℕ) (xs : List Loss)
      → length (ceded_added ts earlier cs xs) ≡ length cs
  added-length earlier cs [] = refl
  added-length earlier cs (x ∷ xs) =
      added-length (earlier ++ (x ∷ [])) (one_added earlier cs x) xs ∙ length-set cs x.treaty _

  -- a treaty's amount gains what is ceded of the losses with its number
  own-added : (t : Treaty) (earlier : List Loss) (cs : List ℕ) (xs : List Loss) → t.number < length cs
      → get_or (ceded_added ts earlier cs xs) t.number 0 ≡ get_or cs t.number 0 + ceded_of_own ts t earlier xs
  own-added t earlier cs [] h = sym (add-zero _)
  own-added t earlier cs (x ∷ xs) h =
      let longer = length-set cs x.treaty (get_or cs x.treaty 0 + ceded_in ts earlier x) in
      omega (
        arith,
        own-added t (earlier ++ (x ∷ [])) (one_added earlier cs x) xs (omega arith),
        sum-at cs x.treaty (ceded_in ts earlier x) t.number h,
      )

pub added-at : (n : ℕ) (before : List Treaty) (t : Treaty) (after : List Treaty)
    → Numbered n (before ++ (t ∷ after)) → (cs : List ℕ) (xs : List Loss) → t.number < length cs
    → get_or (ceded_added (before ++ (t ∷ after)) [] cs xs) t.number 0
    ≡ get_or cs t.number 0 + taken_by t xs
added-at n before t after e cs xs h =
    own-added (before ++ (t ∷ after)) t [] cs xs h
    ∙ ap (λ (m : ℕ). get_or cs t.number 0 + m) (treaty-ceded n before t after e xs)

-- each stays below what it was and 10^13 a loss
pub added-le : (ts : List Treaty) → Each (λ (t : Treaty). t.cede ≤ 10000) ts
    → (b : ℕ) (earlier : List Loss) (cs : List ℕ) (xs : List Loss)
    → Each (λ (n : ℕ). n ≤ b) cs → Each LossInRange xs
    → Each (λ (n : ℕ). n ≤ b + 10000000000000 * length xs) (ceded_added ts earlier cs xs)
added-le ts c b earlier cs [] e r = each_so (λ (n : ℕ). n ≤ b) _ (λ n h. omega arith) cs e
added-le ts c b earlier cs (x ∷ xs) e r =
    each_so (λ (n : ℕ). n ≤ (b + 10000000000000) + 10000000000000 * length xs) _ (λ n h. omega arith)
    (ceded_added ts earlier cs (x ∷ xs))
    (added-le ts c (b + 10000000000000) (earlier ++ (x ∷ [])) _ xs
    (each-sum b (b + 10000000000000) cs e x.treaty (ceded_in ts earlier x)
    (omega (arith, ceded-le-loss ts c earlier x, r.0.amount))) r.1)
