-- A treaty's cession depends on its own losses and terms only.
-- Assumes nothing.
use mathlib.Core.Path.{◌≡◌, refl, ap, ◌∙◌}
use mathlib.Core.Bool.{Bool, true, false, cond}
use mathlib.Core.List.{List, [], ◌∷◌, ◌++◌}
use Prim.Native.Nat.{ℕ, ◌+◌}
use borrow.Author.Tests.{ne_eqb}
use lib.Dec.{eqb}
use Rattle.treaty.specs.declared.Treaty.{Treaty}
use Rattle.treaty.specs.declared.Loss.{Loss}
use Rattle.treaty.specs.Treaty.{ceded_of, ceded_of_loss, cessions_from, own_losses, cessions}

-- the own losses of two lists put together
pub own-append : (t : Treaty) (xs ys : List Loss) → own_losses t (xs ++ ys) ≡ own_losses t xs ++ own_losses t ys
own-append t [] ys = refl
own-append t (x ∷ xs) ys =
    ap (λ (l : List Loss). cond (eqb x.treaty t.number) (x ∷ l) l) (own-append t xs ys)
    ∙ own_or_not (eqb x.treaty t.number) (own_losses t xs)
  where
    own_or_not : (b : Bool) (l : List Loss)
        → cond b (x ∷ (l ++ own_losses t ys)) (l ++ own_losses t ys) ≡ cond b (x ∷ l) l ++ own_losses t ys
    own_or_not true l = refl
    own_or_not false l = refl

-- a loss of another treaty, wherever it stands in the event, is none of its own
other-loss : (t : Treaty) (x : Loss) (xs ys : List Loss) → (x.treaty ≡ t.number → ⊥)
    → own_losses t (xs ++ (x ∷ ys)) ≡ own_losses t (xs ++ ys)
other-loss t x xs ys other = rw (own-append t xs (x ∷ ys), own-append t xs ys, ne_eqb _ _ other)

-- so it changes none of the treaty's cessions
pub own-losses : (t : Treaty) (x : Loss) (xs ys : List Loss) → (x.treaty ≡ t.number → ⊥)
    → cessions t (xs ++ (x ∷ ys)) ≡ cessions t (xs ++ ys)
own-losses t x xs ys other = ap (cessions_from 0 t) (other-loss t x xs ys other)

-- treaties of one number that cede the same of every loss have the same cessions in every event
module _ (s t : Treaty) (number : s.number ≡ t.number)
    (same : (taken : ℕ) (x : Loss) → ceded_of_loss s taken x ≡ ceded_of_loss t taken x) where
  same-own : (xs : List Loss) → own_losses s xs ≡ own_losses t xs
  same-own [] = refl
  same-own (x ∷ xs) = rw (same-own xs, number)

  same_from : (taken : ℕ) (xs : List Loss) → cessions_from taken s xs ≡ cessions_from taken t xs
  same_from taken [] = refl
  same_from taken (x ∷ xs) = rw (same taken x, same_from (taken + ceded_of_loss t taken x) xs)

  same-cessions : (xs : List Loss) → cessions s xs ≡ cessions t xs
  same-cessions xs = rw (same-own xs) (same_from 0 (own_losses t xs))

-- the cessions of a quota share are settled by cede, capacity and limit
pub own-quota-terms : (s t : Treaty) → s.kind ≡ 1 → t.kind ≡ 1 → s.number ≡ t.number
    → s.cede ≡ t.cede → s.capacity ≡ t.capacity → s.limit ≡ t.limit
    → (xs : List Loss) → cessions s xs ≡ cessions t xs
unfolding ceded_of_loss ceded_of
own-quota-terms s t hs ht n c a l = same-cessions s t n (λ taken x. simp (hs, ht, c, a, l))

-- those of a surplus by retention, lines and limit
pub own-surplus-terms : (s t : Treaty) → s.kind ≡ 2 → t.kind ≡ 2 → s.number ≡ t.number
    → s.retention ≡ t.retention → s.lines ≡ t.lines → s.limit ≡ t.limit
    → (xs : List Loss) → cessions s xs ≡ cessions t xs
unfolding ceded_of_loss ceded_of
own-surplus-terms s t hs ht n r m l = same-cessions s t n (λ taken x. simp (hs, ht, r, m, l))
