-- What is ceded of a loss, by the treaty in the place of its number and by what that treaty took before.
-- Assumes nothing.
use mathlib.Core.Path.{◌≡◌, refl, sym, ap, ◌∙◌}
use mathlib.Core.Bool.{Bool, true, false, cond}
use mathlib.Core.List.{List, [], ◌∷◌, ◌++◌}
use Prim.Native.Nat.{ℕ, ◌+◌}
use native.Mathlib.Nat.{zero-add}
use borrow.Author.Tests.{eqb-true}
use lib.Dec.{eqb}
use Rattle.lists.specs.Sums.{total}
use Rattle.treaty.specs.declared.Treaty.{Treaty}
use Rattle.treaty.specs.declared.Loss.{Loss}
use Rattle.treaty.specs.Treaty.{ceded_of, cut_to_limit, ceded_of_loss, cessions_from, own_losses, taken_by}
use Rattle.treaty.specs.Losses.{ceded_in}
use Rattle.treaty.proofs.Losses.{taken_next}
use Rattle.programme.specs.Contract.{no_treaty}
use Rattle.losses.specs.Treaties.{with_number}

-- what the treaty with the number n took of losses
abbrev pub taken_at : List Treaty → (n : ℕ) → List Loss → ℕ
taken_at ts n xs = taken_by (with_number ts n) xs

-- where there is no treaty, nothing is ceded, and nothing taken
nothing-ceded : (taken : ℕ) (x : Loss) → 0 ≡ ceded_of_loss no_treaty taken x
unfolding ceded_of_loss cut_to_limit ceded_of
nothing-ceded taken x = refl

nothing-taken : (xs : List Loss) → taken_by no_treaty xs ≡ 0
nothing-taken xs = from 0 (own_losses no_treaty xs)
  where
    from : (taken : ℕ) (xs : List Loss) → total (cessions_from taken no_treaty xs) ≡ 0
    from taken [] = refl
    from taken (x ∷ xs) = rw (sym (nothing-ceded taken x), zero-add) (from (taken + 0) xs)

-- what is ceded of a loss is what the treaty with its number cedes of it
pub ceded_with : (ts : List Treaty) (earlier : List Loss) (x : Loss)
    → ceded_in ts earlier x ≡ ceded_of_loss (with_number ts x.treaty) (taken_at ts x.treaty earlier) x
unfolding ceded_in
ceded_with [] earlier x = nothing-ceded (taken_by no_treaty earlier) x
ceded_with (t ∷ ts) earlier x =
    first (eqb x.treaty t.number) (with_number ts x.treaty) (ceded_with ts earlier x)
  where
    first : (b : Bool) (s : Treaty) {c : ℕ} → c ≡ ceded_of_loss s (taken_by s earlier) x
        → cond b (ceded_of_loss t (taken_by t earlier) x) c ≡ ceded_of_loss (cond b t s) (taken_by (cond b t s) earlier) x
    first true s e = refl
    first false s e = e

module _ (n : ℕ) (earlier : List Loss) (x : Loss) where
  -- what a treaty has taken after one loss more, if it is the treaty of number n
  abbrev OneTaken : Treaty → Type 0
  OneTaken t =
      taken_by t (earlier ++ (x ∷ []))
      ≡ taken_by t earlier + cond (eqb x.treaty n) (ceded_of_loss t (taken_by t earlier) x) 0

  -- so the treaty with that number, and where there is none
  taken_with : (ts : List Treaty) → OneTaken (with_number ts n)
  taken_with [] =
      rw (
        nothing-taken (earlier ++ (x ∷ [])),
        nothing-taken earlier,
        sym (nothing-ceded 0 x),
      ) (nothing-added (eqb x.treaty n))
    where
      nothing-added : (b : Bool) → 0 ≡ 0 + cond b 0 0
      nothing-added true = refl
      nothing-added false = refl
  taken_with (t ∷ ts) = first (eqb n t.number) refl (with_number ts n) (taken_with ts)
    where
      first : (b : Bool) → eqb n t.number ≡ b → (s : Treaty) → OneTaken s → OneTaken (cond b t s)
      first true q s e = rw (eqb-true n t.number q) (taken_next t earlier x)
      first false q s e = e

  -- the loss adds what is ceded of it, if its number is n
  pub taken-after : (ts : List Treaty)
      → taken_at ts n (earlier ++ (x ∷ [])) ≡ taken_at ts n earlier + cond (eqb x.treaty n) (ceded_in ts earlier x) 0
  taken-after ts = taken_with ts ∙ ap (λ (m : ℕ). taken_at ts n earlier + m) (own_or_not (eqb x.treaty n) refl)
    where
      own_or_not : (b : Bool) → eqb x.treaty n ≡ b
          → cond b (ceded_of_loss (with_number ts n) (taken_at ts n earlier) x) 0 ≡ cond b (ceded_in ts earlier x) 0
      own_or_not true q = rw (sym (eqb-true x.treaty n q)) (sym (ceded_with ts earlier x))
      own_or_not false q = refl
