-- Bounds on sums, from bounds on each element.
-- Assumes nothing.
use mathlib.Core.List.{List, [], ◌∷◌}
use Prim.Native.Nat.{ℕ, ◌*◌, ◌≤◌, zero-le}
use native.Mathlib.Nat.{add-le-add, suc-mul}
use native.Mathlib.Omega.{arith}
use lib.ListN.{length}
use Rattle.lists.specs.Sums.{sum_of}
use Rattle.lists.specs.Each.{Each}

module _ {A : Type 0} (P : A → Type 0) where
  -- element by element
  pub sum-le-sum : (f g : A → ℕ) → ((x : A) → P x → f x ≤ g x) → (xs : List A) → Each P xs → sum_of f xs ≤ sum_of g xs
  sum-le-sum f g h [] e = zero-le
  sum-le-sum f g h (x ∷ xs) e = add-le-add (h x e.0) (sum-le-sum f g h xs e.1)

  -- at most b for each
  pub sum-le : (f : A → ℕ) (b : ℕ) → ((x : A) → P x → f x ≤ b) → (xs : List A) → Each P xs → sum_of f xs ≤ length xs * b
  sum-le f b h [] e = zero-le
  sum-le f b h (x ∷ xs) e = rw suc-mul (omega (arith, h x e.0, sum-le f b h xs e.1))
