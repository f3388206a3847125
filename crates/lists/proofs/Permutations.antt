-- A sum over a list does not depend on the order of its elements.
-- Assumes nothing.
use mathlib.Core.Path.{◌≡◌, refl, ap, ◌∙◌}
use mathlib.Core.Logic.{∥∥₁_elim}
use mathlib.Core.List.{List, Perm, Permᴰ}
use Prim.Native.Nat.{ℕ}
use native.Mathlib.Nat.{ℕ_set}
use native.Mathlib.Omega.{arith}
use Rattle.lists.specs.Sums.{sum_of}

module _ {A : Type 0} (f : A → ℕ) where
  -- by the steps that lead from one order to the other
  sum-steps : {l m : List A} → Permᴰ l m → sum_of f l ≡ sum_of f m
  sum-steps Permᴰ.nil = refl
  sum-steps (Permᴰ.cons e q) = omega (arith, ap f e, sum-steps q)
  sum-steps (Permᴰ.swap d e) = omega (arith, ap f d, ap f e)
  sum-steps (Permᴰ.trans q r) = sum-steps q ∙ sum-steps r

  pub sum_perm : {l m : List A} → Perm l m → sum_of f l ≡ sum_of f m
  sum_perm {l} {m} q = ∥∥₁_elim q (ℕ_set (sum_of f l) (sum_of f m)) sum-steps
