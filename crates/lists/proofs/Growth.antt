-- A figure that never falls, taken step by step: the single steps add up to the whole.
-- Assumes nothing.
use mathlib.Core.Path.{◌≡◌, ap}
use mathlib.Core.List.{List, [], ◌∷◌}
use Prim.Native.Nat.{ℕ, ◌+◌, ◌≤◌}
use native.Mathlib.Nat.{add-zero, add_assoc, le-add_right}
use native.Mathlib.Omega.{arith}
use Rattle.lists.specs.Sums.{total, growth}

pub telescopes : (f : ℕ → ℕ) → ((m n : ℕ) → m ≤ n → f m ≤ f n) → (a : ℕ) (xs : List ℕ)
    → f a + growth f a xs ≡ f (a + total xs)
telescopes f rises a [] = simp add-zero
telescopes f rises a (x ∷ xs) =
    let e : f (a + x + total xs) ≡ f (a + (x + total xs)) = ap f (add_assoc a x (total xs)) in
    omega (arith, rises a (a + x) (le-add_right a x), telescopes f rises (a + x) xs, e)
