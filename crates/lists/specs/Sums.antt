-- Sums over a list: of a figure of each element, and of what a year's figure grows by at each step.
-- Assumes nothing.
use Rattle.std.specs.Prelude.{List, [], ◌∷◌, ℕ, ◌+◌, ◌-◌}

-- f of each element, added
abbrev pub sum_of : {A : Type 0} → (A → ℕ) → List A → ℕ
sum_of f [] = 0
sum_of f (x ∷ xs) = f x + sum_of f xs

-- the elements, added
abbrev pub total : List ℕ → ℕ
total xs = sum_of (λ (x : ℕ). x) xs

-- at each step x from the sum a on, f after it less f before it, added
abbrev pub growth : (ℕ → ℕ) → ℕ → List ℕ → ℕ
growth f a [] = 0
growth f a (x ∷ xs) = (f (a + x) - f a) + growth f (a + x) xs
