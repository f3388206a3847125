-- A list in which each element is tested against a figure of the one before it.
-- Assumes nothing.
use Rattle.std.specs.Prelude.{Bool, true, ◌&&◌, List, [], ◌∷◌, ℕ}
use Rattle.std.specs.List.{list_all}

-- the figure of the last element, n without one
abbrev pub last_by : {A : Type 0} → (A → ℕ) → ℕ → List A → ℕ
last_by figure n [] = n
last_by figure n (x ∷ xs) = last_by figure (figure x) xs

-- each element passes after the figure of the one before it, the first after n
abbrev pub chained : {A : Type 0} → (ℕ → A → Bool) → (A → ℕ) → ℕ → List A → Bool
chained passes figure n [] = true
chained passes figure n (x ∷ xs) = passes n x && chained passes figure (figure x) xs

-- every element passes
abbrev pub every : {A : Type 0} → (A → Bool) → List A → Bool
every passes xs = list_all passes xs
