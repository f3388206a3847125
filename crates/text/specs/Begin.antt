-- Whether a text begins with given bytes.
-- Assumes nothing.
use Rattle.std.specs.Prelude.{◌≡◌, ℕ, ◌<◌, Bool, true, false, List, [], ◌∷◌, length, drop, ◌==◌}

unfoldable pub begins : List ℕ → List ℕ → Bool
begins [] x = true
begins (b ∷ u) [] = false
begins (b ∷ u) (a ∷ x) = elim (b == a) [ true ↦ begins u x | false ↦ false ]

-- r says whether the byte b stands at a place of the text s
pub record Stands (s : List ℕ) (at b : ℕ) (r : Bool) : Type 0 where
  pub same : r ≡ begins (b ∷ []) (drop at s)
  pub within : r ≡ true → at < length s
