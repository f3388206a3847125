-- Opening a year, under what the code finds.
-- Assumes nothing.
use mathlib.Core.Path.{◌≡◌, sym, ◌∙◌}
use mathlib.Core.Bool.{Bool, true, false}
use Rattle.programme.specs.declared.contract.Programme.{Programme}
use Rattle.programme.specs.Valid.{valid}
use Rattle.year.specs.declared.Standing.{Standing}
use Rattle.year.specs.Standing.{fresh, open_of}

module _ (p : Programme) (b : Bool) (e : b ≡ valid p) (s : Standing) (new : s ≡ fresh) where
  pub opened : b ≡ true → record { refusal = 0; number = 0; standing = s } ≡ open_of p
  unfolding open_of
  opened h = simp (open_of, sym e ∙ h, new)

  pub not_opened : b ≡ false → record { refusal = 6; number = 0; standing = s } ≡ open_of p
  unfolding open_of
  not_opened h = simp (open_of, sym e ∙ h, new)
