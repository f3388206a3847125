-- A list in the first of eight places: the places after it.
-- Assumes nothing.
use mathlib.Core.Path.{◌≡◌, refl}
use mathlib.Core.Bool.{Bool, true}
use mathlib.Core.List.{List}
use Prim.Native.Nat.{ℕ, zero, suc, ◌-◌}
use lib.ListN.{length, drop, replicate}
use lib.Seq.{drop-append_seam}
use Rattle.lists.specs.Chains.{every}
use Rattle.lists.specs.Places.{in_places}

module _ {A : Type 0} (unused : A → Bool) (blank : A) (z : unused blank ≡ true) where
  every-blank : (n : ℕ) → true ≡ every unused (replicate n blank)
  every-blank zero = refl
  every-blank (suc n) = rw z (every-blank n)

  -- they are unused
  pub rest-unused : (xs : List A) → true ≡ every unused (drop (length xs) (in_places blank xs))
  rest-unused xs = rw (drop-append_seam xs (replicate (8 - length xs) blank)) (every-blank (8 - length xs))
