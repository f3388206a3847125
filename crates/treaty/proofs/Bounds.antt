-- A treaty's products stay within the ranges of product-and-divide.
-- Assumes nothing.
use mathlib.Core.Path.{◌≡◌}
use mathlib.Core.Bool.{false}
use Prim.Native.Nat.{ℕ, ◌+◌, ◌*◌, ◌^◌}
use native.Mathlib.Nat.{le_of_lt, mul-le-mul}
use native.Mathlib.Omega.{arith}
use borrow.Author.Tests.{leb-false}
use lib.Dec.{leb}
use mir.Syntax.{w64}
use mir.Val.{Fits}
use Rattle.arith.specs.Ranges.{Wide}
use Rattle.treaty.specs.declared.Treaty.{Treaty}
use Rattle.treaty.specs.Ranges.{AmountInRange}

module _ (t : Treaty) (e g : ℕ) (p : AmountInRange t e g) where
  pub quota-product : Fits w64 (t.cede * t.capacity)
  quota-product = omega (arith, mul-le-mul p.terms.cede p.terms.capacity)

  pub quota-wide : leb e t.capacity ≡ false → Wide g (t.cede * t.capacity) (10000 * e)
  quota-wide h = omega (arith, mul-le-mul p.terms.cede (le_of_lt (leb-false e t.capacity h)))

  pub surplus-product : Fits w64 (t.retention * (1 + t.lines))
  surplus-product =
      omega (arith, mul-le-mul {m₁ = 1 + t.lines} {n₂ = 10 ^ 13} {m₂ = 101} p.terms.retention (omega arith))
