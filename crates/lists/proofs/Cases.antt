-- A proof by the cases of a test, of an order or of an equality.
-- Assumes nothing.
use mathlib.Core.Bool.{Bool, true, false}
use mathlib.Core.Path.{◌≡◌, refl, sym}
use Prim.Native.Nat.{ℕ, ◌≤◌, ◌<◌}
use borrow.Author.Tests.{ltb-true, ltb-false, eqb-true, eqb-false}
use lib.Dec.{ltb, eqb}

pub by_test {ℓ} : {C : Type ℓ} (t : Bool) → (true ≡ t → C) → (false ≡ t → C) → C
by_test true f g = f refl
by_test false f g = g refl

pub by-lt {ℓ} : {C : Type ℓ} (a b : ℕ) → (a < b → C) → (b ≤ a → C) → C
by-lt a b f g = by_test (ltb a b) (λ e. f (ltb-true a b (sym e))) (λ e. g (ltb-false a b (sym e)))

pub by-eq {ℓ} : {C : Type ℓ} (a b : ℕ) → (a ≡ b → C) → ((a ≡ b → ⊥) → C) → C
by-eq a b f g = by_test (eqb a b) (λ e. f (eqb-true a b (sym e))) (λ e. g (eqb-false a b (sym e)))
