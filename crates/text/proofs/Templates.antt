-- Laws of one byte of a template: whether it is a number's place, what is printed for it, and how it is read.
-- Assumes nothing.
use Rattle.std.proofs.Common.{◌≡◌, ℕ, suc, ◌<◌, ◌≤◌, true, false, List, [], ◌∷◌, ◌++◌, get_or, drop, refl, arith, eq-eqb, ne_eqb, le-leb}
use Rattle.std.specs.Prelude.{None, Some}
use borrow.Author.Tests.{lt-leb}
use Rattle.text.specs.Number.{printed, number}
use Rattle.text.specs.Template.{capital, holes, filled, matched}

pub capital_in : (b : ℕ) → 65 ≤ b → b ≤ 90 → true ≡ capital b
unfolding capital
capital_in b l h = simp (capital, le-leb _ _ l) (simp (le-leb _ _ h))

pub capital-below : (b : ℕ) → b < 65 → false ≡ capital b
unfolding capital
capital-below b l = simp (capital, lt-leb _ _ l)

pub capital-above : (b : ℕ) → 90 < b → false ≡ capital b
unfolding capital
capital-above b l = simp (capital, le-leb 65 b (omega arith)) (simp (lt-leb _ _ l))

module _ (b : ℕ) (t : List ℕ) where
  -- a number's place
  module _ (e : true ≡ capital b) where
    pub holes-number : holes (b ∷ t) ≡ suc (holes t)
    unfolding holes
    holes-number = simp (holes, ← e)

    pub filled-number : (ns s : List ℕ) → filled (b ∷ t) ns s ≡ printed (get_or ns 0 0) (filled t (drop 1 ns) s)
    unfolding filled
    filled-number ns s = simp (filled, ← e)

    pub matched-number : (ns x y : List ℕ) (v : ℕ) → number x ≡ Some (v, y)
        → matched ns (b ∷ t) x ≡ matched (ns ++ (v ∷ [])) t y
    unfolding matched number
    matched-number ns [] y v h = let z : ◌≡◌ {A = ℕ} 0 1 = cc in absurd (omega arith)
    matched-number ns (a ∷ x) y v h = simp (matched, ← e, h)

    pub matched-no-number : (ns x : List ℕ) → number x ≡ None → matched ns (b ∷ t) x ≡ None
    unfolding matched
    matched-no-number ns [] h = refl
    matched-no-number ns (a ∷ x) h = simp (matched, ← e, h)

  -- a byte for itself
  module _ (e : false ≡ capital b) where
    pub holes-byte : holes (b ∷ t) ≡ holes t
    unfolding holes
    holes-byte = simp (holes, ← e)

    pub filled-byte : (ns s : List ℕ) → filled (b ∷ t) ns s ≡ b ∷ filled t ns s
    unfolding filled
    filled-byte ns s = simp (filled, ← e)

    pub matched-same : (ns : List ℕ) (a : ℕ) (s : List ℕ) → b ≡ a → matched ns (b ∷ t) (a ∷ s) ≡ matched ns t s
    unfolding matched
    matched-same ns a s h = simp (matched, ← e, eq-eqb b a h)

    pub matched-other : (ns : List ℕ) (a : ℕ) (s : List ℕ) → (b ≡ a → ⊥) → matched ns (b ∷ t) (a ∷ s) ≡ None
    unfolding matched
    matched-other ns a s h = simp (matched, ← e, ne_eqb b a h)
