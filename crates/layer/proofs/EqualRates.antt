-- Document 02, Q-2: "With equal rates every statement amount is the former one." The former premium is document 01's,
-- which has one rate q for all reinstatements of a layer. That of a statement's amounts only premiums look at rates is
-- in PremiumApart.
-- Assumes nothing.
use mathlib.Core.Path.{◌≡◌, refl, ap, ◌∙◌}
use mathlib.Core.List.{List, [], ◌∷◌}
use Prim.Native.Nat.{ℕ, ◌-◌, ◌*◌, min}
use lib.ListN.{length, replicate}
use Rattle.arith.specs.Round.{rounded}
use Rattle.lists.specs.Each.{Each}
use Rattle.layer.specs.declared.terms.Terms.{Terms}
use Rattle.layer.specs.declared.record.Layer.{Layer}
use Rattle.layer.specs.Layer.{used_of, placed_of, rated_from, rated_of, premium_of, layer_after, charge_of}
use Rattle.layer.specs.Ranges.{InRange}
use Rattle.layer.proofs.Slices.{rates_of, as_many, one_rate}

-- what is reinstated: the smaller of used and k × l
abbrev pub reinstated_of : Terms → ℕ → ℕ
reinstated_of t m = min (used_of t m) (t.reinstatements * t.limit)

-- the former premium: B × q × p / (10,000 × l), where B is what is reinstated, at the placed share
abbrev pub former_premium_of : Terms → (q : ℕ) → ℕ → ℕ
former_premium_of t q m = rounded (placed_of t (reinstated_of t m) * q * t.premium) (10000 * t.limit)

-- the rate of every reinstatement is q
abbrev pub AllAt : ℕ → Terms → Type 0
AllAt q t = Each (λ (r : ℕ). r ≡ q) (rates_of t)

-- a list in which all are q
same-all : (q : ℕ) (rs : List ℕ) → Each (λ (r : ℕ). r ≡ q) rs → rs ≡ replicate (length rs) q
same-all q [] e = refl
same-all q (r ∷ rs) e = let first = e.0 in let rest = same-all q rs e.1 in λ i. first i ∷ rest i

module _ (q : ℕ) where
  -- the year's premium
  pub equal_rates : (t : Terms) → InRange t → AllAt q t → (m : ℕ) → premium_of t m ≡ former_premium_of t q m
  unfolding premium_of rated_of
  equal_rates t r e m =
      let rates = same-all q (rates_of t) e ∙ ap (λ (n : ℕ). replicate n q) (as_many t r) in
      let rated = ap (rated_from t (used_of t m) 0) rates ∙ one_rate t (used_of t m) t.reinstatements q in
      ap (λ (n : ℕ). rounded (n * t.premium) (10000 * t.limit)) rated

  -- and one loss's
  pub equal_charges : (loss : ℕ) (y : Layer) → InRange y.terms → AllAt q y.terms
      → charge_of loss y
      ≡ former_premium_of y.terms q (layer_after loss y).spent.0 - former_premium_of y.terms q y.spent.0
  unfolding charge_of
  equal_charges loss y r e =
      let after = equal_rates y.terms r e (layer_after loss y).spent.0 in
      let before = equal_rates y.terms r e y.spent.0 in
      λ i. after i - before i
