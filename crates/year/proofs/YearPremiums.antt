-- Document 02, Q-4: a layer's year premium is its timed premium, and without (time) its amount premium. It tells the
-- timed premium, and it grows by the premiums due.
-- Assumes nothing.
use mathlib.Core.Path.{◌≡◌, refl, sym, ap, ◌∙◌}
use mathlib.Core.Bool.{Bool, true, false, cond}
use mathlib.Core.List.{List, [], ◌∷◌}
use Prim.Native.Nat.{ℕ, zero, suc, ◌+◌, ◌*◌, ◌≤◌, min}
use native.Mathlib.Nat.{le_refl, zero-mul}
use native.Mathlib.Omega.{arith}
use lib.ListN.{take}
use Rattle.arith.specs.Round.{rounded}
use Rattle.arith.proofs.Rounding.{rounded-zero}
use Rattle.layer.specs.declared.terms.Terms.{Terms}
use Rattle.layer.specs.declared.record.Layer.{Layer}
use Rattle.layer.specs.Layer.{used_of, placed_of, slice_after, rated_from, rated_of, premium_of, layer_of, charge_of}
use Rattle.layer.specs.Layer.{is_timed, due_for, due_of, timed_part, timed_most, layer_on, year_premium}
use Rattle.layer.specs.Ranges.{Sound}
use Rattle.layer.proofs.Recoveries.{placed-zero}
use Rattle.layer.proofs.Premiums.{charge_exact}

-- it is never above the amount premium
pub year-premium-le : (y : Layer) → y.timed.0 ≤ timed_most y.terms y.spent.0
    → year_premium y ≤ premium_of y.terms y.spent.0
unfolding year_premium timed_most timed_part
year-premium-le y h = by (is_timed y.terms) y.timed.0 (premium_of y.terms y.spent.0) h
  where
    by : (b : Bool) (n p : ℕ) → n ≤ cond b p 0 → cond b n p ≤ p
    by true n p h = h
    by false n p h = le_refl p

-- timed premiums k and n of one layer at one spent amount, each within the amount premium: the year premium tells them
pub timed_determined : (t : Terms) (m k n : ℕ) → k ≤ timed_most t m → n ≤ timed_most t m
    → year_premium (layer_of t m k) ≡ year_premium (layer_of t m n) → k ≡ n
unfolding year_premium timed_most timed_part
timed_determined t m k n = by (is_timed t) (premium_of t m)
  where
    by : (b : Bool) (p : ℕ) → k ≤ cond b p 0 → n ≤ cond b p 0 → cond b k p ≡ cond b n p → k ≡ n
    by true p f g e = e
    by false p f g e = omega arith

-- a loss adds the premium due for it
pub year_premium_grows : (share loss : ℕ) (y : Layer) → Sound y
    → year_premium (layer_on share loss y) ≡ year_premium y + due_of share loss y
unfolding year_premium due_of due_for timed_part charge_of
year_premium_grows share loss y s =
    by (is_timed y.terms) y.timed.0 (premium_of y.terms y.spent.0) (charge_of loss y) _ _
    (charge_exact loss y s)
  where
    -- the premium is p before the loss and q after it, the amount premium of the loss is c and its timed premium d
    by : (b : Bool) (n p c d q : ℕ) → p + c ≡ q
        → cond b (n + cond b (cond b d c) 0) q ≡ cond b n p + cond b d c
    by true n p c d q e = refl
    by false n p c d q e = sym e

-- nothing used has no slice, so no premium is due where nothing is spent, whatever the terms are
no-slice : (t : Terms) (i : ℕ) → slice_after t 0 i ≡ 0
no-slice t i =
    let upper : min 0 ((i + 1) * t.limit) ≡ 0 = omega arith in
    omega (arith, ap (placed_of t) upper, placed-zero t)

none-rated : (t : Terms) (i : ℕ) (qs : List ℕ) → rated_from t 0 i qs ≡ 0
none-rated t i [] = refl
none-rated t i (q ∷ qs) =
    let slice = ap (λ (n : ℕ). n * q) (no-slice t i) ∙ zero-mul q in
    omega (arith, slice, none-rated t (i + 1) qs)

nothing-rounded : (d : ℕ) → rounded 0 (10000 * d) ≡ 0
unfolding rounded
nothing-rounded zero = refl
nothing-rounded (suc d) = rounded-zero (omega arith)

pub no-premium : (t : Terms) → premium_of t 0 ≡ 0
unfolding premium_of rated_of
no-premium t =
    let used : used_of t 0 ≡ 0 = omega arith in
    let rated = ap (rated_of t) used ∙ none-rated t 0 (take t.reinstatements t.rates) in
    let product = ap (λ (n : ℕ). n * t.premium) rated ∙ zero-mul t.premium in
    ap (λ (n : ℕ). rounded n (10000 * t.limit)) product ∙ nothing-rounded t.limit
