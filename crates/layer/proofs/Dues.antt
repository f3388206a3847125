-- Document 02, Q-4: the premium due for a loss is at most its amount premium, so that a timed premium never passes the
-- year's amount premium.
-- Assumes nothing.
use mathlib.Core.Path.{◌≡◌, refl, ap, ◌∙◌}
use mathlib.Core.Bool.{Bool, true, false, cond}
use Prim.Native.Nat.{ℕ, ◌+◌, ◌*◌, ◌≤◌, ◌<◌}
use native.Mathlib.Nat.{le_refl}
use native.Mathlib.Omega.{arith}
use Rattle.arith.specs.Round.{rounded}
use Rattle.arith.specs.Ranges.{Narrow}
use Rattle.arith.proofs.Shares.{share-zero, share-le}
use Rattle.layer.specs.declared.terms.Terms.{Terms}
use Rattle.layer.specs.declared.record.Layer.{Layer}
use Rattle.layer.specs.Layer.{premium_of, layer_after, charge_of, is_timed, due_for, due_of, timed_part, timed_most}
use Rattle.layer.specs.Layer.{layer_of, with_due, year_premium}
use Rattle.layer.specs.Ranges.{InRange, Sound}
use Rattle.layer.proofs.Premiums.{premium_mono, premium-le, charge_exact}

module _ (t : Terms) where
  -- nothing is due for nothing, at no share and at no time
  pub due-zero : (share : ℕ) → due_for t share 0 ≡ 0
  unfolding due_for
  due-zero share = by (is_timed t)
    where
      by : (b : Bool) → cond b (rounded (0 * share) 10000) 0 ≡ 0
      by true = share-zero share (omega arith)
      by false = refl

  -- no more is due than the amount premium
  pub due-le : (share n : ℕ) → share ≤ 10000 → due_for t share n ≤ n
  unfolding due_for
  due-le share n h = by (is_timed t)
    where
      by : (b : Bool) → cond b (rounded (n * share) 10000) n ≤ n
      by true = share-le share (omega arith) h n
      by false = le_refl n

  pub timed-none : timed_part t 0 ≡ 0
  unfolding timed_part
  timed-none = by (is_timed t)
    where
      by : (b : Bool) → cond {A = ℕ} b 0 0 ≡ 0
      by true = refl
      by false = refl

  pub timed-le : (n : ℕ) → timed_part t n ≤ n
  unfolding timed_part
  timed-le n = by (is_timed t)
    where
      by : (b : Bool) → cond b n 0 ≤ n
      by true = le_refl n
      by false = omega arith

  pub timed_adds : (m n : ℕ) → timed_part t m + timed_part t n ≡ timed_part t (m + n)
  unfolding timed_part
  timed_adds m n = by (is_timed t)
    where
      by : (b : Bool) → cond b m 0 + cond b n 0 ≡ cond b (m + n) 0
      by true = refl
      by false = refl

  pub timed_mono : (m n : ℕ) → m ≤ n → timed_part t m ≤ timed_part t n
  unfolding timed_part
  timed_mono m n h = by (is_timed t)
    where
      by : (b : Bool) → cond b m 0 ≤ cond b n 0
      by true = h
      by false = le_refl 0

  -- without (time) the amount premium is due, and no timed premium is kept
  module _ (plain : is_timed t ≡ false) where
    pub due-plain : (share n : ℕ) → due_for t share n ≡ n
    unfolding due_for
    due-plain share n = ap (λ (b : Bool). cond b (rounded (n * share) 10000) n) plain

    pub timed-plain : (n : ℕ) → timed_part t n ≡ 0
    unfolding timed_part
    timed-plain n = ap (λ (b : Bool). cond b n 0) plain

    pub kept-plain : (y : Layer) → y.terms ≡ t → (n : ℕ) → y ≡ with_due n y
    kept-plain y e n =
        ap (layer_of y.terms y.spent.0) (omega (arith, ap (λ (u : Terms). timed_part u n) e, timed-plain n))

    pub year-plain : (y : Layer) → y.terms ≡ t → year_premium y ≡ premium_of y.terms y.spent.0
    unfolding year_premium
    year-plain y e =
        ap (λ (b : Bool). cond b y.timed.0 (premium_of y.terms y.spent.0)) (ap is_timed e ∙ plain)

  -- a timed premium is bounded as the amount premium is
  pub most-le : InRange t → (m : ℕ) → timed_most t m ≤ 40 * t.premium
  unfolding timed_most
  most-le r m = omega (arith, timed-le (premium_of t m), premium-le t r m)

  -- a larger spent amount bounds it no lower
  pub most_mono : 0 < t.limit → (m n : ℕ) → m ≤ n → timed_most t m ≤ timed_most t n
  unfolding timed_most
  most_mono l m n h = timed_mono (premium_of t m) (premium_of t n) (premium_mono t l m n h)

  -- product-and-divide has room for it
  pub due_narrow : InRange t → (share n : ℕ) → n ≤ 40 * t.premium → share ≤ 10000 → Narrow n share 10000
  due_narrow r share n h f = omega (arith, r.premium)

module _ (share loss : ℕ) (y : Layer) where
  -- one loss's
  pub due_le_charge : share ≤ 10000 → due_of share loss y ≤ charge_of loss y
  unfolding due_of charge_of
  due_le_charge h = due-le y.terms share _ h

  module _ (s : Sound y) where
    -- with it the timed premium is within the amount premium after the loss
    pub timed-within : share ≤ 10000
        → y.timed.0 + timed_part y.terms (due_of share loss y)
        ≤ timed_most y.terms (layer_after loss y).spent.0
    unfolding timed_most
    timed-within h =
        let t = y.terms in
        let before = premium_of t y.spent.0 in
        let part = timed_mono t (due_of share loss y) (charge_of loss y) (due_le_charge h) in
        let sum = timed_adds t before (charge_of loss y) in
        let after = ap (timed_part t) (charge_exact loss y s) in
        omega (arith, s.timed, part, sum, after)
