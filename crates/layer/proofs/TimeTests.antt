-- What the test for (time) finds, carried to the premium due, the timed premium and the year's premium of a layer.
-- Assumes nothing.
use mathlib.Core.Bool.{Bool, true, false, cond}
use mathlib.Core.Path.{◌≡◌, refl, sym, ap, ◌∙◌}
use Prim.Native.Nat.{ℕ, ◌*◌}
use Rattle.arith.specs.Round.{rounded}
use Rattle.layer.specs.declared.terms.Terms.{Terms}
use Rattle.layer.specs.declared.record.Layer.{Layer}
use Rattle.layer.specs.Layer.{premium_of, is_timed, due_for, timed_part, timed_most, year_premium}
use Rattle.layer.proofs.Dues.{timed-plain, year-plain}

-- the test gave b
module _ (t : Terms) (b : Bool) (found : b ≡ is_timed t) where
  module _ (h : b ≡ true) where
    pub timed-is : is_timed t ≡ true
    timed-is = sym found ∙ h

    pub due-by-time : (share n : ℕ) → rounded (n * share) 10000 ≡ due_for t share n
    unfolding due_for
    due-by-time share n = sym (ap (λ (c : Bool). cond c (rounded (n * share) 10000) n) timed-is)

    pub part-by-time : (n : ℕ) → n ≡ timed_part t n
    unfolding timed_part
    part-by-time n = sym (ap (λ (c : Bool). cond c n 0) timed-is)

    pub most-by-time : (m : ℕ) → premium_of t m ≡ timed_most t m
    unfolding timed_most
    most-by-time m = part-by-time (premium_of t m)

  module _ (h : b ≡ false) where
    pub plain-is : is_timed t ≡ false
    plain-is = sym found ∙ h

    pub most-by-amount : (m : ℕ) → 0 ≡ timed_most t m
    unfolding timed_most
    most-by-amount m = sym (timed-plain t plain-is (premium_of t m))

-- of a record
module _ (y : Layer) (b : Bool) (found : b ≡ is_timed y.terms) where
  pub shown-by-time : b ≡ true → y.timed.0 ≡ year_premium y
  unfolding year_premium
  shown-by-time h =
      sym (ap (λ (c : Bool). cond c y.timed.0 (premium_of y.terms y.spent.0))
      (timed-is y.terms b found h))

  pub shown-by-amount : b ≡ false → premium_of y.terms y.spent.0 ≡ year_premium y
  shown-by-amount h = sym (year-plain y.terms (plain-is y.terms b found h) y refl)
