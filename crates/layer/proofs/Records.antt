-- A layer's record through a loss: it stays sound, with and without the premium due, and where nothing more is spent it
-- stays.
-- Assumes nothing.
use mathlib.Core.Path.{◌≡◌, sym, ap, ◌∙◌}
use Prim.Native.Nat.{ℕ, ◌+◌, ◌≤◌}
use native.Mathlib.Nat.{add-zero, sub_self}
use native.Mathlib.Omega.{arith}
use Rattle.layer.specs.declared.record.Layer.{Layer}
use Rattle.layer.specs.declared.record.Sums.{Sums}
use Rattle.layer.specs.Layer.{layer_of, layer_after, layer_on, recovered_since, charged_since, due_for, due_since}
use Rattle.layer.specs.Layer.{timed_part, sums_of, borne_since}
use Rattle.layer.specs.Ranges.{Sound}
use Rattle.layer.proofs.Dues.{due-zero, timed-none, most_mono, timed-within}

pub sound-after : (loss : ℕ) (y : Layer) → Sound y → Sound (layer_after loss y)
sound-after loss y s =
    let more : y.spent.0 ≤ (layer_after loss y).spent.0 = omega (arith, s.spent) in
    record {
      terms = s.terms;
      spent = omega arith;
      timed = omega (arith, s.timed, most_mono y.terms s.terms.limit-low y.spent.0 _ more);
    }

pub sound-on : (share : ℕ) → share ≤ 10000 → (loss : ℕ) (y : Layer) → Sound y → Sound (layer_on share loss y)
sound-on share h loss y s =
    record { terms = s.terms; spent = omega arith; timed = timed-within share loss y s h }

-- where nothing more is spent since an earlier record, nothing is due, and the sums stay
pub still : (before : Layer) (s : Sums) (y : Layer) → y.terms ≡ before.terms → y.spent.0 ≡ before.spent.0
    → record { layer = y; sums = s } ≡ borne_since before s y
still before s y t m i = record {
  layer = layer_of y.terms y.spent.0 (sym timed i);
  sums = sums_of s.share (sym recovered i) (sym premium i);
}
  where
    recovered : s.recovered.0 + recovered_since before y ≡ s.recovered.0
    recovered = rw (t, m) (simp (sub_self, add-zero))

    charged : charged_since before y ≡ 0
    charged = rw (t, m) (simp sub_self)

    due : due_since s.share before y ≡ 0
    due = ap (due_for y.terms s.share) charged ∙ due-zero y.terms s.share

    premium : s.premium.0 + due_since s.share before y ≡ s.premium.0
    premium = omega (arith, due)

    timed : y.timed.0 + timed_part y.terms (due_since s.share before y) ≡ y.timed.0
    timed = omega (arith, ap (timed_part y.terms) due, timed-none y.terms)
