-- A pass over the slices of a used amount u, the first i of which are added at their rates: with those ahead they give
-- the whole sum.
-- Assumes nothing.
use mathlib.Core.Path.{◌≡◌, sym, ap, ◌∙◌}
use Prim.Native.Nat.{ℕ, ◌+◌, ◌-◌, ◌*◌, ◌^◌, ◌≤◌, ◌<◌, min}
use native.Mathlib.Nat.{add-mul}
use native.Mathlib.Numerals.{add-one}
use native.Mathlib.Omega.{arith}
use lib.ListN.{length, drop, get_or}
use lib.Seq.{drop-cons}
use Rattle.layer.specs.declared.terms.Terms.{Terms}
use Rattle.layer.specs.Layer.{placed_of, recovered_to, slice_after, rated_from, rated_of}
use Rattle.layer.specs.Ranges.{InRange}
use Rattle.layer.proofs.Slices.{rates_of, as_many, to_zero, rated-none, base_le}

-- i slices end at `end`, recover `below` and come to `sum`
pub record Added (t : Terms) (u sum below end i : ℕ) : Type 0 where
  pub range : InRange t
  pub within : i ≤ t.reinstatements
  pub ends : end ≡ i * t.limit
  pub recovered : below ≡ recovered_to t u i
  pub rest : sum + rated_from t u i (drop i (rates_of t)) ≡ rated_of t u

-- before the first slice
pub none-added : (t : Terms) (u sum below end : ℕ) → InRange t → sum ≡ 0 → below ≡ 0 → end ≡ 0
    → Added t u sum below end 0
unfolding rated_of
none-added t u sum below end r s b e = record {
  range = r;
  within = omega arith;
  ends = omega arith;
  recovered = b ∙ sym (to_zero t u);
  rest = omega arith;
}

module _ (t : Terms) (u sum below end i : ℕ) (h : Added t u sum below end i) where
  -- above the used amount there are no more
  pub none_above : u ≤ end → sum ≡ rated_of t u
  none_above above =
      omega (arith, h.rest, rated-none t u i (drop i (rates_of t)) (omega (arith, h.ends)))

  -- one slice more: what is recovered at the end of its limit, the slice, and the sum with it
  pub next-recovered : (cut : ℕ) → cut ≡ min (end + t.limit) u → placed_of t cut ≡ recovered_to t u (i + 1)
  next-recovered cut is =
      let next : cut ≡ min u ((i + 1) * t.limit) = omega (arith, is, h.ends, add-mul i 1 t.limit) in
      ap (placed_of t) next

  pub next-slice : (above : ℕ) → above ≡ recovered_to t u (i + 1) → above - below ≡ slice_after t u i
  next-slice above is = omega (arith, is, h.recovered)

  module _ (more : i < length (rates_of t)) (d : ℕ) where
    abbrev with_next : ℕ
    with_next = sum + slice_after t u i * get_or (rates_of t) i d

    still-ahead : with_next + rated_from t u (i + 1) (drop (i + 1) (rates_of t)) ≡ rated_of t u
    still-ahead = omega (arith, next, h.rest)
      where
        next : rated_from t u i (drop i (rates_of t))
            ≡ slice_after t u i * get_or (rates_of t) i d + rated_from t u (i + 1) (drop (i + 1) (rates_of t))
        next = rw (drop-cons (rates_of t) i d more, add-one i)

    pub with_next_fits : with_next < 2 ^ 64
    with_next_fits = omega (arith, still-ahead, base_le t h.range u, h.range.limit-high)

    pub one-added : (sum' above end' : ℕ) → sum' ≡ with_next → above ≡ recovered_to t u (i + 1) → end' ≡ end + t.limit
        → Added t u sum' above end' (i + 1)
    one-added sum' above end' s a e = record {
      range = h.range;
      within = omega (arith, as_many t h.range);
      ends = omega (arith, h.ends, add-mul i 1 t.limit);
      recovered = a;
      rest = omega (arith, still-ahead);
    }
