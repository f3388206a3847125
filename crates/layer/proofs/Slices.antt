-- The slices of a used amount, one for each reinstatement, and their sum at the rates of these.
-- Assumes nothing.
use mathlib.Core.Path.{◌≡◌, refl, ap, ◌∙◌}
use mathlib.Core.List.{List, [], ◌∷◌}
use Prim.Native.Nat.{ℕ, zero, suc, ◌+◌, ◌*◌, ◌≤◌, min}
use native.Mathlib.Nat.{mul-le-mul_right, mul-le-mul_left, add-mul, zero-mul, mul-one, add-zero, zero-add}
use native.Mathlib.Omega.{arith}
use lib.ListN.{length, take, replicate, length-take}
use lib.Seq.{length-take-le}
use Rattle.lists.specs.Each.{Each}
use Rattle.lists.proofs.Cases.{by-lt}
use Rattle.lists.proofs.Each.{each_take}
use Rattle.layer.specs.declared.terms.Terms.{Terms}
use Rattle.layer.specs.Layer.{placed_of, recovered_to, slice_after, rated_from, rated_of}
use Rattle.layer.specs.Ranges.{InRange}
use Rattle.layer.proofs.Bounds.{placed-le}
use Rattle.layer.proofs.Recoveries.{placed-zero, placed_mono}

-- the rates of the reinstatements
abbrev pub rates_of : Terms → List ℕ
rates_of t = take t.reinstatements t.rates

module _ (t : Terms) where
  -- one limit more is no less
  next-limit : (i : ℕ) → i * t.limit ≤ (i + 1) * t.limit
  next-limit i = mul-le-mul_right t.limit (omega arith)

  -- cut at no limit nothing is recovered, and at more limits no less
  pub to_zero : (u : ℕ) → recovered_to t u 0 ≡ 0
  to_zero u = let none : min u (0 * t.limit) ≡ 0 = omega arith in ap (placed_of t) none ∙ placed-zero t

  to_mono : (u i : ℕ) → recovered_to t u i ≤ recovered_to t u (i + 1)
  to_mono u i = placed_mono t (omega (arith, next-limit i))

  -- a slice above the used amount is none
  slice-none : (u i : ℕ) → u ≤ i * t.limit → slice_after t u i ≡ 0
  slice-none u i h =
      let same : min u ((i + 1) * t.limit) ≡ min u (i * t.limit) = omega (arith, next-limit i) in
      omega (arith, ap (placed_of t) same)

  -- one below two used amounts is the same of both
  slice-same : (u v i : ℕ) → (i + 1) * t.limit ≤ u → (i + 1) * t.limit ≤ v → slice_after t u i ≡ slice_after t v i
  slice-same u v i h k =
      let upper : min u ((i + 1) * t.limit) ≡ min v ((i + 1) * t.limit) = omega arith in
      let lower : min u (i * t.limit) ≡ min v (i * t.limit) = omega (arith, next-limit i) in
      omega (arith, ap (placed_of t) upper, ap (placed_of t) lower)

  -- and a larger used amount has none smaller
  slice_mono : (u v i : ℕ) → u ≤ v → slice_after t u i ≤ slice_after t v i
  slice_mono u v i h =
      by-lt (i * t.limit) u
      (λ k.
      let lower : min u (i * t.limit) ≡ min v (i * t.limit) = omega arith in
      let upper : min u ((i + 1) * t.limit) ≤ min v ((i + 1) * t.limit) = omega arith in
      omega (arith, ap (placed_of t) lower, placed_mono t upper))
      (λ k. omega (arith, slice-none u i k))

  -- so the sum never falls
  rated_mono_from : (u v i : ℕ) (qs : List ℕ) → u ≤ v → rated_from t u i qs ≤ rated_from t v i qs
  rated_mono_from u v i [] h = omega arith
  rated_mono_from u v i (q ∷ qs) h =
      omega (arith, mul-le-mul_right q (slice_mono u v i h), rated_mono_from u v (i + 1) qs h)

  pub rated_mono : (u v : ℕ) → u ≤ v → rated_of t u ≤ rated_of t v
  unfolding rated_of
  rated_mono u v h = rated_mono_from u v 0 (rates_of t) h

  -- nothing is added above the used amount
  pub rated-none : (u i : ℕ) (qs : List ℕ) → u ≤ i * t.limit → rated_from t u i qs ≡ 0
  rated-none u i [] h = refl
  rated-none u i (q ∷ qs) h =
      let none : slice_after t u i * q ≡ 0 = ap (λ (n : ℕ). n * q) (slice-none u i h) ∙ zero-mul q in
      omega (arith, none, rated-none u (i + 1) qs (omega (arith, next-limit i)))

  -- and from the last reinstatement on the sum stays as it is
  rated-same-from : (u v i : ℕ) (qs : List ℕ) → (i + length qs) * t.limit ≤ u → (i + length qs) * t.limit ≤ v
      → rated_from t u i qs ≡ rated_from t v i qs
  rated-same-from u v i [] h k = refl
  rated-same-from u v i (q ∷ qs) h k =
      let next : i + 1 + length qs ≡ i + length (q ∷ qs) = omega arith in
      let ends = ap (λ (n : ℕ). n * t.limit) next in
      let more : (i + 1) * t.limit ≤ (i + length (q ∷ qs)) * t.limit = mul-le-mul_right t.limit (omega arith) in
      let first = slice-same u v i (omega arith) (omega arith) in
      let rest = rated-same-from u v (i + 1) qs (omega arith) (omega arith) in
      λ j. first j * q + rest j

  pub rated-stops : (u v : ℕ) → t.reinstatements * t.limit ≤ u → u ≤ v → rated_of t u ≡ rated_of t v
  unfolding rated_of
  rated-stops u v h k =
      let many = length-take t.reinstatements t.rates in
      let last : (0 + length (rates_of t)) * t.limit ≤ t.reinstatements * t.limit =
      mul-le-mul_right t.limit (omega arith) in
      rated-same-from u v 0 (rates_of t) (omega arith) (omega arith)

  -- the slices at one rate: what is recovered by them, at that rate
  one_rate_from : (u i n q : ℕ)
      → recovered_to t u i * q + rated_from t u i (replicate n q) ≡ recovered_to t u (i + n) * q
  one_rate_from u i zero q = omega (arith, ap (λ (k : ℕ). recovered_to t u k * q) (add-zero i))
  one_rate_from u i (suc n) q =
      let next : i + 1 + n ≡ i + suc n = omega arith in
      let exact : recovered_to t u i + slice_after t u i ≡ recovered_to t u (i + 1) = omega (arith, to_mono u i) in
      omega (
        arith,
        add-mul (recovered_to t u i) (slice_after t u i) q,
        ap (λ (k : ℕ). k * q) exact,
        one_rate_from u (i + 1) n q,
        ap (λ (k : ℕ). recovered_to t u k * q) next,
      )

  pub one_rate : (u k q : ℕ) → rated_from t u 0 (replicate k q) ≡ recovered_to t u k * q
  one_rate u k q =
      let none : recovered_to t u 0 * q ≡ 0 = ap (λ (n : ℕ). n * q) (to_zero u) ∙ zero-mul q in
      omega (arith, none, one_rate_from u 0 k q, ap (λ (n : ℕ). recovered_to t u n * q) (zero-add k))

  -- The slices of k reinstatements, each taken once, add up to what is recovered with used cut at k limits.
  pub slices-add : (u k : ℕ) → rated_from t u 0 (replicate k 1) ≡ recovered_to t u k
  slices-add u k = one_rate u k 1 ∙ mul-one (recovered_to t u k)

  -- rates of at most b add at most what b adds for each
  rated-le-from : (u i b : ℕ) (qs : List ℕ) → Each (λ (q : ℕ). q ≤ b) qs
      → rated_from t u i qs ≤ rated_from t u i (replicate (length qs) b)
  rated-le-from u i b [] e = omega arith
  rated-le-from u i b (q ∷ qs) e =
      omega (arith, mul-le-mul_left (slice_after t u i) e.0, rated-le-from u (i + 1) b qs e.1)

module _ (t : Terms) (r : InRange t) where
  pub as_many : length (rates_of t) ≡ t.reinstatements
  as_many = length-take-le t.reinstatements t.rates (omega (arith, r.places))

  to_le : (u i : ℕ) → i ≤ 20 → recovered_to t u i ≤ 20 * t.limit
  to_le u i h = omega (arith, mul-le-mul_right t.limit h, placed-le t (min u (i * t.limit)) r.placed)

  -- what the premium multiplies, twenty limits at 20,000, is at most 40 times what it divides by
  pub base_le : (u : ℕ) → rated_of t u ≤ 40 * (10000 * t.limit)
  unfolding rated_of
  base_le u =
      let k = length (rates_of t) in
      let highest = each_take (λ (q : ℕ). q ≤ 20000) t.reinstatements t.rates r.rates in
      omega (
        arith,
        rated-le-from t u 0 20000 (rates_of t) highest,
        one_rate t u k 20000,
        mul-le-mul_right 20000 (to_le u k (omega (arith, as_many))),
      )
