-- Document 02, Q-8: "the nearest cent, halves up". What n / d is rounded to is the one whole number of cents that is
-- nearest to it, of two equally near the upper one.
-- Assumes nothing.
use Rattle.std.proofs.Common.{◌≡◌, ℕ, suc, ◌+◌, ◌-◌, ◌*◌, ◌<◌, ◌≤◌, le_of_eq, le_of_lt, mul-le-mul_right, le_antisymm, lt_of_not-le, not-le_of_lt, arith}
use Rattle.arith.specs.Round.{rounded}
use Rattle.arith.proofs.Rounding.{rounded-low, rounded-high}

-- how far apart two amounts are
abbrev pub apart : (m n : ℕ) → ℕ
apart m n = (m - n) + (n - m)

-- q cents are the nearest to n / d, halves up
pub record Nearest (n d q : ℕ) : Type 0 where
  pub none_nearer : (m : ℕ) → apart n (q * d) ≤ apart n (m * d)
  pub halves-up : (m : ℕ) → apart n (m * d) ≡ apart n (q * d) → m ≤ q

module _ (n d : ℕ) (hd : 0 < d) where
  abbrev q : ℕ
  q = rounded n d

  -- a number of cents above is farther off, and one below is no nearer
  above : (m : ℕ) → q < m → apart n (q * d) < apart n (m * d)
  above m h = omega (arith, rounded-low n d, rounded-high n hd, mul-le-mul_right {m = suc q} d h)

  below : (m : ℕ) → m < q → apart n (q * d) ≤ apart n (m * d)
  below m h = omega (arith, rounded-low n d, rounded-high n hd, mul-le-mul_right {m = suc m} d h)

  upper : (m : ℕ) → apart n (m * d) ≤ apart n (q * d) → m ≤ q
  upper m h = omega (arith, lt_of_not-le {n = suc q} {m = m} (λ g. not-le_of_lt (above m g) h))

  -- so one that were nearer would be q itself
  same : (m : ℕ) → apart n (m * d) < apart n (q * d) → apart n (q * d) ≤ apart n (m * d)
  same m g =
      let ge = lt_of_not-le {n = suc m} {m = q} (λ l. not-le_of_lt g (below m l)) in
      omega (arith, mul-le-mul_right d (upper m (le_of_lt g)), mul-le-mul_right {m = q} {n = m} d (omega (arith, ge)))

  none_nearer_than : (m : ℕ) → apart n (q * d) ≤ apart n (m * d)
  none_nearer_than m =
      omega (arith, lt_of_not-le {n = suc (apart n (m * d))} {m = apart n (q * d)} (λ g. not-le_of_lt g (same m g)))

  pub nearest : Nearest n d q
  nearest = record { none_nearer = none_nearer_than; halves-up = λ m e. upper m (le_of_eq e) }

  -- and nothing else is
  pub nearest-alone : (m : ℕ) → Nearest n d m → m ≡ q
  nearest-alone m h =
      le_antisymm (upper m (h.none_nearer q)) (h.halves-up q (le_antisymm (none_nearer_than m) (h.none_nearer q)))
