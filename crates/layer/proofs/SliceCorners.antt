-- Figures of premiums by slices, where the rates of a layer's reinstatements are not the same.
-- Assumes nothing.
use mathlib.Core.Path.{◌≡◌, refl}
use mathlib.Core.List.{[], ◌∷◌, map}
use Prim.Native.Nat.{ℕ}
use Rattle.arith.specs.Round.{rounded}
use Rattle.layer.specs.declared.terms.Terms.{Terms}
use Rattle.layer.specs.Layer.{terms_of, placed_of, slice_after, rated_of, premium_of, layer_of, charge_of, charges_of}

-- wholly placed, a limit of 100 and a premium of 1,000: the first reinstatement is free, the second at 100%
abbrev second_only : Terms
second_only = terms_of 0 100 0 2 1000 (0 ∷ 10000 ∷ []) 10000 0

-- the other way round
abbrev first_only : Terms
first_only = terms_of 0 100 0 2 1000 (10000 ∷ 0 ∷ []) 10000 0

-- a third placed, at three rates far apart
abbrev thirds : Terms
thirds = terms_of 0 100 0 3 999 (1 ∷ 20000 ∷ 7 ∷ []) 3333 0

-- half placed, above a deductible of 30
abbrev deducted : Terms
deducted = terms_of 50 100 30 2 999 (2500 ∷ 7500 ∷ []) 5000 0

-- twenty rates, from 20,000 down to 1,000
abbrev falling : Terms
falling =
    terms_of 0 7 0 20 1234
    (20000 ∷ 19000 ∷ 18000 ∷ 17000 ∷ 16000 ∷ 15000 ∷ 14000 ∷ 13000 ∷ 12000 ∷ 11000 ∷ 10000 ∷ 9000 ∷ 8000 ∷ 7000 ∷ 6000
    ∷ 5000 ∷ 4000 ∷ 3000 ∷ 2000 ∷ 1000 ∷ [])
    7201 0

pub record SliceCorners : Type 0 where
  -- none of the first slice; of the second 1, 50 and all of it; no third one
  pub second_only_lem : map (premium_of second_only) (50 ∷ 100 ∷ 101 ∷ 150 ∷ 200 ∷ 300 ∷ [])
      ≡ 0 ∷ 0 ∷ 10 ∷ 500 ∷ 1000 ∷ 1000 ∷ []
  -- half and all of the first slice; none of the second
  pub first_only_lem : map (premium_of first_only) (50 ∷ 100 ∷ 101 ∷ 150 ∷ 200 ∷ 300 ∷ [])
      ≡ 500 ∷ 1000 ∷ 1000 ∷ 1000 ∷ 1000 ∷ 1000 ∷ []
  -- losses in turn: used is 100, 150, 250 and, at the cap, 300, the year's premium 0, 500, 1,000 and 1,000
  pub second_only_in_turn : charges_of (layer_of second_only 0 0) (100 ∷ 50 ∷ 100 ∷ 100 ∷ []) ≡ 0 ∷ 500 ∷ 500 ∷ 0 ∷ []
  -- 3,333 bp of 99, 100, 101, 200, 299 and 300 are 32.9967, 33.33, 33.6633, 66.66, 99.6567 and 99.99, to the nearest
  -- cent 33, 33, 34, 67, 100 and 100. Of used 101 the slices are 33, 34 − 33 and 0, of 299 they are 33, 34 and 33, and
  -- the same of all above.
  pub third-slices : map (λ (u : ℕ). slice_after thirds u 0 ∷ slice_after thirds u 1 ∷ slice_after thirds u 2 ∷ [])
      (99 ∷ 100 ∷ 101 ∷ 200 ∷ 299 ∷ 300 ∷ 301 ∷ [])
      ≡ (33 ∷ 0 ∷ 0 ∷ []) ∷ (33 ∷ 0 ∷ 0 ∷ []) ∷ (33 ∷ 1 ∷ 0 ∷ []) ∷ (33 ∷ 34 ∷ 0 ∷ []) ∷ (33 ∷ 34 ∷ 33 ∷ [])
      ∷ (33 ∷ 34 ∷ 33 ∷ []) ∷ (33 ∷ 34 ∷ 33 ∷ []) ∷ []
  -- At 1, 20,000 and 7 they come to 33, 33, 33 + 20,000, 33 + 680,000 and, from 299 on, 33 + 680,000 + 231. Times 999,
  -- over 1,000,000, that is 0.03, 0.03, 20.01, 679.35 and 679.58. One by one the slices of 299 would be 0.03, 679.32
  -- and 0.23, and lose a cent.
  pub third-premiums : map (premium_of thirds) (99 ∷ 100 ∷ 101 ∷ 200 ∷ 299 ∷ 300 ∷ 301 ∷ [])
      ≡ 0 ∷ 0 ∷ 20 ∷ 679 ∷ 680 ∷ 680 ∷ 680 ∷ []
  -- Used is 0, 50, 100, 101, 150, 200 and 300, of which 0, 25, 50, 51 (50.5), 75, 100 and 150 are recovered. At 2,500
  -- and 7,500 the slices come to 0, 62,500, 125,000, 132,500, 312,500 and, from 200 on, 500,000. Times 999, over
  -- 1,000,000, that is 0, 62.44, 124.88, 132.37, 312.19 and a half, 499.5.
  pub above-deductible : map (premium_of deducted) (30 ∷ 80 ∷ 130 ∷ 131 ∷ 180 ∷ 230 ∷ 330 ∷ [])
      ≡ 0 ∷ 62 ∷ 125 ∷ 132 ∷ 312 ∷ 500 ∷ 500 ∷ []
  -- 7,201 bp of i limits of 7 are 5.0407 × i: every slice is 5, but the thirteenth 6, from 60.49 to 65.53. Of 91, 13
  -- limits, they come to 5 × 174,000 + 6 × 8,000, of 140, all limits, to 5 × 210,000 + 8,000, and of 137, of which
  -- 98.65 are recovered, to 2 × 1,000 less. Times 1,234, over 70,000, that is 16,183.03, 18,651.03 and 18,615.77.
  pub twenty-rates : map (premium_of falling) (91 ∷ 137 ∷ 140 ∷ 147 ∷ []) ≡ 16183 ∷ 18616 ∷ 18651 ∷ 18651 ∷ []
  -- a rate past the last reinstatement is not looked at, nor a slice there: half the premium of one limit, not of two
  pub unused_rate : map (premium_of (terms_of 0 100 0 1 1000 (5000 ∷ 20000 ∷ []) 10000 0)) (100 ∷ 101 ∷ 200 ∷ [])
      ≡ 500 ∷ 500 ∷ 500 ∷ []

pub slice-corners : SliceCorners
unfolding placed_of rated_of premium_of charge_of rounded
slice-corners = record {
  second_only_lem = refl;
  first_only_lem = refl;
  second_only_in_turn = refl;
  third-slices = refl;
  third-premiums = refl;
  above-deductible = refl;
  twenty-rates = refl;
  unused_rate = refl;
}
