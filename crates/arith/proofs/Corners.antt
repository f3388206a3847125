-- Figures at the corners of rounding.
-- Assumes nothing.
use Rattle.std.proofs.Common.{◌≡◌, ◌*◌, refl}
use Rattle.arith.specs.Round.{rounded}

pub record Corners : Type 0 where
  -- nothing, one short of a cent, a whole cent and one past it
  pub none : rounded 0 10000 ≡ 0
  pub short : rounded 9999 10000 ≡ 1
  pub whole : rounded 10000 10000 ≡ 1
  pub past : rounded 10001 10000 ≡ 1
  -- one below half a cent, a half and one above; and likewise a half more than a cent
  pub below_half : rounded 4999 10000 ≡ 0
  pub half : rounded 5000 10000 ≡ 1
  pub above_half : rounded 5001 10000 ≡ 1
  pub below_next : rounded 14999 10000 ≡ 1
  pub next-half : rounded 15000 10000 ≡ 2
  -- an odd divisor has no half: 3 / 7 and 4 / 7, 10 / 7 and 11 / 7
  pub odd_below : rounded 3 7 ≡ 0
  pub odd_above : rounded 4 7 ≡ 1
  pub odd_below_next : rounded 10 7 ≡ 1
  pub odd_above_next : rounded 11 7 ≡ 2
  -- 4,000 bp of 101 and of 100 are 40.4 and 40, 5,000 bp of 101 are 50.5
  pub part : rounded (101 * 4000) 10000 ≡ 40
  pub exact : rounded (100 * 4000) 10000 ≡ 40
  pub half_of_101 : rounded (101 * 5000) 10000 ≡ 51
  -- products that pass a word, by 10^17: 10^13 × (10^17 − 1); and (10^13 − 1) × 5 × 10^16, a half, with the factor one
  -- below and one above
  pub wide : rounded (10000000000000 * 99999999999999999) 100000000000000000 ≡ 10000000000000
  pub wide_below : rounded (9999999999999 * 49999999999999999) 100000000000000000 ≡ 4999999999999
  pub wide-half : rounded (9999999999999 * 50000000000000000) 100000000000000000 ≡ 5000000000000
  pub wide-above : rounded (9999999999999 * 50000000000000001) 100000000000000000 ≡ 5000000000000

pub corners : Corners
unfolding rounded
corners = record {
  none = refl;
  short = refl;
  whole = refl;
  past = refl;
  below_half = refl;
  half = refl;
  above_half = refl;
  below_next = refl;
  next-half = refl;
  odd_below = refl;
  odd_above = refl;
  odd_below_next = refl;
  odd_above_next = refl;
  part = refl;
  exact = refl;
  half_of_101 = refl;
  wide = refl;
  wide_below = refl;
  wide-half = refl;
  wide-above = refl;
}
