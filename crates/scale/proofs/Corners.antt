-- Document 02, Q-4 and Q-12: figures of the time shares and of the test of a scale, worked out by hand.
-- Assumes nothing.
use mathlib.Core.Path.{◌≡◌, refl}
use mathlib.Core.Bool.{true, false}
use mathlib.Core.List.{[], ◌∷◌, ◌++◌, map}
use Prim.Native.Nat.{ℕ}
use lib.ListN.{replicate}
use Rattle.scale.specs.Scale.{day_share, time_shares, share_on, never_rising, scale_passes}

pub record Corners : Type 0 where
  -- 3,650,000 / 365, 3,640,000 / 365 (9,972.6), 3,630,000 / 365 (9,945.2), 2,660,000 / 365 (7,287.7), 1,820,000 / 365
  -- (4,986.3), 1,660,000 / 365 (4,547.9), 10,000 / 365 (27.4) and nothing
  pub by-day : map (share_on time_shares) (1 ∷ 2 ∷ 3 ∷ 100 ∷ 184 ∷ 200 ∷ 365 ∷ 366 ∷ [])
      ≡ 10000 ∷ 9972 ∷ 9945 ∷ 7287 ∷ 4986 ∷ 4547 ∷ 27 ∷ 0 ∷ []
  pub by_rule : map day_share (1 ∷ 2 ∷ 100 ∷ 200 ∷ 366 ∷ []) ≡ 10000 ∷ 9972 ∷ 7287 ∷ 4547 ∷ 0 ∷ []
  -- in any table the first share is that of day 1, and a day past the last has none
  pub by_place : map (share_on (70 ∷ 50 ∷ 30 ∷ [])) (1 ∷ 2 ∷ 3 ∷ 4 ∷ []) ≡ 70 ∷ 50 ∷ 30 ∷ 0 ∷ []
  -- shares that are equal, or fall to nothing at once, never rise; 71 after 70 does, and 31 after 30 as the last
  pub rising : map (never_rising 70) ((70 ∷ 70 ∷ []) ∷ (70 ∷ 0 ∷ 0 ∷ []) ∷ (71 ∷ []) ∷ (50 ∷ 30 ∷ 31 ∷ []) ∷ [])
      ≡ true ∷ true ∷ false ∷ false ∷ []
  -- 366 shares of one size are a scale up to 10,000; 365 and 367 of them are none
  pub sizes : map (λ (s : ℕ). scale_passes (replicate 366 s)) (0 ∷ 3333 ∷ 10000 ∷ 10001 ∷ [])
      ≡ true ∷ true ∷ true ∷ false ∷ []
  pub lengths : map (λ (n : ℕ). scale_passes (replicate n 7201)) (0 ∷ 365 ∷ 366 ∷ 367 ∷ [])
      ≡ false ∷ false ∷ true ∷ false ∷ []
  -- the last share may fall and may not rise
  pub last : map (λ (s : ℕ). scale_passes (replicate 365 7201 ++ (s ∷ []))) (7200 ∷ 7201 ∷ 7202 ∷ [])
      ≡ true ∷ true ∷ false ∷ []
  pub built_in : scale_passes time_shares ≡ true

pub corners : Corners
unfolding time_shares day_share scale_passes
corners = record {
  by-day = refl;
  by_rule = refl;
  by_place = refl;
  rising = refl;
  sizes = refl;
  lengths = refl;
  last = refl;
  built_in = refl;
}
