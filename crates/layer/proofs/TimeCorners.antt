-- Document 02, Q-4: figures of premiums by amount and time, worked out by hand.
-- Assumes nothing.
use mathlib.Core.Path.{◌≡◌, refl}
use mathlib.Core.List.{List, [], ◌∷◌, map}
use Prim.Native.Nat.{ℕ}
use Rattle.arith.specs.Round.{rounded}
use Rattle.layer.specs.declared.terms.Terms.{Terms}
use Rattle.layer.specs.declared.record.Layer.{Layer}
use Rattle.layer.specs.Layer.{terms_of, placed_of, recovered_of, rated_of, premium_of, layer_of, charge_of, recovery_of}
use Rattle.layer.specs.Layer.{due_for, due_of, dues_of, timed_part, with_due, layer_on, timed_most, year_premium}
use Rattle.layer.specs.Layer.{borne_through}
use Rattle.layer.specs.Tier.{layers_on, layers_through, dues_by, dues_through, sums_through}

-- a limit of 1,000,000 wholly placed, with one reinstatement at 100% for a premium of 365,000, by time and not
abbrev timed : Terms
timed = terms_of 0 1000000 0 1 365000 (10000 ∷ []) 10000 1

abbrev plain : Terms
plain = terms_of 0 1000000 0 1 365000 (10000 ∷ []) 10000 0

-- a limit of 100 for a premium of 100: a cent of premium for each cent of loss
abbrev cents : Terms
cents = terms_of 0 100 0 1 100 (10000 ∷ []) 10000 1

-- A deductible, two rates and a placed share: of used amounts of 550, 1,550 and 1,850 the slices recover 183, then 333
-- and 184, then 333 and 284, for amount premiums of 91.4, 393.3 and 516.6.
abbrev slices : Terms
slices = terms_of 100 1000 50 2 999 (5000 ∷ 12345 ∷ []) 3333 1

-- two layers of one tier, 100 and 5 cents of premium for each cent of loss, the first by time
abbrev first : Terms
first = terms_of 10 40 0 1 4000 (10000 ∷ []) 10000 1

abbrev second : Terms
second = terms_of 50 100 0 1 1000 (5000 ∷ []) 10000 0

abbrev pair : List Layer
pair = layer_of first 0 0 ∷ layer_of second 0 0 ∷ []

pub record TimeCorners : Type 0 where
  -- The amount premium of 500,000 is 182,500. At the shares of days 1, 100, 184, 200 and 366 that is 182,500,
  -- 132,987.75, a half, 90,994.5, then 82,982.75 and nothing.
  pub by-day : map (λ (share : ℕ). due_of share 500000 (layer_of timed 0 0)) (10000 ∷ 7287 ∷ 4986 ∷ 4547 ∷ 0 ∷ [])
      ≡ 182500 ∷ 132988 ∷ 90995 ∷ 82983 ∷ 0 ∷ []
  -- one loss of 1,000,000 on day 100: 265,975.5
  pub at_once : due_of 7287 1000000 (layer_of timed 0 0) ≡ 265976
  -- without (time) no share is looked at
  pub by-amount : map (λ (share : ℕ). due_of share 500000 (layer_of plain 0 0)) (10000 ∷ 4986 ∷ 0 ∷ [])
      ≡ 182500 ∷ 182500 ∷ 182500 ∷ []
  -- of 5 and 7 cents below, at and above a half: 2.4995, 2.5 and 2.5005, then 3.4993, 3.5 and 3.5007
  pub halves : map (λ (share : ℕ). due_for timed share 5) (4999 ∷ 5000 ∷ 5001 ∷ []) ≡ 2 ∷ 3 ∷ 3 ∷ []
  pub more-halves : map (λ (share : ℕ). due_for timed share 7) (4999 ∷ 5000 ∷ 5001 ∷ []) ≡ 3 ∷ 4 ∷ 4 ∷ []
  -- Each loss is settled by itself. Two losses of 1 at 4,986 bp are 0.4986 each, and 0.9972 together; at a half each
  -- goes up, and together they are 1.
  pub each-down : dues_of 4986 (layer_of cents 0 0) (1 ∷ 1 ∷ []) ≡ 0 ∷ 0 ∷ []
  pub each-up : dues_of 5000 (layer_of cents 0 0) (1 ∷ 1 ∷ []) ≡ 1 ∷ 1 ∷ []
  pub two_at_once : map (λ (share : ℕ). due_of share 2 (layer_of cents 0 0)) (4986 ∷ 5000 ∷ []) ≡ 1 ∷ 1 ∷ []
  -- The amount premium is settled first: 91 × 4,547 bp are 41.4, where 91.4 would be 41.6. So for the growth of 302,
  -- then of 124.
  pub of_slices : dues_of 4547 (layer_of slices 0 0) (600 ∷ 1000 ∷ 300 ∷ []) ≡ 41 ∷ 137 ∷ 56 ∷ []
  -- the record after a loss on a day: what is spent, and what is due beside what was due before
  pub on-a-day : layer_on 4986 500000 (layer_of timed 300000 9)
      ≡ record { terms = timed; spent = record { 0 = 800000 }; timed = record { 0 = 91004 } }
  pub on-a-day-plain : layer_on 4986 500000 (layer_of plain 300000 0)
      ≡ record { terms = plain; spent = record { 0 = 800000 }; timed = record { 0 = 0 } }
  pub kept : map (with_due 7) (layer_of timed 3 4 ∷ layer_of plain 3 0 ∷ []) ≡ layer_of timed 3 11 ∷ layer_of plain 3 0 ∷ []
  -- what a timed premium may be at most: the amount premium at the spent amount, not at the cap; 0 without (time)
  pub most : map (timed_most timed) (0 ∷ 500000 ∷ 1000000 ∷ 2000000 ∷ []) ≡ 0 ∷ 182500 ∷ 365000 ∷ 365000 ∷ []
  pub most_of_slices : map (timed_most slices) (50 ∷ 600 ∷ 1600 ∷ 1900 ∷ []) ≡ 0 ∷ 91 ∷ 393 ∷ 517 ∷ []
  pub most-plain : map (timed_most plain) (500000 ∷ 2000000 ∷ []) ≡ 0 ∷ 0 ∷ []
  -- what a layer's line shows
  pub shown : map year_premium (layer_of timed 500000 90995 ∷ layer_of timed 500000 0 ∷ layer_of plain 500000 0 ∷ [])
      ≡ 90995 ∷ 0 ∷ 182500 ∷ []
  -- Two amounts in turn, each a loss of 1 at a half, with sums of 7 and 5 and a timed premium of 3 before.
  pub borne : borne_through (1 ∷ 1 ∷ [])
      (record { share = 5000; recovered = record { 0 = 7 }; premium = record { 0 = 5 } }) (layer_of cents 10 3)
      ≡ record {
        layer = record { terms = cents; spent = record { 0 = 12 }; timed = record { 0 = 5 } };
        sums = record { share = 5000; recovered = record { 0 = 9 }; premium = record { 0 = 7 } };
      }
  -- Through a tier. Of 30 the first layer is brought 20, and 2,000 × 4,987 bp are 997.4; of 120 it is brought 40, of
  -- which 20 are reinstated, and the same is due again, 1,994 where 4,000 × 4,987 bp are 1,994.8. The second is brought
  -- 0 and 70, for 350.
  pub through : layers_through 4987 (30 ∷ 120 ∷ []) pair
      ≡ record { terms = first; spent = record { 0 = 60 }; timed = record { 0 = 1994 } }
      ∷ record { terms = second; spent = record { 0 = 70 }; timed = record { 0 = 0 } } ∷ []
  pub dues-through : map (λ (xs : List ℕ). dues_through 4987 xs pair) ((30 ∷ []) ∷ (30 ∷ 120 ∷ []) ∷ [])
      ≡ 997 ∷ 2344 ∷ []
  -- one amount of 120: 4,000 × 4,987 bp are 1,994.8, and 350
  pub one-amount : layers_on 4987 120 pair
      ≡ record { terms = first; spent = record { 0 = 40 }; timed = record { 0 = 1995 } }
      ∷ record { terms = second; spent = record { 0 = 70 }; timed = record { 0 = 0 } } ∷ []
  pub dues_of_one : dues_by 4987 120 pair ≡ 2345
  -- the sums of the tier, begun with 3 and 4: 20 and 40 are recovered by the first layer and 70 by the second
  pub sums : sums_through (30 ∷ 120 ∷ [])
      (record { share = 4987; recovered = record { 0 = 3 }; premium = record { 0 = 4 } }) pair
      ≡ record { share = 4987; recovered = record { 0 = 133 }; premium = record { 0 = 2348 } }

pub time-corners : TimeCorners
unfolding placed_of recovered_of rated_of premium_of charge_of recovery_of due_for due_of timed_part timed_most year_premium
    rounded
time-corners = record {
  by-day = refl;
  at_once = refl;
  by-amount = refl;
  halves = refl;
  more-halves = refl;
  each-down = refl;
  each-up = refl;
  two_at_once = refl;
  of_slices = refl;
  on-a-day = refl;
  on-a-day-plain = refl;
  kept = refl;
  most = refl;
  most_of_slices = refl;
  most-plain = refl;
  shown = refl;
  borne = refl;
  through = refl;
  dues-through = refl;
  one-amount = refl;
  dues_of_one = refl;
  sums = refl;
}
