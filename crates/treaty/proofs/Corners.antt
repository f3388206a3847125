-- Figures at the corners of the treaties' definitions.
-- Assumes nothing.
use mathlib.Core.Path.{◌≡◌, refl}
use mathlib.Core.List.{List, [], ◌∷◌}
use Prim.Native.Nat.{ℕ}
use Rattle.arith.specs.Round.{rounded}
use Rattle.treaty.specs.declared.Treaty.{Treaty}
use Rattle.treaty.specs.declared.Loss.{Loss}
use Rattle.treaty.specs.Treaty.{quota_of, surplus_of, loss_of, cessions, cession_of}
use Rattle.treaty.specs.Treaty.{ceded_by_quota, ceded_by_surplus, ceded_of, cut_to_limit, ceded_of_loss}
use Rattle.treaty.specs.Losses.{ceded_in, ceded_of_each, left_of_each}

-- two treaties with event limits, and the losses of one event, in which the losses of each stand between the other's
abbrev quota_share : Treaty
quota_share = quota_of 1 3750 0 3400

abbrev surplus : Treaty
surplus = surplus_of 3 1000 4 3900

abbrev mixed : List Loss
mixed =
    loss_of 3 4000 3000 ∷ loss_of 1 600 8000 ∷ loss_of 0 700 7000 ∷ loss_of 3 4000 1500 ∷ loss_of 1 600 2000
    ∷ loss_of 3 5000 1000 ∷ []

pub record Corners : Type 0 where
  -- capacity 0 is none: 7,200 bp of 9,999 at any E
  pub capacity-none : (e : ℕ) → cessions (quota_of 1 7200 0 0) (loss_of 1 e 9999 ∷ []) ≡ 7199 ∷ []
  -- one below half a cent, a half and one above it: 1,667.4999, 1,666.5 and 1,665.5001
  pub quota-halves : cessions (quota_of 1 3333 0 0) (loss_of 1 1 5003 ∷ loss_of 1 1 5000 ∷ loss_of 1 1 4997 ∷ [])
      ≡ 1667 ∷ 1667 ∷ 1666 ∷ []
  -- E just above the capacity: 30,000 × 4,000 × 20,000 / 200,010,000
  pub capacity-passed : cessions (quota_of 1 4000 20000 0) (loss_of 1 20001 30000 ∷ []) ≡ 11999 ∷ []
  -- rounded once, after the whole product: 160 and 190 × 7,201 × 7 / 90,000 are 89.61 and 106.41
  pub capacity-rounded : cessions (quota_of 1 7201 7 0) (loss_of 1 9 160 ∷ loss_of 1 9 190 ∷ []) ≡ 90 ∷ 106 ∷ []
  -- one below half a cent, a half and one above it: 19,298.499975, 32,404.5 and 2,304.500025
  pub capacity-halves : cessions (quota_of 1 7201 3 0) (loss_of 1 4 35733 ∷ loss_of 1 4 60000 ∷ loss_of 1 4 4267 ∷ [])
      ≡ 19298 ∷ 32405 ∷ 2305 ∷ []
  -- all and nothing ceded
  pub cede-all : cessions (quota_of 1 10000 0 0) (loss_of 1 1 777 ∷ []) ≡ 777 ∷ []
  pub cede-none : cessions (quota_of 1 0 0 0) (loss_of 1 1 777 ∷ []) ≡ 0 ∷ []
  -- event limit 0 is none
  pub limit-none : cessions (quota_of 1 4000 0 0) (loss_of 1 1 30000 ∷ loss_of 1 1 10001 ∷ []) ≡ 12000 ∷ 4000 ∷ []
  -- also after an amount taken: 120 of 300
  pub limit-none-later : cession_of (quota_of 1 4000 0 0) 7000 (loss_of 1 1 300)
      ≡ record { ceded = 120; left = 180; taken = 7120 }
  -- the limit is ceded money: 4,000 and 400 are taken, and of the third loss's 4,000 the 600 up to the limit
  pub limit_reached : cessions (quota_of 1 4000 0 5000) (loss_of 1 1 10000 ∷ loss_of 1 1 1000 ∷ loss_of 1 1 10000 ∷ [])
      ≡ 4000 ∷ 400 ∷ 600 ∷ []
  -- the first loss passes the limit: 8,000 are cut to it, and nothing is taken of the second
  pub limit-passed : cessions (quota_of 1 4000 0 7000) (loss_of 1 1 20000 ∷ loss_of 1 1 10000 ∷ []) ≡ 7000 ∷ 0 ∷ []
  -- one cent is left of the limit
  pub limit_nearly : cessions (quota_of 1 10000 0 15000) (loss_of 1 1 14999 ∷ loss_of 1 1 10000 ∷ []) ≡ 14999 ∷ 1 ∷ []
  -- a surplus cedes 8,000 × 30,000 / 40,000, cut to the limit
  pub surplus-limited : cessions (surplus_of 1 10000 3 5000)
      (loss_of 1 40000 8000 ∷ loss_of 1 40000 2000 ∷ loss_of 1 40000 8000 ∷ []) ≡ 5000 ∷ 0 ∷ 0 ∷ []
  -- 4,400 of the limit are taken: of 4,000 the other 600 are ceded, 9,400 of g are left, and the limit is taken then
  pub one_cession : cession_of (quota_of 1 4000 0 5000) 4400 (loss_of 1 1 10000)
      ≡ record { ceded = 600; left = 9400; taken = 5000 }
  -- the limit less what was taken is not below 0
  pub limit_overrun : cession_of (quota_of 1 4000 0 5000) 6000 (loss_of 1 1 1000)
      ≡ record { ceded = 0; left = 1000; taken = 6000 }
  -- E equal to the retention, and one above it: 8,000 × 1 / 10,001
  pub retained : cessions (surplus_of 1 10000 3 0) (loss_of 1 10000 8000 ∷ loss_of 1 10001 8000 ∷ []) ≡ 0 ∷ 1 ∷ []
  -- E equal to r × (1 + n), and one above it: 90,000 × 30,000 / 40,001
  pub upper-end : cessions (surplus_of 1 10000 3 0) (loss_of 1 40000 90000 ∷ loss_of 1 40001 90000 ∷ [])
      ≡ 67500 ∷ 67498 ∷ []
  -- E between r × n and r × (1 + n): 7,000 × 25,000 / 35,000
  pub between : cessions (surplus_of 1 10000 3 0) (loss_of 1 35000 7000 ∷ []) ≡ 5000 ∷ []
  -- rounded once, after the whole product: 102 × 5 / 7 is 72.86, and 100 × 3 × 2 / 11 is 54.55
  pub surplus-rounded : cessions (surplus_of 1 2 3 0) (loss_of 1 7 102 ∷ loss_of 1 11 100 ∷ []) ≡ 73 ∷ 55 ∷ []
  -- one below half a cent, a half and one above it: 5 / 8 of 7, 4 and 9 are 4.375, 2.5 and 5.625, and 9 / 14 of 10, 7
  -- and 4 are 6.43, 4.5 and 2.57
  pub between-halves : cessions (surplus_of 1 3 3 0) (loss_of 1 8 7 ∷ loss_of 1 8 4 ∷ loss_of 1 8 9 ∷ [])
      ≡ 4 ∷ 3 ∷ 6 ∷ []
  pub above-halves : cessions (surplus_of 1 3 3 0) (loss_of 1 14 10 ∷ loss_of 1 14 7 ∷ loss_of 1 14 4 ∷ [])
      ≡ 6 ∷ 5 ∷ 3 ∷ []
  -- retention 0 and lines 0 mean their 0
  pub retention-zero : cessions (surplus_of 1 0 3 0) (loss_of 1 50000 8000 ∷ []) ≡ 0 ∷ []
  pub lines-zero : cessions (surplus_of 1 10000 0 0) (loss_of 1 50000 8000 ∷ []) ≡ 0 ∷ []
  -- of a loss of another treaty nothing is ceded, and nothing taken: 3,200 are cut to the 1,000 that are left
  pub others : cessions (quota_of 1 4000 0 5000) (loss_of 1 1 10000 ∷ loss_of 2 1 9000 ∷ loss_of 1 1 8000 ∷ [])
      ≡ 4000 ∷ 1000 ∷ []
  -- g above E: 1,000,000 × 1 / 10,001, and 1,000,000 × 30,000 / 50,000
  pub above_maximum : cessions (surplus_of 1 10000 3 0) (loss_of 1 10001 1000000 ∷ loss_of 1 50000 1000000 ∷ [])
      ≡ 100 ∷ 600000 ∷ []
  -- E and g at their largest, cede and capacity one below: 10^13 × 9,999 × (10^13 − 1) / (10,000 × 10^13)
  pub largest : cessions (quota_of 1 9999 9999999999999 0) (loss_of 1 10000000000000 10000000000000 ∷ [])
      ≡ 9998999999999 ∷ []
  -- the limit at its largest: 9,999 bp of 10^13 twice, the second cut to 10^13 less the first
  pub limit-largest : cessions (quota_of 1 9999 0 10000000000000)
      (loss_of 1 1 10000000000000 ∷ loss_of 1 1 10000000000000 ∷ []) ≡ 9999000000000 ∷ 1000000000 ∷ []
  -- two treaties' losses in turn: the quota share took 4,400 of its limit of 5,000 before its second loss, and what
  -- the surplus took counts nothing towards it
  pub in_turn : ceded_of_each (quota_of 1 4000 0 5000 ∷ surplus_of 3 1000 3 0 ∷ []) []
      (loss_of 1 9000 11000 ∷ loss_of 3 2500 1700 ∷ loss_of 1 9000 6000 ∷ loss_of 0 700 700 ∷ [])
      ≡ 4400 ∷ 1020 ∷ 600 ∷ 0 ∷ []
  -- each treaty's limit is cut by what it took itself: 2,250 and 1,125 of 3,900 before the third loss of the surplus,
  -- 3,000 of 3,400 before the second of the quota share; 800 and 750 would be ceded without
  pub own_limits : ceded_of_each (quota_share ∷ surplus ∷ []) [] mixed ≡ 2250 ∷ 3000 ∷ 0 ∷ 1125 ∷ 400 ∷ 525 ∷ []
  pub own-left : left_of_each (quota_share ∷ surplus ∷ []) [] mixed ≡ 750 ∷ 5000 ∷ 7000 ∷ 375 ∷ 1600 ∷ 475 ∷ []
  pub own-quota : cessions quota_share mixed ≡ 3000 ∷ 400 ∷ []
  pub own-surplus : cessions surplus mixed ≡ 2250 ∷ 1125 ∷ 525 ∷ []

pub corners : Corners
unfolding ceded_by_quota ceded_by_surplus ceded_of cut_to_limit ceded_of_loss ceded_in rounded
corners = record {
  capacity-none = λ e. refl;
  quota-halves = refl;
  capacity-passed = refl;
  capacity-rounded = refl;
  capacity-halves = refl;
  cede-all = refl;
  cede-none = refl;
  limit-none = refl;
  limit-none-later = refl;
  limit_reached = refl;
  limit-passed = refl;
  limit_nearly = refl;
  surplus-limited = refl;
  one_cession = refl;
  limit_overrun = refl;
  retained = refl;
  upper-end = refl;
  between = refl;
  surplus-rounded = refl;
  between-halves = refl;
  above-halves = refl;
  retention-zero = refl;
  lines-zero = refl;
  others = refl;
  above_maximum = refl;
  largest = refl;
  limit-largest = refl;
  in_turn = refl;
  own_limits = refl;
  own-left = refl;
  own-quota = refl;
  own-surplus = refl;
}
