-- Document 02, Q-4: the built-in table by its day rule, which is computed once over the table and carried to each day.
-- Assumes nothing.
use mathlib.Core.Bool.{true}
use mathlib.Core.Path.{◌≡◌, refl, ap, ◌∙◌}
use mathlib.Core.List.{map}
use Prim.Native.Nat.{ℕ, zero, suc, ◌+◌, ◌-◌, ◌≤◌, ◌<◌}
use native.Mathlib.Omega.{arith}
use lib.ListN.{length, get_or}
use Rattle.scale.specs.Scale.{day_share, days_from, time_shares, share_on, scale_passes, Fair}
use Rattle.scale.proofs.Passing.{passes-falls, passes-fair}

-- 366 entries
pub shares-length : length time_shares ≡ 366
unfolding time_shares day_share
shares-length = refl

days-at : (f : ℕ → ℕ) (d n k : ℕ) → k < n → get_or (map f (days_from d n)) k 0 ≡ f (d + k)
days-at f d zero k h = absurd (omega arith)
days-at f d (suc n) zero h = ap f (omega arith)
days-at f d (suc n) (suc k) h = days-at f (suc d) n k (omega arith) ∙ ap f (omega arith)

-- each is the share of its day
pub share-at : (d : ℕ) → 1 ≤ d → d ≤ 366 → share_on time_shares d ≡ day_share d
unfolding time_shares
share-at d l h = days-at day_share 1 366 (d - 1) (omega arith) ∙ ap day_share (omega arith)

-- it is a scale that some text reads to
pub built_in_passes : scale_passes time_shares ≡ true
unfolding time_shares day_share scale_passes
built_in_passes = refl

-- it never rises
pub never_rises : (c d : ℕ) → c ≤ d → share_on time_shares d ≤ share_on time_shares c
never_rises = passes-falls time_shares built_in_passes

-- and never passes 10,000
pub shares-fair : Fair time_shares
shares-fair = passes-fair time_shares built_in_passes
