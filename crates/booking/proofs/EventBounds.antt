-- What an event comes to is at most 64 × 10^13 cents: it has at most 64 losses, each of at most 10^13, and at most 16
-- layers, each charging at most 4 × 10^13 a year.
-- Assumes nothing.
use mathlib.Core.Path.{◌≡◌}
use mathlib.Core.List.{List, [], ◌∷◌}
use Prim.Native.Nat.{ℕ, ◌+◌, ◌*◌, ◌^◌, ◌≤◌}
use native.Mathlib.Omega.{arith}
use lib.ListN.{length}
use Rattle.lists.specs.Sums.{total}
use Rattle.lists.specs.Each.{Each}
use Rattle.lists.proofs.Bounds.{sum-le}
use Rattle.treaty.specs.declared.Treaty.{Treaty}
use Rattle.treaty.specs.declared.Loss.{Loss}
use Rattle.treaty.specs.Ranges.{LossInRange}
use Rattle.treaty.specs.Losses.{gross_of, ceded_of_each}
use Rattle.treaty.proofs.Losses.{all_ceded_and_left}
use Rattle.layer.specs.declared.record.Layer.{Layer}
use Rattle.layer.specs.Tier.{recoveries_through, dues_through, left_through, recoveries_by}
use Rattle.layer.specs.Ranges.{Sound, Rising}
use Rattle.layer.proofs.Tiers.{recovered_and_left_through, dues-through-le, recoveries-le-subject}
use Rattle.scale.specs.Scale.{share_on, Fair}
use Rattle.scale.proofs.Passing.{fair-on}
use Rattle.events.specs.Event.{Event}
use Rattle.year.specs.Event.{Year, left_by_treaties, subject_of, event_amounts}
use Rattle.year.specs.Statement.{amounts_numbers}

-- the layers of one tier that may stand in a year
pub record RisingLayers (ls : List Layer) : Type 0 where
  pub few : length ls ≤ 8
  pub each : Each Sound ls
  pub rising : Rising 0 ls

-- what premium is due
dues-small : (share : ℕ) → share ≤ 10000 → (ys : List ℕ) (ls : List Layer) → RisingLayers ls
    → dues_through share ys ls ≤ 32 * 10 ^ 13
dues-small share h ys ls s = omega (arith, dues-through-le share h ys ls s.each, s.few)

-- what the losses of an event come to
gross-small : (xs : List Loss) → Each LossInRange xs → length xs ≤ 64 → gross_of xs ≤ 64 * 10 ^ 13
gross-small xs r few =
    let each = sum-le LossInRange (λ (x : Loss). x.amount) (10 ^ 13) (λ x h. h.amount) xs r in
    omega (arith, each)

-- a year, its treaties and an event that may be booked
pub record Bookable (ts : List Treaty) (y : Year) (e : Event) : Type 0 where
  pub cedes : Each (λ (t : Treaty). t.cede ≤ 10000) ts
  pub risk : RisingLayers y.risk
  pub cat : RisingLayers y.cat
  pub losses : Each LossInRange e.losses
  pub few : length e.losses ≤ 64

module _ (ts : List Treaty) (y : Year) (e : Event) (b : Bookable ts y e) where
  ceded_and_left : gross_of e.losses
      ≡ total (ceded_of_each ts [] e.losses) + total (left_by_treaties ts e)
  ceded_and_left = all_ceded_and_left ts b.cedes [] e.losses

  risk_and_left : recoveries_through (left_by_treaties ts e) y.risk + left_through (left_by_treaties ts e) y.risk
      ≡ total (left_by_treaties ts e)
  risk_and_left = recovered_and_left_through (left_by_treaties ts e) y.risk b.risk.each b.risk.rising

  cat-le : recoveries_by (subject_of ts y e) y.cat ≤ subject_of ts y e
  cat-le = recoveries-le-subject (subject_of ts y e) y.cat b.cat.each b.cat.rising

  -- what the risk layers leave is the gross without what is ceded and what they recover
  pub subject-is : gross_of e.losses
      ≡ total (ceded_of_each ts [] e.losses) + (recoveries_through (left_by_treaties ts e) y.risk + subject_of ts y e)
  unfolding subject_of
  subject-is = omega (arith, ceded_and_left, risk_and_left)

  module _ (shares : List ℕ) (fair : Fair shares) where
    dues-le : (event_amounts shares ts y e).premium ≤ 64 * 10 ^ 13
    dues-le =
        let h = fair-on shares fair e.day in
        let share = share_on shares e.day in
        omega (
          arith,
          dues-small share h (left_by_treaties ts e) y.risk b.risk,
          dues-small share h (subject_of ts y e ∷ []) y.cat b.cat,
        )

    -- each of its amounts
    pub amounts-le : Each (λ (n : ℕ). n ≤ 64 * 10 ^ 13) (amounts_numbers (event_amounts shares ts y e))
    amounts-le =
        let within = gross-small e.losses b.losses b.few in
        let parts = subject-is in
        let net = cat-le in
        (within, (omega arith, (omega arith, (omega arith, (omega arith, (dues-le, tt))))))
