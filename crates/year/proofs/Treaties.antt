-- What the treaties of a programme that passes keep to, and what they cede of events.
-- Assumes nothing.
use mathlib.Core.Path.{◌≡◌, ◌∙◌}
use mathlib.Core.Bool.{true}
use mathlib.Core.List.{List, [], ◌∷◌}
use Prim.Native.Nat.{ℕ, ◌*◌, ◌≤◌, ◌<◌}
use lib.ListN.{length}
use Rattle.lists.specs.Sums.{sum_of, total}
use Rattle.lists.specs.Each.{Each}
use Rattle.lists.specs.Chains.{chained}
use Rattle.lists.proofs.Sums.{sum_same, sum_swap}
use Rattle.lists.proofs.Chains.{both}
use Rattle.lists.proofs.Each.{each-chained, each_of}
use Rattle.lists.proofs.Bounds.{sum-le}
use Rattle.treaty.specs.declared.Treaty.{Treaty}
use Rattle.treaty.specs.Treaty.{taken_by}
use Rattle.treaty.specs.Losses.{ceded_of_each}
use Rattle.treaty.proofs.Losses.{Numbered, event-ceded}
use Rattle.treaty.proofs.EventLimit.{event-limit}
use Rattle.programme.specs.Rules.{treaty_number}
use Rattle.programme.specs.Valid.{treaty_passes}
use Rattle.programme.proofs.Bounds.{treaty_in_range}
use Rattle.programme.proofs.Lawful.{treaty-passed}
use Rattle.events.specs.Event.{Event}
use Rattle.year.specs.Statement.{ceded_by}
use Rattle.year.specs.History.{ceded_by_all}

module _ (n : ℕ) (ts : List Treaty) (e : chained treaty_passes treaty_number n ts ≡ true) where
  -- a cede of at most 10,000 basis points
  pub passed-cedes : Each (λ (t : Treaty). t.cede ≤ 10000) ts
  passed-cedes =
      each-chained _ treaty_passes treaty_number
      (λ m t e. (treaty_in_range t (treaty-passed m t e).0).terms.cede) n ts e

  -- a number of at most 8
  pub passed-numbers : Each (λ (t : Treaty). t.number ≤ 8) ts
  passed-numbers =
      each-chained _ treaty_passes treaty_number
      (λ m t e. (treaty_in_range t (treaty-passed m t e).0).number-high) n ts e

-- numbers that rise
pub passed-rising : (n : ℕ) (ts : List Treaty) → chained treaty_passes treaty_number n ts ≡ true → Numbered n ts
passed-rising n [] e = tt
passed-rising n (t ∷ ts) e =
    let f = both (treaty_passes n t) (chained treaty_passes treaty_number t.number ts) e in
    ((treaty-passed n t f.0).1, passed-rising t.number ts f.1)

-- the treaties' lines add up to what is ceded event by event
pub events-ceded : (n : ℕ) (ts : List Treaty) → chained treaty_passes treaty_number n ts ≡ true → (es : List Event)
    → sum_of (λ (f : Event). total (ceded_of_each ts [] f.losses)) es ≡ ceded_by_all ts es
events-ceded n ts e es =
    sum_same (λ f. event-ceded n ts (passed-rising n ts e) f.losses) es
    ∙ sum_swap (λ (f : Event) (t : Treaty). taken_by t f.losses) es ts

-- a treaty's line shows at most its limit for each event
pub events-limit : (t : Treaty) → 0 < t.limit → (es : List Event) → ceded_by es t ≤ length es * t.limit
events-limit t h es =
    sum-le (λ (f : Event). 0 < t.limit) (λ (f : Event). taken_by t f.losses) t.limit
    (λ f k. event-limit t k f.losses) es (each_of (λ (f : Event). 0 < t.limit) (λ f. h) es)
