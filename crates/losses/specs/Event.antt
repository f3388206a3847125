-- Document 01, Events and statement: events as numbers, and what it takes to put the losses of one through their
-- treaties.
-- Assumes nothing.
use Rattle.std.specs.Prelude.{◌≡◌, List, [], ◌∷◌, ◌++◌, ℕ, ◌^◌, ◌≤◌, length}
use Rattle.lists.specs.Each.{Each}
use Rattle.treaty.specs.declared.Treaty.{Treaty}
use Rattle.treaty.specs.declared.Loss.{Loss}
use Rattle.treaty.specs.Ranges.{LossInRange}
use Rattle.events.specs.Event.{Event}
use Rattle.losses.specs.Cede.{losses_from}
use Rattle.losses.specs.Treaties.{Registered}

-- losses as numbers, three a loss: T, E, g
abbrev pub loss_numbers : List Loss → List ℕ
loss_numbers [] = []
loss_numbers (x ∷ xs) = x.treaty ∷ x.maximum ∷ x.amount ∷ loss_numbers xs

-- events as numbers: the day of each and how many losses it has, then their numbers
abbrev pub events_numbers : List Event → List ℕ
events_numbers [] = []
events_numbers (e ∷ es) = e.day ∷ length e.losses ∷ (loss_numbers e.losses ++ events_numbers es)

-- What it takes to put losses through treaties: a table's treaties by their numbers, losses in range, at most 64 of
-- them, and a place for each number whose amount leaves room for what is ceded.
pub record CanCedeEach (register : List Treaty) (ns cs : List ℕ) : Type 0 where
  pub registered : Registered register
  pub losses : Each LossInRange (losses_from ns)
  pub few : length (losses_from ns) ≤ 64
  pub places : length cs ≡ 9
  pub amounts : Each (λ (n : ℕ). n ≤ 2 ^ 62) cs
