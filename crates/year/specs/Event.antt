-- Document 01, Layers, last paragraph, with document 02's Q-4: "Each loss in turn, after its treaty, is the subject of
-- every risk layer. What these leave, summed over the event, is the subject of every catastrophe layer. .. Event net is
-- that sum less the catastrophe recoveries. Premium takes no part in net."
-- Assumes nothing.
use Rattle.std.specs.Prelude.{List, [], ◌∷◌, ℕ, ◌+◌}
use Rattle.lists.specs.Sums.{total}
use Rattle.treaty.specs.declared.Treaty.{Treaty}
use Rattle.treaty.specs.Losses.{gross_of, ceded_of_each, left_of_each}
use Rattle.layer.specs.declared.record.Layer.{Layer}
use Rattle.layer.specs.Tier.{recoveries_by, dues_by, left_by, layers_on}
use Rattle.layer.specs.Tier.{layers_through, recoveries_through, dues_through, left_through}
use Rattle.scale.specs.Scale.{share_on}
use Rattle.events.specs.Event.{Event}
use Rattle.year.specs.declared.Amounts.{Amounts}
use Rattle.year.specs.Tiers.{Tiers}

-- a year's layers, tier by tier
abbrev pub Year : Type 0
Year = Tiers (List Layer)

-- what the treaties leave of an event's losses; before the first they have taken nothing
abbrev pub left_by_treaties : List Treaty → Event → List ℕ
left_by_treaties ts e = left_of_each ts [] e.losses

-- "What these leave, summed over the event": the subject of every catastrophe layer
unfoldable pub subject_of : List Treaty → Year → Event → ℕ
subject_of ts y e = left_through (left_by_treaties ts e) y.risk

-- the year after an event, with premiums by its day's share
abbrev pub event_after : (shares : List ℕ) → List Treaty → Year → Event → Year
event_after shares ts y e = record {
  risk = layers_through (share_on shares e.day) (left_by_treaties ts e) y.risk;
  cat = layers_on (share_on shares e.day) (subject_of ts y e) y.cat;
}

-- What an event comes to. Its net is the subject of the catastrophe layers less their recoveries; premium takes no
-- part in it.
abbrev pub event_amounts : (shares : List ℕ) → List Treaty → Year → Event → Amounts
event_amounts shares ts y e = record {
  gross = gross_of e.losses;
  ceded = total (ceded_of_each ts [] e.losses);
  risk = recoveries_through (left_by_treaties ts e) y.risk;
  cat = recoveries_by (subject_of ts y e) y.cat;
  net = left_by (subject_of ts y e) y.cat;
  premium = dues_through (share_on shares e.day) (left_by_treaties ts e) y.risk
      + dues_by (share_on shares e.day) (subject_of ts y e) y.cat;
}

-- the year after events
abbrev pub year_after : (shares : List ℕ) → List Treaty → Year → List Event → Year
year_after shares ts y [] = y
year_after shares ts y (e ∷ es) = year_after shares ts (event_after shares ts y e) es
