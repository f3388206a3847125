-- Document 01, Layers, with document 02's Q-4: a tier's layers through amounts, as far as the amounts reach, from lent
-- terms and the amounts of a standing's places.
-- Assumes nothing.
use Rattle.std.specs.Prelude.{true, ◌≡◌, List, ℕ, ◌≤◌, fold, max, leb, ltb, length}
use Rattle.std.specs.List.{prefix_len}
use Rattle.lists.specs.Chains.{chained}
use Rattle.layer.specs.declared.terms.Terms.{Terms}
use Rattle.layer.specs.declared.record.Layer.{Layer}
use Rattle.layer.specs.Layer.{cap_of}
use Rattle.programme.specs.Rules.{band_end}
use Rattle.programme.specs.Valid.{layer_passes}
use Rattle.year.specs.Standing.{tier_passes}

-- the largest of some amounts, 0 of none
abbrev pub largest_of : List ℕ → ℕ
largest_of xs = fold max 0 xs

-- how many layers, from the first on, an amount reaches: their attachment is below it
abbrev pub reached_by : ℕ → List Terms → ℕ
reached_by x ts = prefix_len (λ (t : Terms). ltb t.attachment x) ts

-- how many layers, from the first on, have spent up to their cap
abbrev pub exhausted_of : List Layer → ℕ
exhausted_of ys = prefix_len (λ (y : Layer). leb (cap_of y.terms) y.spent.0) ys

-- Terms of layers, and the spent amounts and timed premiums of a standing, that a year may have: at most eight layers in
-- rising bands, no more spent than their caps, no more timed premium than their amount premiums, and 0 in the places past
-- them.
pub record CanBear (ts : List Terms) (ms ns : List ℕ) : Type 0 where
  pub few : length ts ≤ 8
  pub terms : chained layer_passes band_end 0 ts ≡ true
  pub spent-places : length ms ≡ 8
  pub timed-places : length ns ≡ 8
  pub held : tier_passes ts ms ns ≡ true
