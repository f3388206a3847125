-- Document 01, The year: "A standing holds each layer's spent amount and the last day run. A fresh year has all of
-- these 0."; document 02, Q-4: the year's timed premium "joins the standing"; When a call is turned down: opening a
-- year, and refusal 8.
-- Assumes nothing.
use Rattle.std.specs.Prelude.{Bool, true, false, ◌&&◌, List, [], ◌∷◌, map, ℕ, eqb, leb, length, drop, get_or}
use Rattle.lists.specs.Places.{in_places}
use Rattle.lists.specs.Chains.{every}
use Rattle.layer.specs.declared.terms.Terms.{Terms}
use Rattle.layer.specs.declared.record.Layer.{Layer}
use Rattle.layer.specs.Layer.{cap_of, layer_of, timed_most}
use Rattle.programme.specs.declared.contract.Programme.{Programme}
use Rattle.programme.specs.Contract.{Contracts}
use Rattle.programme.specs.Valid.{valid}
use Rattle.year.specs.declared.Standing.{Standing}
use Rattle.year.specs.declared.Opening.{Opening}
use Rattle.year.specs.Event.{Year}

-- a fresh year's standing
abbrev pub fresh : Standing
fresh = record {
  risk = in_places 0 [];
  cat = in_places 0 [];
  day = 0;
  risk_timed = in_places 0 [];
  cat_timed = in_places 0 [];
}

-- the spent amounts of layers, and their timed premiums
abbrev pub spent_of : List Layer → List ℕ
spent_of ls = map (λ (y : Layer). y.spent.0) ls

abbrev pub timed_of : List Layer → List ℕ
timed_of ls = map (λ (y : Layer). y.timed.0) ls

-- the standing of a year after the day d: 0 for a missing layer
abbrev pub standing_of : Year → ℕ → Standing
standing_of y d = record {
  risk = in_places 0 (spent_of y.risk);
  cat = in_places 0 (spent_of y.cat);
  day = d;
  risk_timed = in_places 0 (timed_of y.risk);
  cat_timed = in_places 0 (timed_of y.cat);
}

-- the layers of some terms with the spent amounts and the timed premiums of a standing's places
abbrev pub layers_with : List Terms → (spent timed : List ℕ) → List Layer
layers_with [] ms ns = []
layers_with (t ∷ ts) ms ns = layer_of t (get_or ms 0 0) (get_or ns 0 0) ∷ layers_with ts (drop 1 ms) (drop 1 ns)

-- a year from a standing on
abbrev pub year_of : Contracts → Standing → Year
year_of c s = record {
  risk = layers_with c.risk s.risk s.risk_timed;
  cat = layers_with c.cat s.cat s.cat_timed;
}

-- a spent amount that is not above its cap
abbrev pub within_cap : Layer → Bool
within_cap y = leb y.spent.0 (cap_of y.terms)

-- a timed premium that is not "above the layer's amount premium, or not 0 on .. one without `(time)`"
abbrev pub within_premium : Layer → Bool
within_premium y = leb y.timed.0 (timed_most y.terms y.spent.0)

-- no layer's amounts are above these, and none is other than 0 for a missing layer
abbrev pub tier_passes : List Terms → (spent timed : List ℕ) → Bool
tier_passes ts ms ns =
    every (λ (y : Layer). within_cap y && within_premium y) (layers_with ts ms ns)
    && (every (λ (m : ℕ). eqb m 0) (drop (length ts) ms) && every (λ (n : ℕ). eqb n 0) (drop (length ts) ns))

-- in both tiers, and the last day is not over 366
unfoldable pub standing_passes : Contracts → Standing → Bool
standing_passes c s =
    tier_passes c.risk s.risk s.risk_timed
    && (tier_passes c.cat s.cat s.cat_timed && leb s.day 366)

-- opening a year: 6 where no table text reads to the programme; the standing is all 0 in any case
unfoldable pub open_of : Programme → Opening
open_of p =
    elim (valid p) [
      | true ↦ record { refusal = 0; number = 0; standing = fresh }
      | false ↦ record { refusal = 6; number = 0; standing = fresh }
    ]
