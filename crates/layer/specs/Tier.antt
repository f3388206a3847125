-- Document 01, Layers, with document 02's Q-4: the layers of one tier look at the same subject, none sees another's
-- remainder, and amounts come to them in turn, on a day of some time share. Recoveries do not look at that share.
-- Assumes nothing.
use Rattle.std.specs.Prelude.{List, [], ◌∷◌, ◌++◌, map, ℕ, ◌+◌, ◌-◌, take, drop}
use Rattle.lists.specs.Sums.{sum_of}
use Rattle.layer.specs.declared.record.Layer.{Layer}
use Rattle.layer.specs.declared.record.Sums.{Sums}
use Rattle.layer.specs.declared.tier.Tier.{Tier}
use Rattle.layer.specs.Layer.{brought_by, after_subject, subject_on, recovery_by, due_by, sums_of}

-- the losses that a subject x brings to layers, their recoveries and the premiums due, added
abbrev pub losses_by : ℕ → List Layer → ℕ
losses_by x ys = sum_of (λ (y : Layer). brought_by y.terms x) ys

abbrev pub recoveries_by : ℕ → List Layer → ℕ
recoveries_by x ys = sum_of (recovery_by x) ys

abbrev pub dues_by : (share x : ℕ) → List Layer → ℕ
dues_by share x ys = sum_of (due_by share x) ys

-- what the recoveries leave of the subject
abbrev pub left_by : ℕ → List Layer → ℕ
left_by x ys = x - recoveries_by x ys

-- each layer after the subject, without the premium due and with it
abbrev pub layers_after : ℕ → List Layer → List Layer
layers_after x ys = map (after_subject x) ys

abbrev pub layers_on : (share x : ℕ) → List Layer → List Layer
layers_on share x ys = map (subject_on share x) ys

-- Amounts in turn, each of them the subject of every layer of a tier: the layers after the last.
abbrev pub layers_through : (share : ℕ) → List ℕ → List Layer → List Layer
layers_through share [] ls = ls
layers_through share (y ∷ ys) ls = layers_through share ys (layers_on share y ls)

-- their recoveries, added
abbrev pub recoveries_through : List ℕ → List Layer → ℕ
recoveries_through [] ls = 0
recoveries_through (y ∷ ys) ls = recoveries_by y ls + recoveries_through ys (layers_after y ls)

-- the premiums due, added
abbrev pub dues_through : (share : ℕ) → List ℕ → List Layer → ℕ
dues_through share [] ls = 0
dues_through share (y ∷ ys) ls = dues_by share y ls + dues_through share ys (layers_after y ls)

-- sums with both of these added
abbrev pub sums_through : List ℕ → Sums → List Layer → Sums
sums_through ys s ls =
    sums_of s.share (s.recovered.0 + recoveries_through ys ls) (s.premium.0 + dues_through s.share ys ls)

-- what the recoveries leave of the amounts, added
abbrev pub left_through : List ℕ → List Layer → ℕ
left_through [] ls = 0
left_through (y ∷ ys) ls = left_by y ls + left_through ys (layers_after y ls)

-- a tier's layers stand in its first places
abbrev pub layers_of : Tier → List Layer
layers_of t = take t.count t.layers

-- the tier after amounts in turn: its layers are brought up to date, the places past them stay
abbrev pub tier_after : (share : ℕ) → List ℕ → Tier → Tier
tier_after share xs t = record {
  layers = layers_through share xs (layers_of t) ++ drop t.count t.layers;
  count = t.count;
}
