-- Document 01, Layers, with document 02's Q-2 and Q-4: a layer's figures from its terms t and its spent amount m, and
-- its record through losses.
-- Assumes nothing.
use Rattle.std.specs.Prelude.{Bool, cond, List, [], ◌∷◌, ◌++◌, ℕ, ◌+◌, ◌-◌, ◌*◌, min, max, eqb, take, replicate}
use Rattle.arith.specs.Round.{rounded}
use Rattle.layer.specs.declared.terms.Terms.{Terms}
use Rattle.layer.specs.declared.record.Layer.{Layer}
use Rattle.layer.specs.declared.record.Sums.{Sums}
use Rattle.layer.specs.declared.record.Borne.{Borne}

-- "The layer record takes up to 20 rates"; "An unused rate is 0": rates in the first of twenty places
abbrev pub rate_places : List ℕ → List ℕ
rate_places qs = take 20 (qs ++ replicate 20 0)

-- terms in the order of a table's line: (band A L) (deduct D) (back K P Q1 .. QK) (placed S), and w, which is 1 with
-- (time) as the last item and 0 without it
abbrev pub terms_of : (a l d k p : ℕ) → List ℕ → (s w : ℕ) → Terms
terms_of a l d k p qs s w = record {
  attachment = a;
  limit = l;
  deductible = d;
  reinstatements = k;
  premium = p;
  placed = s;
  rates = rate_places qs;
  time = w;
}

-- the loss that a subject amount x brings: x − a, not below 0 and not above l
abbrev pub brought_by : Terms → ℕ → ℕ
brought_by t x = min t.limit (x - t.attachment)

-- the cap: d + l × (k + 1)
abbrev pub cap_of : Terms → ℕ
cap_of t = t.deductible + t.limit * (t.reinstatements + 1)

-- the spent amount: a sum of losses, cut off at the cap
abbrev pub cut_at_cap : Terms → ℕ → ℕ
cut_at_cap t n = min (cap_of t) n

-- deductible left: d − m, not below 0
abbrev pub deductible_left_of : Terms → ℕ → ℕ
deductible_left_of t m = t.deductible - m

-- cover left: cap − the larger of m and d
abbrev pub cover_left_of : Terms → ℕ → ℕ
cover_left_of t m = cap_of t - max m t.deductible

-- used: m − d, not below 0
abbrev pub used_of : Terms → ℕ → ℕ
used_of t m = m - t.deductible

-- an amount at 100% of the layer, at its placed share: × s / 10,000
unfoldable pub placed_of : Terms → ℕ → ℕ
placed_of t a = rounded (a * t.placed) 10000

-- recovered: used × s / 10,000
unfoldable pub recovered_of : Terms → ℕ → ℕ
recovered_of t m = placed_of t (used_of t m)

-- "Slice i is what the layer has recovered with used cut at i limits less the same at i − 1 limits": what it has
-- recovered so, and the slice after i others
abbrev pub recovered_to : Terms → (used i : ℕ) → ℕ
recovered_to t u i = placed_of t (min u (i * t.limit))

abbrev pub slice_after : Terms → (used i : ℕ) → ℕ
slice_after t u i = recovered_to t u (i + 1) - recovered_to t u i

-- "the sum of slice × rate": of the slices after i others, each at its own rate
abbrev pub rated_from : Terms → (used i : ℕ) → List ℕ → ℕ
rated_from t u i [] = 0
rated_from t u i (q ∷ qs) = slice_after t u i * q + rated_from t u (i + 1) qs

-- "over slices 1 to K"
unfoldable pub rated_of : Terms → (used : ℕ) → ℕ
rated_of t u = rated_from t u 0 (take t.reinstatements t.rates)

-- "Year premium is the sum .. times P, over 10,000 × limit", rounded once
unfoldable pub premium_of : Terms → ℕ → ℕ
premium_of t m = rounded (rated_of t (used_of t m) * t.premium) (10000 * t.limit)

-- the record of terms t, spent amount m and timed premium n
abbrev pub layer_of : Terms → (m n : ℕ) → Layer
layer_of t m n = record { terms = t; spent = record { 0 = m }; timed = record { 0 = n } }

-- the record after a loss; what premium is due for it joins the record apart (`with_due`)
abbrev pub layer_after : ℕ → Layer → Layer
layer_after loss y = layer_of y.terms (cut_at_cap y.terms (y.spent.0 + loss)) y.timed.0

-- the year's figures of a record less those of a record before it
abbrev pub recovered_since : Layer → Layer → ℕ
recovered_since before y = recovered_of y.terms y.spent.0 - recovered_of before.terms before.spent.0

abbrev pub charged_since : Layer → Layer → ℕ
charged_since before y = premium_of y.terms y.spent.0 - premium_of before.terms before.spent.0

-- one loss's recovery and its amount premium, "the one due without `(time)`": the year's figure after it less the
-- figure before it
unfoldable pub recovery_of : ℕ → Layer → ℕ
recovery_of loss y = recovered_since y (layer_after loss y)

unfoldable pub charge_of : ℕ → Layer → ℕ
charge_of loss y = charged_since y (layer_after loss y)

-- "A layer's form may have `(time)`"
abbrev pub is_timed : Terms → Bool
is_timed t = eqb t.time 1

-- "Its premium for one loss is its amount premium .. × the day's time share / 10,000", to the nearest cent by Q-8
-- ("timed premium too"): of the amount premium n, and n itself without (time)
unfoldable pub due_for : Terms → (share n : ℕ) → ℕ
due_for t share n = cond (is_timed t) (rounded (n * share) 10000) n

-- for one loss, from the records before and after it, and from the loss
abbrev pub due_since : (share : ℕ) → Layer → Layer → ℕ
due_since share before y = due_for y.terms share (charged_since before y)

unfoldable pub due_of : (share loss : ℕ) → Layer → ℕ
due_of share loss y = due_since share y (layer_after loss y)

-- "The year's timed premium": what joins it of a premium n, which is nothing without (time); and the record with the
-- premium n due for a loss
unfoldable pub timed_part : Terms → ℕ → ℕ
timed_part t n = cond (is_timed t) n 0

abbrev pub with_due : ℕ → Layer → Layer
with_due n y = layer_of y.terms y.spent.0 (y.timed.0 + timed_part y.terms n)

-- the record after a loss on a day of some time share, with the premium due for the loss
abbrev pub layer_on : (share loss : ℕ) → Layer → Layer
layer_on share loss y = with_due (due_of share loss y) (layer_after loss y)

-- the most that a timed premium may be: the year's amount premium at the spent amount, and 0 without (time)
unfoldable pub timed_most : Terms → ℕ → ℕ
timed_most t m = timed_part t (premium_of t m)

-- "The year's timed premium is the one its layer line shows"; without (time) the line shows the amount premium
unfoldable pub year_premium : Layer → ℕ
year_premium y = cond (is_timed y.terms) y.timed.0 (premium_of y.terms y.spent.0)

-- recoveries and premiums of a day of some time share, added
abbrev pub sums_of : (share recovered premium : ℕ) → Sums
sums_of share recovered premium =
    record { share = share; recovered = record { 0 = recovered }; premium = record { 0 = premium } }

-- a record with the premium n due since a record before it, and the sums with the recovery since then and that premium
abbrev pub borne_with : Layer → (n : ℕ) → Sums → Layer → Borne
borne_with before n s y = record {
  layer = with_due n y;
  sums = sums_of s.share (s.recovered.0 + recovered_since before y) (s.premium.0 + n);
}

-- the same where it is due for one loss
abbrev pub borne_since : Layer → Sums → Layer → Borne
borne_since before s y = borne_with before (due_since s.share before y) s y

-- the record after a loss, and the sums with its recovery and the premium due
abbrev pub borne_of : ℕ → Sums → Layer → Borne
borne_of loss s y = borne_since y s (layer_after loss y)

-- an amount of each of several losses, in turn
abbrev pub in_turn : (ℕ → Layer → ℕ) → Layer → List ℕ → List ℕ
in_turn f y [] = []
in_turn f y (loss ∷ losses) = f loss y ∷ in_turn f (layer_after loss y) losses

-- their recoveries, their amount premiums and the premiums due on a day of some time share
abbrev pub recoveries_of : Layer → List ℕ → List ℕ
recoveries_of y losses = in_turn recovery_of y losses

abbrev pub charges_of : Layer → List ℕ → List ℕ
charges_of y losses = in_turn charge_of y losses

abbrev pub dues_of : (share : ℕ) → Layer → List ℕ → List ℕ
dues_of share y losses = in_turn (due_of share) y losses

-- the record after the loss that a subject amount x brings, its recovery, the premium due, and all three with the sums
abbrev pub after_subject : ℕ → Layer → Layer
after_subject x y = layer_after (brought_by y.terms x) y

abbrev pub subject_on : (share x : ℕ) → Layer → Layer
subject_on share x y = layer_on share (brought_by y.terms x) y

abbrev pub recovery_by : ℕ → Layer → ℕ
recovery_by x y = recovery_of (brought_by y.terms x) y

abbrev pub due_by : (share x : ℕ) → Layer → ℕ
due_by share x y = due_of share (brought_by y.terms x) y

abbrev pub borne_by : ℕ → Sums → Layer → Borne
borne_by x s y = borne_of (brought_by y.terms x) s y

-- the record and the sums after the losses that amounts bring, each amount in turn the subject
abbrev pub borne_through : List ℕ → Sums → Layer → Borne
borne_through [] s y = record { layer = y; sums = s }
borne_through (x ∷ xs) s y = borne_through xs (borne_by x s y).sums (borne_by x s y).layer
