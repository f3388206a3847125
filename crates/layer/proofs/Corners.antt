-- Figures at the corners of a layer's definitions, and those of the layers of document 01's H1. None of these layers
-- has (time), and no share of a day touches them.
-- Assumes nothing.
use mathlib.Core.Path.{◌≡◌, refl}
use mathlib.Core.List.{List, [], ◌∷◌, map}
use Prim.Native.Nat.{ℕ}
use lib.ListN.{replicate}
use Rattle.arith.specs.Round.{rounded}
use Rattle.layer.specs.declared.terms.Terms.{Terms}
use Rattle.layer.specs.declared.record.Layer.{Layer}
use Rattle.layer.specs.Layer.{terms_of, brought_by, deductible_left_of, cover_left_of, recovered_of, premium_of}
use Rattle.layer.specs.Layer.{placed_of, rated_of, layer_of, recovery_of, charge_of, recoveries_of, charges_of}
use Rattle.layer.specs.Layer.{due_for, due_of, timed_part, after_subject, borne_through}
use Rattle.layer.specs.Tier.{recoveries_by, layers_after, recoveries_through, dues_through, left_through}

-- what a statement shows of a layer: deductible left, cover left, recovered, premium
abbrev shown : Layer → List ℕ
shown y =
    deductible_left_of y.terms y.spent.0 ∷ cover_left_of y.terms y.spent.0
    ∷ recovered_of y.terms y.spent.0 ∷ premium_of y.terms y.spent.0 ∷ []

abbrev spent_of : Layer → ℕ
spent_of y = y.spent.0

-- a layer with one reinstatement
abbrev one : Terms
one = terms_of 800 1300 250 1 1500 (8000 ∷ []) 7201 0

-- two layers of one tier
abbrev pair : List Layer
pair = layer_of (terms_of 10 40 0 0 0 [] 3333 0) 0 0 ∷ layer_of (terms_of 50 100 0 0 0 [] 7200 0) 0 0 ∷ []

-- three layers of one tier, with premiums of 3 / 7, 8 / 9 and 7 / 8 of their slices
abbrev three : List Layer
three =
    layer_of (terms_of 500 700 200 2 750 (4000 ∷ 4000 ∷ []) 3333 0) 0 0
    ∷ layer_of (terms_of 1200 900 150 1 1000 (8000 ∷ []) 7201 0) 0 0
    ∷ layer_of (terms_of 2100 600 0 2 700 (7500 ∷ 7500 ∷ []) 9750 0) 0 0 ∷ []

-- three layers of one tier that recover 15.5, 10.9989 and 26.6437 of 250
abbrev upward : List Layer
upward =
    layer_of (terms_of 100 31 0 0 0 [] 5000 0) 0 0 ∷ layer_of (terms_of 150 33 0 0 0 [] 3333 0) 0 0
    ∷ layer_of (terms_of 200 37 0 0 0 [] 7201 0) 0 0 ∷ []

-- the largest terms of the table
abbrev largest : Terms
largest = terms_of 10000000000000 10000000000000 1000000000000000 20 1000000000000 (replicate 20 20000) 10000 0

pub record Corners : Type 0 where
  -- below, at and just above the attachment; at and above the end of the band
  pub brought : map (brought_by (terms_of 500 40 0 0 0 [] 10000 0)) (0 ∷ 500 ∷ 501 ∷ 540 ∷ 541 ∷ [])
      ≡ 0 ∷ 0 ∷ 1 ∷ 40 ∷ 40 ∷ []
  -- nothing spent; inside the deductible of 1,000; just past it; at the cap of 1,000 + 700 × 3
  pub unspent : shown (layer_of (terms_of 0 700 1000 2 90 (5000 ∷ 5000 ∷ []) 7200 0) 0 0) ≡ 1000 ∷ 2100 ∷ 0 ∷ 0 ∷ []
  pub in_deductible : shown (layer_of (terms_of 0 700 1000 2 90 (5000 ∷ 5000 ∷ []) 7200 0) 999 0) ≡ 1 ∷ 2100 ∷ 0 ∷ 0 ∷ []
  pub past-deductible : shown (layer_of (terms_of 0 700 1000 2 90 (5000 ∷ 5000 ∷ []) 7200 0) 1002 0)
      ≡ 0 ∷ 2098 ∷ 1 ∷ 0 ∷ []
  -- the two slices are 7,200 bp of 1,400, and 1,008 × 5,000 × 90 / 7,000,000 is 64.8
  pub at_cap : shown (layer_of (terms_of 0 700 1000 2 90 (5000 ∷ 5000 ∷ []) 7200 0) 3100 0) ≡ 0 ∷ 0 ∷ 1512 ∷ 65 ∷ []
  -- the last loss is cut off at the cap, and one after it recovers nothing
  pub cut_off : recoveries_of (layer_of (terms_of 0 700 1000 2 90 (5000 ∷ 5000 ∷ []) 7200 0) 3000 0) (700 ∷ 700 ∷ [])
      ≡ 72 ∷ 0 ∷ []
  -- cents at 3,333 bp come with the sums: 0.6666, 1.3332, 1.9998 and 2.6664
  pub thirds : recoveries_of (layer_of (terms_of 0 100 0 0 0 [] 3333 0) 0 0) (2 ∷ 2 ∷ 2 ∷ 2 ∷ []) ≡ 1 ∷ 0 ∷ 1 ∷ 1 ∷ []
  -- and by losses of 1: 0.3333, 0.6666, 0.9999, 1.3332 and 1.6665
  pub thirds_of_1 : recoveries_of (layer_of (terms_of 0 100 0 0 0 [] 3333 0) 0 0) (1 ∷ 1 ∷ 1 ∷ 1 ∷ 1 ∷ [])
      ≡ 0 ∷ 1 ∷ 0 ∷ 0 ∷ 1 ∷ []
  -- one below half a cent, a half and one above it: 1,667.4999, 1,666.5 and 1,665.5001
  pub placed-halves : map (recovered_of (terms_of 0 6000 0 0 0 [] 3333 0)) (5003 ∷ 5000 ∷ 4997 ∷ [])
      ≡ 1667 ∷ 1667 ∷ 1666 ∷ []
  -- no reinstatement, no premium; nothing placed, nothing recovered
  pub no_reinstatement : premium_of (terms_of 0 100 0 0 1000 (10000 ∷ []) 10000 0) 100 ≡ 0
  pub nothing_placed : shown (layer_of (terms_of 0 100 0 1 1000 (10000 ∷ []) 0 0) 150 0) ≡ 0 ∷ 50 ∷ 0 ∷ 0 ∷ []
  -- a slice is rounded first: 3,333 bp of 5 and of 4 are 2 and 1, and × 5,000 × 100 / 70,000 14.29 and 7.14
  pub premium_of_placed : map (premium_of (terms_of 0 7 0 1 100 (5000 ∷ []) 3333 0)) (5 ∷ 4 ∷ []) ≡ 14 ∷ 7 ∷ []
  -- a half goes up in a slice too: half of 3 and of 5 are 2 and 3, and 50 / 7 of these 14.29 and 21.43
  pub premium_of_half : map (premium_of (terms_of 0 7 0 1 100 (5000 ∷ []) 5000 0)) (3 ∷ 5 ∷ []) ≡ 14 ∷ 21 ∷ []
  -- and nothing is divided before the last product: 7,201 bp of 205 and of 212 are 148 and 153, of which 169 / 19 are
  -- 1316.42 and 1360.89
  pub premium_divided_last : map (premium_of (terms_of 60 190 35 2 1300 (13000 ∷ 13000 ∷ []) 7201 0)) (240 ∷ 247 ∷ [])
      ≡ 1316 ∷ 1361 ∷ []
  -- below half a cent, a half and above it: 9 / 14 of 10, 7 and 4 are 6.43, 4.5 and 2.57
  pub premium-halves : map (premium_of (terms_of 0 14 0 1 18 (5000 ∷ []) 10000 0)) (10 ∷ 7 ∷ 4 ∷ []) ≡ 6 ∷ 5 ∷ 3 ∷ []
  -- one below it, a half and one above it: 2,647 × 17, 9,000 × 5 and 4,091 × 11 of 90,000
  pub premium_beside_halves : map (λ (t : Terms). premium_of t 1)
      (terms_of 0 9 0 1 17 (2647 ∷ []) 10000 0 ∷ terms_of 0 9 0 1 5 (9000 ∷ []) 10000 0
      ∷ terms_of 0 9 0 1 11 (4091 ∷ []) 10000 0 ∷ [])
      ≡ 0 ∷ 1 ∷ 1 ∷ []
  -- Premiums of losses in turn: used is 154, 872 and 1,828, reinstated 154, 872 and 1,300. The slice is 111, 628 and
  -- 936, and 12 / 13 of it 102.46, 579.69 and 864.
  pub charged_in_turn : charges_of (layer_of one 0 0) (404 ∷ 718 ∷ 956 ∷ []) ≡ 102 ∷ 478 ∷ 284 ∷ []
  -- The same losses by the amounts that bring them, with sums of 7 and 5 before: 2,078 are spent, 7,201 bp of 1,828
  -- are 1,316.34, and the premiums add to 864.
  pub borne_in_turn : borne_through (1204 ∷ 1518 ∷ 1756 ∷ [])
      (record { share = 4986; recovered = record { 0 = 7 }; premium = record { 0 = 5 } }) (layer_of one 0 0)
      ≡ record {
        layer = record { terms = one; spent = record { 0 = 2078 }; timed = record { 0 = 0 } };
        sums = record { share = 4986; recovered = record { 0 = 1323 }; premium = record { 0 = 869 } };
      }
  -- Premiums of amounts in turn through a tier. After the first the layers have charged 72, 198 and 0; after the
  -- second 171, 576 and 469; after the third 200, 576 and 710.
  pub charged-by-tier : map (λ (xs : List ℕ). dues_through 4986 xs three)
      ((1660 ∷ []) ∷ (1660 ∷ 2650 ∷ []) ∷ (1660 ∷ 2650 ∷ 2382 ∷ []) ∷ [])
      ≡ 270 ∷ 1216 ∷ 1486 ∷ []
  -- Recoveries of the same amounts, and what they leave. After the first the layers have recovered 167, 223 and 0;
  -- after the second 400, 871 and 536; after the third 633, 1,296 and 811.
  pub recovered-by-tier : map (λ (xs : List ℕ). recoveries_through xs three)
      ((1660 ∷ []) ∷ (1660 ∷ 2650 ∷ []) ∷ (1660 ∷ 2650 ∷ 2382 ∷ []) ∷ [])
      ≡ 390 ∷ 1807 ∷ 2740 ∷ []
  pub left-by-tier : map (λ (xs : List ℕ). left_through xs three)
      ((1660 ∷ []) ∷ (1660 ∷ 2650 ∷ []) ∷ (1660 ∷ 2650 ∷ 2382 ∷ []) ∷ [])
      ≡ 1270 ∷ 2503 ∷ 3952 ∷ []
  -- three recoveries that are all rounded up, 16, 11 and 27: what is left of 250 is exact
  pub upward-recovered : recoveries_by 250 upward ≡ 54
  pub upward-left : left_through (250 ∷ []) upward ≡ 196
  -- every term at its largest, at the cap
  pub most : shown (layer_of largest 1210000000000000 0) ≡ 0 ∷ 0 ∷ 210000000000000 ∷ 40000000000000 ∷ []
  -- one subject of 120 to bands 10 40 and 50 100: both look at all of it; 3,333 bp of 40 is 13, 7,200 bp of 70 is 50
  pub one-subject : map spent_of (layers_after 120 pair) ≡ 40 ∷ 70 ∷ []
  pub one-subject-recovered : recoveries_by 120 pair ≡ 63
  -- document 01's H1: the three layers after the subject 350,000,000
  pub H1 : map (λ (t : Terms). shown (after_subject 350000000 (layer_of t 0 0)))
      (terms_of 25000000 75000000 75000000 0 0 [] 10000 0 ∷ terms_of 100000000 150000000 0 1 75000000 (5000 ∷ []) 8000 0
      ∷ terms_of 250000000 150000000 0 1 30000000 (10000 ∷ []) 7200 0 ∷ [])
      ≡ (0 ∷ 75000000 ∷ 0 ∷ 0 ∷ []) ∷ (0 ∷ 150000000 ∷ 120000000 ∷ 30000000 ∷ [])
      ∷ (0 ∷ 200000000 ∷ 72000000 ∷ 14400000 ∷ []) ∷ []

pub corners : Corners
unfolding placed_of recovered_of rated_of premium_of recovery_of charge_of due_for due_of timed_part rounded
corners = record {
  brought = refl;
  unspent = refl;
  in_deductible = refl;
  past-deductible = refl;
  at_cap = refl;
  cut_off = refl;
  thirds = refl;
  thirds_of_1 = refl;
  placed-halves = refl;
  no_reinstatement = refl;
  nothing_placed = refl;
  premium_of_placed = refl;
  premium_of_half = refl;
  premium_divided_last = refl;
  premium-halves = refl;
  premium_beside_halves = refl;
  charged_in_turn = refl;
  borne_in_turn = refl;
  charged-by-tier = refl;
  recovered-by-tier = refl;
  left-by-tier = refl;
  upward-recovered = refl;
  upward-left = refl;
  most = refl;
  one-subject = refl;
  one-subject-recovered = refl;
  H1 = refl;
}
