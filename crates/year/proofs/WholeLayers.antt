-- Document 02, Q-12: layers on a day whose share is 10,000, the whole. What is due for a loss is its amount premium,
-- so a tier comes to what the same tier without (time) comes to.
-- Assumes nothing.
use mathlib.Core.Path.{◌≡◌, refl, sym, ap, ◌∙◌}
use mathlib.Core.Bool.{Bool, true, false, cond}
use mathlib.Core.List.{List, [], ◌∷◌, map, map-map}
use Prim.Native.Nat.{ℕ, ◌+◌, ◌-◌, ◌*◌}
use native.Mathlib.Omega.{arith}
use lib.ListN.{take}
use Rattle.lists.specs.Each.{Each}
use Rattle.lists.proofs.Sums.{sum-map, sum_same, map_square}
use Rattle.arith.specs.Round.{rounded}
use Rattle.arith.proofs.Shares.{share-whole}
use Rattle.layer.specs.declared.terms.Terms.{Terms}
use Rattle.layer.specs.declared.record.Layer.{Layer}
use Rattle.layer.specs.Layer.{placed_of, recovered_of, slice_after, rated_from, rated_of, premium_of, layer_of, layer_after}
use Rattle.layer.specs.Layer.{charged_since, charge_of, is_timed, due_for, due_of, timed_part, layer_on, year_premium}
use Rattle.layer.specs.Layer.{brought_by, after_subject, subject_on, due_by, used_of}
use Rattle.layer.specs.Tier.{layers_after, layers_on, layers_through, dues_by, dues_through}
use Rattle.layer.specs.Ranges.{Sound}
use Rattle.layer.proofs.Premiums.{charge_exact}
use Rattle.layer.proofs.Dues.{due-plain}
use Rattle.layer.proofs.Records.{sound-on}
use Rattle.layer.proofs.PremiumApart.{unpriced}
use Rattle.year.specs.Statement.{layer_line_of}
use Rattle.year.proofs.YearPremiums.{year_premium_grows}

-- terms without (time), and nothing else changed
abbrev pub untimed : Terms → Terms
untimed t = record {
  attachment = t.attachment;
  limit = t.limit;
  deductible = t.deductible;
  reinstatements = t.reinstatements;
  premium = t.premium;
  placed = t.placed;
  rates = t.rates;
  time = 0;
}

-- a layer without (time), spent as much, and so without a timed premium
abbrev pub plainly : Layer → Layer
plainly y = layer_of (untimed y.terms) y.spent.0 0

-- what is recovered and the amount premium do not look at (time)
recovered-untimed : (t : Terms) (m : ℕ) → recovered_of (untimed t) m ≡ recovered_of t m
unfolding recovered_of placed_of
recovered-untimed t m = refl

slice-untimed : (t : Terms) (u i : ℕ) → slice_after (untimed t) u i ≡ slice_after t u i
unfolding placed_of
slice-untimed t u i = refl

rated-untimed : (t : Terms) (u i : ℕ) (qs : List ℕ) → rated_from (untimed t) u i qs ≡ rated_from t u i qs
rated-untimed t u i [] = refl
rated-untimed t u i (q ∷ qs) = λ k. slice-untimed t u i k * q + rated-untimed t u (i + 1) qs k

premium-untimed : (t : Terms) (m : ℕ) → premium_of (untimed t) m ≡ premium_of t m
unfolding premium_of rated_of
premium-untimed t m =
    ap (λ (n : ℕ). rounded (n * t.premium) (10000 * t.limit))
    (rated-untimed t (used_of t m) 0 (take t.reinstatements t.rates))

-- a layer's year premium is its amount premium: nothing was taken off for time
abbrev pub FullyCharged : Layer → Type 0
FullyCharged y = year_premium y ≡ premium_of y.terms y.spent.0

-- such a layer may stand in a year
pub record Whole (y : Layer) : Type 0 where
  pub sound : Sound y
  pub charged : FullyCharged y

-- its line is that of the layer without (time)
line-plainly : (y : Layer) → FullyCharged y → layer_line_of (plainly y) ≡ layer_line_of y
unfolding year_premium
line-plainly y f =
    let premium = premium-untimed y.terms y.spent.0 ∙ sym f in
    λ i. record {
      deductible = (layer_line_of y).deductible;
      cover = (layer_line_of y).cover;
      recovered = recovered-untimed y.terms y.spent.0 i;
      premium = premium i;
    }

pub lines-plainly : (ls : List Layer) → Each Whole ls → map layer_line_of (map plainly ls) ≡ map layer_line_of ls
lines-plainly [] w = refl
lines-plainly (y ∷ ls) w = λ i. line-plainly y w.0.charged i ∷ lines-plainly ls w.1 i

-- layers without (time) differ in nothing but what premiums look at
pub plainly-apart : (ls : List Layer) → map unpriced (map plainly ls) ≡ map unpriced ls
plainly-apart ls = map-map unpriced plainly ls

-- after an amount and after amounts they are the layers without (time) again, on days of any shares
after-plainly : (x : ℕ) (ls : List Layer) → layers_after x (map plainly ls) ≡ map plainly (layers_after x ls)
after-plainly x ls = map_square (after_subject x) plainly plainly (after_subject x) (λ y. refl) ls

one_on : (share other x : ℕ) (y : Layer) → subject_on other x (plainly y) ≡ plainly (subject_on share x y)
unfolding timed_part
one_on share other x y = refl

pub on-plainly : (share other x : ℕ) (ls : List Layer)
    → layers_on other x (map plainly ls) ≡ map plainly (layers_on share x ls)
on-plainly share other x ls =
    map_square (subject_on other x) plainly plainly (subject_on share x) (one_on share other x) ls

pub through-plainly : (share other : ℕ) (xs : List ℕ) (ls : List Layer)
    → layers_through other xs (map plainly ls) ≡ map plainly (layers_through share xs ls)
through-plainly share other [] ls = refl
through-plainly share other (x ∷ xs) ls =
    ap (layers_through other xs) (on-plainly share other x ls) ∙ through-plainly share other xs (layers_on share x ls)

-- a day whose share is the whole
module _ (share : ℕ) (all : share ≡ 10000) where
  -- the amount premium is due
  due-whole : (t : Terms) (n : ℕ) → due_for t share n ≡ n
  unfolding due_for
  due-whole t n = ap (λ (s : ℕ). cond (is_timed t) (rounded (n * s) 10000) n) all ∙ by (is_timed t)
    where
      by : (b : Bool) → cond b (rounded (n * 10000) 10000) n ≡ n
      by true = share-whole n (omega arith)
      by false = refl

  -- so a layer's year premium stays the amount premium
  whole-on : (loss : ℕ) (y : Layer) → Whole y → Whole (layer_on share loss y)
  unfolding due_of charge_of
  whole-on loss y w = record {
    sound = sound-on share (omega (arith, all)) loss y w.sound;
    charged =
        omega (
          arith,
          year_premium_grows share loss y w.sound,
          due-whole y.terms (charged_since y (layer_after loss y)),
          charge_exact loss y w.sound,
          w.charged,
        );
  }

  pub tier-whole-on : (x : ℕ) (ls : List Layer) → Each Whole ls → Each Whole (layers_on share x ls)
  tier-whole-on x [] w = tt
  tier-whole-on x (y ∷ ls) w = (whole-on (brought_by y.terms x) y w.0, tier-whole-on x ls w.1)

  pub tier-whole-through : (xs : List ℕ) (ls : List Layer) → Each Whole ls → Each Whole (layers_through share xs ls)
  tier-whole-through [] ls w = w
  tier-whole-through (x ∷ xs) ls w = tier-whole-through xs (layers_on share x ls) (tier-whole-on x ls w)

  -- and as much is due without (time), on a day of any share
  module _ (other : ℕ) where
    due-plainly : (x : ℕ) (y : Layer) → due_by other x (plainly y) ≡ due_by share x y
    unfolding due_of
    due-plainly x y =
        let t = y.terms in
        let after = after_subject x y in
        due-plain (untimed t) refl other (charged_since (plainly y) (plainly after))
        ∙ (λ i. premium-untimed t after.spent.0 i - premium-untimed t y.spent.0 i)
        ∙ sym (due-whole t (charged_since y after))

    pub dues-plainly : (x : ℕ) (ls : List Layer) → dues_by other x (map plainly ls) ≡ dues_by share x ls
    dues-plainly x ls = sum-map (due_by other x) plainly ls ∙ sum_same (due-plainly x) ls

    pub dues-through-plainly : (xs : List ℕ) (ls : List Layer)
        → dues_through other xs (map plainly ls) ≡ dues_through share xs ls
    dues-through-plainly [] ls = refl
    dues-through-plainly (x ∷ xs) ls =
        let rest = ap (dues_through other xs) (after-plainly x ls) ∙ dues-through-plainly xs (layers_after x ls) in
        λ i. dues-plainly x ls i + rest i
