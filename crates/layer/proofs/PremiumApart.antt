-- Document 02, Q-2: "With equal rates every statement amount is the former one", and Q-4: of what amounts come to in a
-- tier only the premiums look at rates, at (time), at a day's share and at timed premiums. What premiums are with equal
-- rates is in EqualRates.
-- Assumes nothing.
use mathlib.Core.Path.{◌≡◌, refl, sym, ap, ◌∙◌}
use mathlib.Core.List.{List, [], ◌∷◌, map}
use Prim.Native.Nat.{ℕ, ◌+◌, ◌-◌}
use Rattle.layer.specs.declared.terms.Terms.{Terms}
use Rattle.layer.specs.declared.record.Layer.{Layer}
use Rattle.layer.specs.Layer.{layer_of, brought_by, cap_of, deductible_left_of, cover_left_of, placed_of, recovered_of}
use Rattle.layer.specs.Layer.{recovery_of, recovery_by, after_subject}
use Rattle.layer.specs.Tier.{recoveries_by, layers_after, layers_on, layers_through}
use Rattle.layer.specs.Tier.{recoveries_through, left_through}

-- terms without what premiums alone look at
abbrev pub unpriced_terms : Terms → Terms
unpriced_terms t = record {
  attachment = t.attachment;
  limit = t.limit;
  deductible = t.deductible;
  reinstatements = t.reinstatements;
  premium = 0;
  placed = t.placed;
  rates = [];
  time = 0;
}

-- a record without it, and without its timed premium
abbrev pub unpriced : Layer → Layer
unpriced y = layer_of (unpriced_terms y.terms) y.spent.0 0

-- the figures of one layer
module _ (t : Terms) (m : ℕ) where
  pub brought-apart : brought_by (unpriced_terms t) m ≡ brought_by t m
  brought-apart = refl

  pub cap_apart : cap_of (unpriced_terms t) ≡ cap_of t
  cap_apart = refl

  pub deductible-apart : deductible_left_of (unpriced_terms t) m ≡ deductible_left_of t m
  deductible-apart = refl

  pub cover-apart : cover_left_of (unpriced_terms t) m ≡ cover_left_of t m
  cover-apart = refl

  pub recovered-apart : recovered_of (unpriced_terms t) m ≡ recovered_of t m
  unfolding recovered_of placed_of
  recovered-apart = refl

one_recovery : (x : ℕ) (y : Layer) → recovery_by x (unpriced y) ≡ recovery_by x y
unfolding recovery_of recovered_of placed_of
one_recovery x y = refl

-- one amount: the layers after it, whatever premium is due, and their recoveries
after-apart : (x : ℕ) (ls : List Layer) → layers_after x (map unpriced ls) ≡ map unpriced (layers_after x ls)
after-apart x [] = refl
after-apart x (y ∷ ys) = ap (λ (l : List Layer). unpriced (after_subject x y) ∷ l) (after-apart x ys)

on-apart : (share x : ℕ) (ls : List Layer) → map unpriced (layers_on share x ls) ≡ map unpriced (layers_after x ls)
on-apart share x [] = refl
on-apart share x (y ∷ ys) = ap (λ (l : List Layer). unpriced (after_subject x y) ∷ l) (on-apart share x ys)

recoveries-unpriced : (x : ℕ) (ls : List Layer) → recoveries_by x (map unpriced ls) ≡ recoveries_by x ls
recoveries-unpriced x [] = refl
recoveries-unpriced x (y ∷ ys) = λ i. one_recovery x y i + recoveries-unpriced x ys i

-- amounts through a tier
through-unpriced : (xs : List ℕ) (ls : List Layer) → recoveries_through xs (map unpriced ls) ≡ recoveries_through xs ls
through-unpriced [] ls = refl
through-unpriced (x ∷ xs) ls =
    let rest = ap (recoveries_through xs) (after-apart x ls) ∙ through-unpriced xs (layers_after x ls) in
    λ i. recoveries-unpriced x ls i + rest i

left-unpriced : (xs : List ℕ) (ls : List Layer) → left_through xs (map unpriced ls) ≡ left_through xs ls
left-unpriced [] ls = refl
left-unpriced (x ∷ xs) ls =
    let rest = ap (left_through xs) (after-apart x ls) ∙ left-unpriced xs (layers_after x ls) in
    λ i. x - recoveries-unpriced x ls i + rest i

-- layers that differ in nothing else
module _ (ls ms : List Layer) (same : map unpriced ls ≡ map unpriced ms) where
  pub recoveries-by-apart : (x : ℕ) → recoveries_by x ls ≡ recoveries_by x ms
  recoveries-by-apart x =
      sym (recoveries-unpriced x ls) ∙ ap (recoveries_by x) same ∙ recoveries-unpriced x ms

  pub recoveries-apart : (xs : List ℕ) → recoveries_through xs ls ≡ recoveries_through xs ms
  recoveries-apart xs = sym (through-unpriced xs ls) ∙ ap (recoveries_through xs) same ∙ through-unpriced xs ms

  pub left-apart : (xs : List ℕ) → left_through xs ls ≡ left_through xs ms
  left-apart xs = sym (left-unpriced xs ls) ∙ ap (left_through xs) same ∙ left-unpriced xs ms

  -- differ in nothing else after an amount, on days of any shares
  pub layers-on-apart : (share other x : ℕ) → map unpriced (layers_on share x ls) ≡ map unpriced (layers_on other x ms)
  layers-on-apart share other x =
      on-apart share x ls
      ∙ sym (after-apart x ls)
      ∙ ap (layers_after x) same
      ∙ after-apart x ms
      ∙ sym (on-apart other x ms)

-- and after amounts
pub layers-apart : (share other : ℕ) (xs : List ℕ) (ls ms : List Layer) → map unpriced ls ≡ map unpriced ms
    → map unpriced (layers_through share xs ls) ≡ map unpriced (layers_through other xs ms)
layers-apart share other [] ls ms same = same
layers-apart share other (x ∷ xs) ls ms same =
    layers-apart share other xs (layers_on share x ls) (layers_on other x ms) (layers-on-apart ls ms same share other x)

-- the premium due for an amount leaves what later amounts recover, and what is left of them
module _ (share x : ℕ) (xs : List ℕ) (ls : List Layer) where
  pub recoveries_paid : recoveries_through xs (layers_on share x ls) ≡ recoveries_through xs (layers_after x ls)
  recoveries_paid = recoveries-apart (layers_on share x ls) (layers_after x ls) (on-apart share x ls) xs

  pub left_paid : left_through xs (layers_on share x ls) ≡ left_through xs (layers_after x ls)
  left_paid = left-apart (layers_on share x ls) (layers_after x ls) (on-apart share x ls) xs
