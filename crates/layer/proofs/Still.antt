-- Layers that amounts leave as they are recover and charge nothing: those that no amount reaches, and those that have
-- spent up to their cap.
-- Assumes nothing.
use mathlib.Core.Path.{◌≡◌, refl, sym, ◌∙◌}
use mathlib.Core.List.{List, [], ◌∷◌, ◌++◌, map, map-append}
use Prim.Native.Nat.{ℕ, ◌+◌, ◌≤◌}
use native.Mathlib.Omega.{arith}
use Rattle.lists.specs.Sums.{sum_of}
use Rattle.lists.specs.Each.{Each}
use Rattle.lists.proofs.Sums.{sum-append}
use Rattle.layer.specs.declared.terms.Terms.{Terms}
use Rattle.layer.specs.declared.record.Layer.{Layer}
use Rattle.layer.specs.Layer.{brought_by, cap_of}
use Rattle.layer.specs.Tier.{layers_through, recoveries_through, dues_through}
use Rattle.layer.specs.Ranges.{Sound, Rising}
use Rattle.layer.proofs.Through.{after_each, on_each, recovered_each, due_each}
use Rattle.layer.proofs.Through.{layers-each, recoveries-each, dues-each}
use Rattle.layer.proofs.Through.{after_nothing, after_cap, recovered-still, due-still, on-still}

-- no amount is above a
abbrev UpTo : ℕ → List ℕ → Type 0
UpTo a xs = Each (λ (x : ℕ). x ≤ a) xs

-- each of the layers is attached at e or above
abbrev pub From : ℕ → List Layer → Type 0
From e ls = Each (λ (y : Layer). e ≤ y.terms.attachment) ls

nothing-brought : (t : Terms) (a : ℕ) (xs : List ℕ) → UpTo a xs → a ≤ t.attachment → sum_of (brought_by t) xs ≡ 0
nothing-brought t a [] u h = refl
nothing-brought t a (x ∷ xs) u h = omega (arith, u.0, nothing-brought t a xs u.1 h)

-- layers with rising bands are attached at the first attachment or above
pub rising-from : (a e : ℕ) (ls : List Layer) → a ≤ e → Rising e ls → From a ls
rising-from a e [] h r = tt
rising-from a e (y ∷ ys) h r =
    (omega (arith, r.0), rising-from a (y.terms.attachment + y.terms.limit) ys (omega (arith, r.0)) r.1)

module _ (xs : List ℕ) where
  -- the amounts leave each of the layers as it is
  abbrev pub Still : List Layer → Type 0
  Still ls = Each (λ (y : Layer). after_each xs y ≡ y) ls

  -- those attached above every amount
  pub still-from : (a : ℕ) → UpTo a xs → (ls : List Layer) → Each Sound ls → From a ls → Still ls
  still-from a u [] s f = tt
  still-from a u (y ∷ ys) s f =
      (after_nothing xs y s.0 (nothing-brought y.terms a xs u f.0), still-from a u ys s.1 f.1)

  -- those that have spent up to their cap
  pub still_full : (ls : List Layer) → Each Sound ls → Each (λ (y : Layer). cap_of y.terms ≤ y.spent.0) ls
      → Still ls
  still_full [] s f = tt
  still_full (y ∷ ys) s f = (after_cap xs y s.0 f.0, still_full ys s.1 f.1)

module _ (share : ℕ) (fair : share ≤ 10000) (xs : List ℕ) where
  layers-same : (ls : List Layer) → Each Sound ls → Still xs ls → map (on_each share xs) ls ≡ ls
  layers-same [] s u = refl
  layers-same (y ∷ ys) s u =
      let first = on-still xs y s.0 u.0 share fair in
      let rest = layers-same ys s.1 u.1 in
      λ i. first i ∷ rest i

  recovers_nothing : (ls : List Layer) → Each Sound ls → Still xs ls → sum_of (recovered_each xs) ls ≡ 0
  recovers_nothing [] s u = refl
  recovers_nothing (y ∷ ys) s u =
      omega (arith, recovered-still xs y s.0 u.0, recovers_nothing ys s.1 u.1)

  nothing-due : (ls : List Layer) → Each Sound ls → Still xs ls → sum_of (due_each share xs) ls ≡ 0
  nothing-due [] s u = refl
  nothing-due (y ∷ ys) s u =
      omega (arith, due-still xs y s.0 u.0 share fair, nothing-due ys s.1 u.1)

  module _ (ls : List Layer) (s : Each Sound ls) (u : Still xs ls) where
    pub layers-still : layers_through share xs ls ≡ ls
    layers-still = layers-each share xs ls ∙ layers-same ls s u

    pub recoveries-still : recoveries_through xs ls ≡ 0
    recoveries-still = recoveries-each xs ls ∙ recovers_nothing ls s u

    pub dues-still : dues_through share xs ls ≡ 0
    dues-still = dues-each share xs ls ∙ nothing-due ls s u

  -- such layers before and after others: the others alone move, recover and charge
  module _ (front ls rest : List Layer) (s : Each Sound front) (u : Still xs front) (s' : Each Sound rest)
      (u' : Still xs rest) where
    pub layers-between : layers_through share xs (front ++ (ls ++ rest)) ≡ front ++ (layers_through share xs ls ++ rest)
    layers-between =
        layers-each share xs (front ++ (ls ++ rest))
        ∙ map-append (on_each share xs) front (ls ++ rest)
        ∙ (λ i. layers-same front s u i ++ map-append (on_each share xs) ls rest i)
        ∙ (λ i. front ++ (sym (layers-each share xs ls) i ++ layers-same rest s' u' i))

    between : (f : Layer → ℕ) → sum_of f front ≡ 0 → sum_of f rest ≡ 0 → sum_of f (front ++ (ls ++ rest)) ≡ sum_of f ls
    between f z z' = omega (arith, sum-append f front (ls ++ rest), sum-append f ls rest, z, z')

    pub recoveries-between : recoveries_through xs (front ++ (ls ++ rest)) ≡ recoveries_through xs ls
    recoveries-between =
        recoveries-each xs (front ++ (ls ++ rest))
        ∙ between (recovered_each xs) (recovers_nothing front s u) (recovers_nothing rest s' u')
        ∙ sym (recoveries-each xs ls)

    pub dues-between : dues_through share xs (front ++ (ls ++ rest)) ≡ dues_through share xs ls
    dues-between =
        dues-each share xs (front ++ (ls ++ rest))
        ∙ between (due_each share xs) (nothing-due front s u) (nothing-due rest s' u')
        ∙ sym (dues-each share xs ls)
