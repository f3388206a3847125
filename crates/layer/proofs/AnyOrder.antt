-- Document 02, Q-13: what is spent of a layer does not depend on the order of its losses.
-- Assumes nothing.
use mathlib.Core.Path.{◌≡◌, sym, ap, ◌∙◌}
use mathlib.Core.List.{List, Perm}
use Prim.Native.Nat.{ℕ, ◌+◌, ◌≤◌}
use Rattle.lists.specs.Sums.{sum_of}
use Rattle.lists.proofs.Sums.{sum-map}
use Rattle.lists.proofs.Permutations.{sum_perm}
use Rattle.layer.specs.declared.terms.Terms.{Terms}
use Rattle.layer.specs.declared.record.Layer.{Layer}
use Rattle.layer.specs.Layer.{brought_by, cap_of, cut_at_cap, layer_of, layer_after}
use Rattle.layer.proofs.Through.{after_each, after-at-once}

-- after the losses n, those that the elements of a list bring, cut off at the cap
pub cut_any_order : {A : Type 0} (t : Terms) (n : ℕ) (brings : A → ℕ) {xs ys : List A} → Perm xs ys
    → cut_at_cap t (n + sum_of brings xs) ≡ cut_at_cap t (n + sum_of brings ys)
cut_any_order t n brings q = ap (λ (k : ℕ). cut_at_cap t (n + k)) (sum_perm brings q)

-- so it is where each loss is cut off at the cap as it comes: after amounts in any order the record is the same
pub after_any_order : (xs ys : List ℕ) → Perm xs ys → (y : Layer) → y.spent.0 ≤ cap_of y.terms
    → after_each xs y ≡ after_each ys y
after_any_order xs ys q y h =
    once xs
    ∙ ap (λ (m : ℕ). layer_of y.terms m y.timed.0)
    (cut_any_order y.terms y.spent.0 (brought_by y.terms) q)
    ∙ sym (once ys)
  where
    once : (zs : List ℕ) → after_each zs y ≡ layer_after (sum_of (brought_by y.terms) zs) y
    once zs =
        after-at-once zs y h
        ∙ ap (λ (n : ℕ). layer_after n y) (sum-map (λ (n : ℕ). n) (brought_by y.terms) zs)
