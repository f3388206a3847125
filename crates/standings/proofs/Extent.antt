-- Which layers of a tier amounts may move: the first are exhausted, and the largest amount reaches those with an
-- attachment below it, no layer after these.
-- Assumes nothing.
use mathlib.Core.Path.{◌≡◌, refl, ap, ◌∙◌}
use mathlib.Core.Bool.{Bool, cond}
use mathlib.Core.List.{List, [], ◌∷◌}
use Prim.Native.Nat.{ℕ, suc, ◌+◌, ◌≤◌, ◌<◌, max}
use native.Mathlib.Omega.{arith}
use borrow.Author.Tests.{lt-ltb, le-ltb, le-leb, lt-leb}
use lib.Dec.{leb}
use lib.ListN.{length, take, drop, get_or}
use Rattle.std.specs.List.{fold}
use Rattle.std.proofs.lemmas.List.Sums.{prefix_len-drop_yes, prefix_len-drop_no, prefix_len-drop_all}
use Rattle.lists.specs.Each.{Each}
use Rattle.lists.proofs.Cases.{by-lt}
use Rattle.lists.proofs.Each.{each-drop}
use Rattle.layer.specs.declared.terms.Terms.{Terms}
use Rattle.layer.specs.declared.record.Layer.{Layer}
use Rattle.layer.specs.Layer.{cap_of, layer_of}
use Rattle.layer.specs.Ranges.{Sound, Rising}
use Rattle.layer.proofs.Still.{From, rising-from, Still, still-from}
use Rattle.year.specs.Standing.{layers_with}
use Rattle.standings.specs.Tier.{largest_of, reached_by, exhausted_of}
use Rattle.standings.proofs.Loads.{with_length, with_at}

-- no amount is above the largest
up_to_fold : (m : ℕ) (xs : List ℕ) → (m ≤ fold max m xs) × Each (λ (x : ℕ). x ≤ fold max m xs) xs
up_to_fold m [] = (omega arith, tt)
up_to_fold m (x ∷ xs) =
    let rest = up_to_fold (max m x) xs in (omega (arith, rest.0), (omega (arith, rest.0), rest.1))

-- an amount above the attachment reaches the layer, and one up to it does not
reach_one : (x : ℕ) (t : Terms) (ts : List Terms) → t.attachment < x → reached_by x (t ∷ ts) ≡ suc (reached_by x ts)
reach_one x t ts h = ap (λ (b : Bool). cond b (1 + reached_by x ts) 0) (lt-ltb _ _ h) ∙ omega arith

reach_none : (x : ℕ) (t : Terms) (ts : List Terms) → x ≤ t.attachment → reached_by x (t ∷ ts) ≡ 0
reach_none x t ts h = ap (λ (b : Bool). cond b (1 + reached_by x ts) 0) (le-ltb _ _ h)

-- the layers after those that x reaches are attached at x or above, since bands rise
from_reached : (x e : ℕ) (ts : List Terms) (ms ns : List ℕ) → Rising e (layers_with ts ms ns)
    → From x (drop (reached_by x ts) (layers_with ts ms ns))
from_reached x e [] ms ns r = tt
from_reached x e (t ∷ ts) ms ns r =
    let after = t.attachment + t.limit in
    by-lt t.attachment x (λ h. rw (reach_one x t ts h) (from_reached x after ts (drop 1 ms) (drop 1 ns) r.1))
    (λ h. rw (reach_none x t ts h)
    (h, rising-from x after (layers_with ts (drop 1 ms) (drop 1 ns)) (omega arith) r.1))

-- so the amounts leave them as they are
pub still_after : (xs : List ℕ) (ts : List Terms) (ms ns : List ℕ) → Each Sound (layers_with ts ms ns)
    → Rising 0 (layers_with ts ms ns) → Still xs (drop (reached_by (largest_of xs) ts) (layers_with ts ms ns))
still_after xs ts ms ns s r =
    let n = reached_by (largest_of xs) ts in
    still-from xs (largest_of xs) (up_to_fold 0 xs).1 (drop n (layers_with ts ms ns))
    (each-drop Sound n (layers_with ts ms ns) s) (from_reached (largest_of xs) 0 ts ms ns r)

-- a layer that has spent up to its cap
abbrev pub Exhausted : Layer → Type 0
Exhausted y = cap_of y.terms ≤ y.spent.0

exhaust_one : (y : Layer) (ys : List Layer) → Exhausted y → exhausted_of (y ∷ ys) ≡ suc (exhausted_of ys)
exhaust_one y ys h = ap (λ (b : Bool). cond b (1 + exhausted_of ys) 0) (le-leb _ _ h) ∙ omega arith

exhaust_none : (y : Layer) (ys : List Layer) → y.spent.0 < cap_of y.terms → exhausted_of (y ∷ ys) ≡ 0
exhaust_none y ys h = ap (λ (b : Bool). cond b (1 + exhausted_of ys) 0) (lt-leb _ _ h)

-- the test of one
abbrev test : Layer → Bool
test y = leb (cap_of y.terms) y.spent.0

-- those that are exhausted have spent up to their cap
pub exhausted_full : (ys : List Layer) → Each Exhausted (take (exhausted_of ys) ys)
exhausted_full [] = tt
exhausted_full (y ∷ ys) =
    by-lt y.spent.0 (cap_of y.terms) (λ h. rw (exhaust_none y ys h) tt)
    (λ h. rw (exhaust_one y ys h) (h, exhausted_full ys))

-- whatever their timed premiums are
pub exhausted_blind : (ts : List Terms) (ms ns ks : List ℕ)
    → exhausted_of (layers_with ts ms ns) ≡ exhausted_of (layers_with ts ms ks)
exhausted_blind [] ms ns ks = refl
exhausted_blind (t ∷ ts) ms ns ks =
    ap (λ (n : ℕ). cond (leb (cap_of t) (get_or ms 0 0)) (1 + n) 0) (exhausted_blind ts (drop 1 ms) (drop 1 ns) (drop 1 ks))

-- the first i layers are exhausted: those ahead give the whole answer
pub record Exhausting (ts : List Terms) (ms : List ℕ) (i : ℕ) : Type 0 where
  pub rest : exhausted_of (layers_with ts ms []) ≡ i + exhausted_of (drop i (layers_with ts ms []))

module _ {ts : List Terms} {ms : List ℕ} {i : ℕ} (g : Exhausting ts ms i) where
  abbrev layers : List Layer
  layers = layers_with ts ms []

  module _ (d : Terms) (h : i < length ts) where
    abbrev next : Layer
    next = layer_of (get_or ts i d) (get_or ms i 0) 0

    own : get_or layers i next ≡ next
    own = with_at ts ms [] i next d h

    inside : i < length layers
    inside = omega (arith, with_length ts ms [])

    module _ (cap : ℕ) (is : cap ≡ cap_of (get_or ts i d)) where
      pub one_exhausted : cap ≤ get_or ms i 0 → Exhausting ts ms (i + 1)
      one_exhausted f =
          let spent : cap_of (get_or ts i d) ≤ get_or ms i 0 = omega arith in
          record {
            rest = omega (arith, g.rest, prefix_len-drop_yes test layers i next inside (rw own (le-leb _ _ spent)));
          }

      pub exhausted_no_more : get_or ms i 0 < cap → i ≡ exhausted_of layers
      exhausted_no_more f =
          let left : get_or ms i 0 < cap_of (get_or ts i d) = omega arith in
          omega (arith, g.rest, prefix_len-drop_no test layers i next inside (rw own (lt-leb _ _ left)))

  pub all_exhausted : length ts ≤ i → i ≤ length ts → length ts ≡ exhausted_of layers
  all_exhausted h within =
      omega (arith, g.rest, prefix_len-drop_all test layers i (omega (arith, with_length ts ms [])))
