-- The layers of some terms, spent amounts and timed premiums, place by place, and their records in the first of eight
-- places.
-- Assumes nothing.
use mathlib.Core.Path.{◌≡◌, refl, sym, ap, ◌∙◌}
use mathlib.Core.List.{List, [], ◌∷◌}
use Prim.Native.Nat.{ℕ, zero, suc, ◌+◌, ◌-◌, ◌≤◌, ◌<◌}
use native.Mathlib.Numerals.{add-one}
use native.Mathlib.Omega.{arith}
use lib.ListN.{length, take, drop, get_or, set, length-set}
use lib.Seq.{take-suc, take-suc-set, take_all}
use Rattle.std.specs.List.{between}
use Rattle.std.proofs.lemmas.List.{length-take}
use Rattle.layer.specs.declared.terms.Terms.{Terms}
use Rattle.layer.specs.declared.record.Layer.{Layer}
use Rattle.layer.specs.Layer.{layer_of}
use Rattle.year.specs.Standing.{layers_with}

-- as many layers as terms
pub with_length : (ts : List Terms) (ms ns : List ℕ) → length (layers_with ts ms ns) ≡ length ts
with_length [] ms ns = refl
with_length (t ∷ ts) ms ns = ap suc (with_length ts (drop 1 ms) (drop 1 ns))

-- a number after the first
after_first : (ms : List ℕ) (i : ℕ) → get_or (drop 1 ms) i 0 ≡ get_or ms (suc i) 0
after_first [] i = refl
after_first (m ∷ ms) i = refl

-- the layer in a place has the terms, the spent amount and the timed premium of the same place
pub with_at : (ts : List Terms) (ms ns : List ℕ) (i : ℕ) (d : Layer) (d' : Terms) → i < length ts
    → get_or (layers_with ts ms ns) i d ≡ layer_of (get_or ts i d') (get_or ms i 0) (get_or ns i 0)
with_at [] ms ns i d d' h = absurd (omega arith)
with_at (t ∷ ts) ms ns zero d d' h = refl
with_at (t ∷ ts) ms ns (suc i) d d' h =
    with_at ts (drop 1 ms) (drop 1 ns) i d d' (omega arith)
    ∙ (λ j. layer_of (get_or ts i d') (after_first ms i j) (after_first ns i j))

-- the layers of the first terms, and those from a place on
pub with_take : (n : ℕ) (ts : List Terms) (ms ns : List ℕ) → layers_with (take n ts) ms ns ≡ take n (layers_with ts ms ns)
with_take zero ts ms ns = refl
with_take (suc n) [] ms ns = refl
with_take (suc n) (t ∷ ts) ms ns =
    ap (λ (ys : List Layer). layer_of t (get_or ms 0 0) (get_or ns 0 0) ∷ ys) (with_take n ts (drop 1 ms) (drop 1 ns))

-- places before the first layer are not looked at
rest_dropped : (n : ℕ) (ms : List ℕ) → drop (suc n) ms ≡ drop n (drop 1 ms)
rest_dropped zero [] = refl
rest_dropped (suc n) [] = refl
rest_dropped n (m ∷ ms) = refl

with_drop : (n : ℕ) (ts : List Terms) (ms ns : List ℕ)
    → layers_with (drop n ts) (drop n ms) (drop n ns) ≡ drop n (layers_with ts ms ns)
with_drop zero ts ms ns = refl
with_drop (suc n) [] ms ns = refl
with_drop (suc n) (t ∷ ts) ms ns =
    (λ j. layers_with (drop n ts) (rest_dropped n ms j) (rest_dropped n ns j))
    ∙ with_drop n ts (drop 1 ms) (drop 1 ns)

-- places past the last layer are not looked at
first_taken : (n : ℕ) (ms : List ℕ) → get_or (take (suc n) ms) 0 0 ≡ get_or ms 0 0
first_taken n [] = refl
first_taken n (m ∷ ms) = refl

rest_taken : (n : ℕ) (ms : List ℕ) → drop 1 (take (suc n) ms) ≡ take n (drop 1 ms)
rest_taken zero [] = refl
rest_taken (suc n) [] = refl
rest_taken n (m ∷ ms) = refl

with-short : (ts : List Terms) (ms ns : List ℕ) (n : ℕ) → length ts ≤ n → layers_with ts (take n ms) (take n ns) ≡ layers_with ts ms ns
with-short [] ms ns n h = refl
with-short (t ∷ ts) ms ns zero h = absurd (omega arith)
with-short (t ∷ ts) ms ns (suc n) h =
    (λ j. layer_of t (first_taken n ms j) (first_taken n ns j) ∷ layers_with ts (rest_taken n ms j) (rest_taken n ns j))
    ∙ ap (λ (ys : List Layer). layer_of t (get_or ms 0 0) (get_or ns 0 0) ∷ ys) (with-short ts (drop 1 ms) (drop 1 ns) n (omega arith))

-- one more element is as it is there
pub take_next : {A : Type 0} (xs ys : List A) (i : ℕ) (v d : A) → i < length xs → i < length ys → take i xs ≡ take i ys
    → v ≡ get_or ys i d → take (i + 1) (set xs i v) ≡ take (i + 1) ys
take_next xs ys i v d h k e q = rw (add-one, take-suc-set xs i v h, take-suc ys i d k, e, q)

-- the layers between two places
pub with-between : (f n : ℕ) (ts : List Terms) (ms ns : List ℕ)
    → layers_with (between f n ts) (between f n ms) (between f n ns) ≡ between f n (layers_with ts ms ns)
with-between f n ts ms ns =
    with-short (between f n ts) (drop f ms) (drop f ns) (n - f) (omega (arith, length-take (n - f) (drop f ts)))
    ∙ with_take (n - f) (drop f ts) (drop f ms) (drop f ns)
    ∙ ap (take (n - f)) (with_drop f ts ms ns)

-- the first i records are made
pub record Recorded (ts : List Terms) (ms ns : List ℕ) (ys : List Layer) (i : ℕ) : Type 0 where
  pub few : length ts ≤ 8
  pub places : length ys ≡ 8
  pub made : take i ys ≡ take i (layers_with ts ms ns)

module _ {ts : List Terms} {ms ns : List ℕ} {ys : List Layer} {i : ℕ} (g : Recorded ts ms ns ys i) where
  pub record_next : (d : Terms) → i < length ts → (y : Layer)
      → y ≡ layer_of (get_or ts i d) (get_or ms i 0) (get_or ns i 0) → Recorded ts ms ns (set ys i y) (i + 1)
  record_next d h y is = record {
    few = g.few;
    places = length-set ys i y ∙ g.places;
    made =
        take_next ys (layers_with ts ms ns) i y y (omega (arith, g.few, g.places)) (omega (arith, with_length ts ms ns))
        g.made (is ∙ sym (with_at ts ms ns i y d h));
  }

  pub record_ends : length ts ≤ i → i ≤ length ts → take (length ts) ys ≡ layers_with ts ms ns
  record_ends h within =
      let e : i ≡ length ts = omega arith in
      rw e at g.made ∙ take_all (length ts) (layers_with ts ms ns) (omega (arith, with_length ts ms ns))
