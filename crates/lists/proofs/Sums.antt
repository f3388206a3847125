-- Laws of map and of sums over a list.
-- Assumes nothing.
use mathlib.Core.Path.{◌≡◌, refl, sym, ap, ◌∙◌, fun_ext}
use mathlib.Core.List.{List, [], ◌∷◌, ◌++◌, map, map-map}
use Prim.Native.Nat.{ℕ, ◌+◌}
use native.Mathlib.Omega.{arith}
use Rattle.lists.specs.Sums.{sum_of}

module _ {A B : Type 0} where
  -- maps of functions that agree
  pub map_same : {f g : A → B} → ((a : A) → f a ≡ g a) → (l : List A) → map f l ≡ map g l
  map_same h l = ap (λ (f : A → B). map f l) (fun_ext h)

  -- the sum over a list mapped
  pub sum-map : (f : B → ℕ) (g : A → B) (l : List A) → sum_of f (map g l) ≡ sum_of (λ (a : A). f (g a)) l
  sum-map f g [] = refl
  sum-map f g (a ∷ l) = ap (λ (n : ℕ). f (g a) + n) (sum-map f g l)

-- two maps after one another against two others
pub map_square : {A B C D : Type 0} (f : B → D) (g : A → B) (h : C → D) (k : A → C)
    → ((a : A) → f (g a) ≡ h (k a)) → (l : List A) → map f (map g l) ≡ map h (map k l)
map_square f g h k e l = map-map f g l ∙ map_same e l ∙ sym (map-map h k l)

module _ {A : Type 0} where
  -- sums of functions that agree
  pub sum_same : {f g : A → ℕ} → ((a : A) → f a ≡ g a) → (l : List A) → sum_of f l ≡ sum_of g l
  sum_same h l = ap (λ (f : A → ℕ). sum_of f l) (fun_ext h)

  -- the sum over two lists put together
  pub sum-append : (f : A → ℕ) (l m : List A) → sum_of f (l ++ m) ≡ sum_of f l + sum_of f m
  sum-append f [] m = omega arith
  sum-append f (a ∷ l) m = omega (arith, sum-append f l m)

  -- the sum of two functions added
  pub sum-add : (f g : A → ℕ) (l : List A) → sum_of (λ (a : A). f a + g a) l ≡ sum_of f l + sum_of g l
  sum-add f g [] = refl
  sum-add f g (a ∷ l) = omega (arith, sum-add f g l)

  -- the sum of nothing for each element
  pub sum-zero : (l : List A) → sum_of (λ (a : A). 0) l ≡ 0
  sum-zero [] = refl
  sum-zero (a ∷ l) = omega (arith, sum-zero l)

-- sums over two lists, in either order
pub sum_swap : {A B : Type 0} (f : A → B → ℕ) (l : List A) (m : List B)
    → sum_of (λ (a : A). sum_of (f a) m) l ≡ sum_of (λ (b : B). sum_of (λ (a : A). f a b) l) m
sum_swap f [] m = sym (sum-zero m)
sum_swap {A} {B} f (a ∷ l) m =
    ap (λ (n : ℕ). sum_of (f a) m + n) (sum_swap f l m)
    ∙ sym (sum-add (f a) (λ (b : B). sum_of (λ (c : A). f c b) l) m)
