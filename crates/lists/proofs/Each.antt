-- Laws of a fact of each element: of two lists put together, of a list of one element repeated, of one in a place, of
-- the rest and of the front of a list, after a store, of a list mapped, and of a list that passes tests.
-- Assumes nothing.
use mathlib.Core.Path.{◌≡◌}
use mathlib.Core.Bool.{Bool, true}
use mathlib.Core.List.{List, [], ◌∷◌, ◌++◌, map}
use Prim.Native.Nat.{ℕ, zero, suc, ◌<◌}
use native.Mathlib.Omega.{arith}
use lib.ListN.{length, take, drop, get_or, set, replicate}
use Rattle.lists.specs.Each.{Each}
use Rattle.lists.specs.Chains.{chained, every}
use Rattle.lists.proofs.Chains.{both}

module _ {A : Type 0} (P : A → Type 0) where
  pub each_append : (xs ys : List A) → Each P xs → Each P ys → Each P (xs ++ ys)
  each_append [] ys e f = f
  each_append (x ∷ xs) ys e f = (e.0, each_append xs ys e.1 f)

  -- what holds of anything
  pub each_of : ((x : A) → P x) → (xs : List A) → Each P xs
  each_of f [] = tt
  each_of f (x ∷ xs) = (f x, each_of f xs)

  pub each-replicate : (x : A) → P x → (n : ℕ) → Each P (replicate n x)
  each-replicate x p zero = tt
  each-replicate x p (suc n) = (p, each-replicate x p n)

  pub each_at : (l : List A) → Each P l → (i : ℕ) (d : A) → i < length l → P (get_or l i d)
  each_at [] e i d h = absurd (omega arith)
  each_at (x ∷ l) e zero d h = e.0
  each_at (x ∷ l) e (suc i) d h = each_at l e.1 i d (omega arith)

  pub each-drop : (i : ℕ) (l : List A) → Each P l → Each P (drop i l)
  each-drop zero l e = e
  each-drop (suc i) [] e = e
  each-drop (suc i) (x ∷ l) e = each-drop i l e.1

  pub each_take : (i : ℕ) (l : List A) → Each P l → Each P (take i l)
  each_take zero l e = tt
  each_take (suc i) [] e = e
  each_take (suc i) (x ∷ l) e = (e.0, each_take i l e.1)

  pub each_set : (l : List A) → Each P l → (i : ℕ) (a : A) → P a → Each P (set l i a)
  each_set [] e i a p = tt
  each_set (x ∷ l) e zero a p = (p, e.1)
  each_set (x ∷ l) e (suc i) a p = (e.0, each_set l e.1 i a p)

  -- what follows from it
  pub each_so : (Q : A → Type 0) → ((x : A) → P x → Q x) → (l : List A) → Each P l → Each Q l
  each_so Q f [] e = tt
  each_so Q f (x ∷ l) e = (f x e.0, each_so Q f l e.1)

  pub each_map : {B : Type 0} (f : B → A) (xs : List B) → Each (λ (x : B). P (f x)) xs → Each P (map f xs)
  each_map f [] e = tt
  each_map f (x ∷ xs) e = (e.0, each_map f xs e.1)

  pub each_mapped : {B : Type 0} (f : B → A) (xs : List B) → Each P (map f xs) → Each (λ (x : B). P (f x)) xs
  each_mapped f [] e = tt
  each_mapped f (x ∷ xs) e = (e.0, each_mapped f xs e.1)

  -- what the test tells of an element, where all pass
  pub each-every : (passes : A → Bool) → ((x : A) → passes x ≡ true → P x) → (xs : List A) → every passes xs ≡ true
      → Each P xs
  each-every passes h [] e = tt
  each-every passes h (x ∷ xs) e =
      let f = both (passes x) (every passes xs) e in
      (h x f.0, each-every passes h xs f.1)

  pub each-chained : (passes : ℕ → A → Bool) (figure : A → ℕ) → ((n : ℕ) (x : A) → passes n x ≡ true → P x)
      → (n : ℕ) (xs : List A) → chained passes figure n xs ≡ true → Each P xs
  each-chained passes figure h n [] e = tt
  each-chained passes figure h n (x ∷ xs) e =
      let f = both (passes n x) (chained passes figure (figure x) xs) e in
      (h n x f.0, each-chained passes figure h (figure x) xs f.1)
