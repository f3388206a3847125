-- Laws of tests along a list: more elements at its end, and a pass over it in place order.
-- Assumes nothing.
use mathlib.Core.Path.{◌≡◌, refl, ap, sym, ◌∙◌}
use mathlib.Core.Bool.{Bool, true, false, ◌&&◌}
use mathlib.Core.List.{List, [], ◌∷◌, ◌++◌}
use Prim.Native.Nat.{ℕ, ◌+◌, ◌≤◌, ◌<◌}
use native.Mathlib.Numerals.{add-one}
use native.Mathlib.Omega.{arith}
use lib.ListN.{length, take, drop, get_or, drop_of_length-le}
use lib.Seq.{slice, slice-cons, slice_empty, drop-cons}
use Rattle.lists.specs.Chains.{last_by, chained, every}

pub and_assoc : (a b c : Bool) → ((a && b) && c) ≡ (a && (b && c))
and_assoc true b c = refl
and_assoc false b c = refl

pub and_true : (a : Bool) → (a && true) ≡ a
and_true true = refl
and_true false = refl

-- two tests that hold together each hold
pub both : (a b : Bool) → (a && b) ≡ true → (a ≡ true) × (b ≡ true)
both true b e = (refl, e)
both false b e = let z : ◌≡◌ {A = ℕ} 0 1 = cc in absurd (omega arith)

module _ {A : Type 0} (figure : A → ℕ) where
  -- the last element of two lists put together
  pub last-append : (n : ℕ) (xs ys : List A) → last_by figure n (xs ++ ys) ≡ last_by figure (last_by figure n xs) ys
  last-append n [] ys = refl
  last-append n (x ∷ xs) ys = last-append (figure x) xs ys

  -- the last element is the one put at the end
  pub last_snoc : (n : ℕ) (xs : List A) (x : A) → last_by figure n (xs ++ (x ∷ [])) ≡ figure x
  last_snoc n xs x = last-append n xs (x ∷ [])

  module _ (passes : ℕ → A → Bool) where
    -- the one put at the end is tested against the last of the others
    pub chained_snoc : (n : ℕ) (xs : List A) (x : A)
        → chained passes figure n (xs ++ (x ∷ [])) ≡ (chained passes figure n xs && passes (last_by figure n xs) x)
    chained_snoc n [] x = and_true (passes n x)
    chained_snoc n (y ∷ xs) x =
        ap (λ (b : Bool). passes n y && b) (chained_snoc (figure y) xs x)
        ∙ sym (and_assoc (passes n y) (chained passes figure (figure y) xs) (passes (last_by figure (figure y) xs) x))

-- A pass over the first k elements of a list, of which the first is after the figure m, at place i after the figure n:
-- those ahead give the whole answer.
pub record Chaining {A : Type 0} (passes : ℕ → A → Bool) (figure : A → ℕ) (m k : ℕ) (l : List A) (n i : ℕ)
    : Type 0 where
  pub within : i ≤ k
  pub inside : k ≤ length l
  pub rest : chained passes figure m (take k l) ≡ chained passes figure n (slice i k l)

pub chain-begins : {A : Type 0} (passes : ℕ → A → Bool) (figure : A → ℕ) (m k : ℕ) (l : List A) → k ≤ length l
    → Chaining passes figure m k l m 0
chain-begins passes figure m k l h = record { within = omega arith; inside = h; rest = refl }

module _ {A : Type 0} {passes : ℕ → A → Bool} {figure : A → ℕ} {m k : ℕ} {l : List A} {n i : ℕ}
    (g : Chaining passes figure m k l n i) where
  module _ (d : A) (h : i < k) where
    pub chain_next : passes n (get_or l i d) ≡ true → Chaining passes figure m k l (figure (get_or l i d)) (i + 1)
    chain_next p = record {
      within = omega arith;
      inside = g.inside;
      rest = g.rest ∙ rw (slice-cons i k l d h g.inside, p, add-one i);
    }

    pub chain-stops : passes n (get_or l i d) ≡ false → false ≡ chained passes figure m (take k l)
    chain-stops p = sym (g.rest ∙ rw (slice-cons i k l d h g.inside, p))

  pub chain-ends : k ≤ i → true ≡ chained passes figure m (take k l)
  chain-ends h = sym (g.rest ∙ rw (end, slice_empty))
    where
      end : i ≡ k
      end = omega (arith, g.within)

-- a pass over a list from place j on, at place i
pub record Passing {A : Type 0} (passes : A → Bool) (j : ℕ) (l : List A) (i : ℕ) : Type 0 where
  pub within : i ≤ length l
  pub rest : every passes (drop j l) ≡ every passes (drop i l)

pub every-begins : {A : Type 0} (passes : A → Bool) (j : ℕ) (l : List A) → j ≤ length l → Passing passes j l j
every-begins passes j l h = record { within = h; rest = refl }

module _ {A : Type 0} {passes : A → Bool} {j : ℕ} {l : List A} {i : ℕ} (g : Passing passes j l i) where
  module _ (d : A) (h : i < length l) where
    pub every-next : passes (get_or l i d) ≡ true → Passing passes j l (i + 1)
    every-next p = record { within = omega arith; rest = g.rest ∙ rw (drop-cons l i d h, p, add-one i) }

    pub every-stops : passes (get_or l i d) ≡ false → false ≡ every passes (drop j l)
    every-stops p = sym (g.rest ∙ rw (drop-cons l i d h, p))

  pub every-ends : length l ≤ i → true ≡ every passes (drop j l)
  every-ends h = sym (g.rest ∙ rw (drop_of_length-le l h))
