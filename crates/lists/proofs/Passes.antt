-- A pass over the first n elements of a list in place order, which replaces each by f of it and adds g of it:
-- when the first i are done, `slice i n l` is ahead.
-- Assumes nothing.
use mathlib.Core.Path.{◌≡◌, sym, ◌∙◌}
use mathlib.Core.List.{List, ◌++◌, map, append_assoc}
use Prim.Native.Nat.{ℕ, suc, ◌+◌, ◌≤◌, ◌<◌}
use native.Mathlib.Nat.{add-zero, le_refl}
use native.Mathlib.Numerals.{add-one}
use native.Mathlib.Omega.{arith}
use lib.ListN.{length, take, drop, get_or, set, length-map, take-append-drop}
use lib.Seq.{take-suc-set, drop-set-lt, take-set-lt, slice, slice-cons, slice_empty}
use Rattle.lists.specs.Sums.{sum_of}
use Rattle.lists.specs.Each.{Each}

module _ {A : Type 0} (i n : ℕ) (l : List A) (h : i < n) (k : n ≤ length l) where
  -- a store at i leaves what is ahead of it
  rest : (v : A) → slice (i + 1) n (set l i v) ≡ slice (suc i) n l
  rest v = rw (add-one, take-set-lt n l i v h, drop-set-lt (suc i) (take n l) i v (le_refl _))

  -- the next element has what each of those ahead has
  pub each_next : (P : A → Type 0) (d : A) → Each P (slice i n l) → P (get_or l i d)
  each_next P d e = (rw (slice-cons i n l d h k) at e).0

  pub each_step : (P : A → Type 0) (v : A) → Each P (slice i n l) → Each P (slice (i + 1) n (set l i v))
  each_step P v e = rw (rest v) (rw (slice-cons i n l v h k) at e).1

  -- those behind are replaced, those ahead are to be
  pub map-step : (f : A → A) (v d : A) {t : List A} → v ≡ f (get_or l i d)
      → take i l ++ (map f (slice i n l) ++ drop n l) ≡ t
      → take (i + 1) (set l i v) ++ (map f (slice (i + 1) n (set l i v)) ++ drop n (set l i v)) ≡ t
  map-step f v d is e =
      rw (rest v, add-one, take-suc-set l i v (omega arith), drop-set-lt n l i v h, append_assoc, is)
      (rw (slice-cons i n l d h k) at e)

  -- what is added for the next is no more ahead
  pub sum_step : (g : A → ℕ) (v d : A) (s : ℕ) {t : ℕ} → s + sum_of g (slice i n l) ≡ t
      → (s + g (get_or l i d)) + sum_of g (slice (i + 1) n (set l i v)) ≡ t
  sum_step g v d s e = let e' = rw (slice-cons i n l d h k) at e in rw (rest v) (omega arith)

module _ {A : Type 0} (i n : ℕ) (l : List A) (h : i ≡ n) where
  pub map-end : (f : A → A) {t : List A} → take i l ++ (map f (slice i n l) ++ drop n l) ≡ t → l ≡ t
  map-end f e = sym (take-append-drop n l) ∙ (rw (h, slice_empty) at e)

  pub sum-end : (g : A → ℕ) (s : ℕ) {t : ℕ} → s + sum_of g (slice i n l) ≡ t → s ≡ t
  sum-end g s e = rw (h, slice_empty, add-zero) at e
