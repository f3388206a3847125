-- A pass over elements that puts something for each, one after another.
-- Assumes nothing.
use Rattle.std.proofs.Common.{◌≡◌, ℕ, ◌+◌, ◌*◌, ◌^◌, ◌<◌, ◌≤◌, List, [], ◌++◌, length, mul-le-mul_right, suc-mul, mul-le-mul, add-one, arith}
use Rattle.text.specs.Buffer.{Put}
use Rattle.text.proofs.Puts.{Putting, none-put, one-put, all-put, putting-length}

-- What the first n of the elements xs come to is put into d from the place `at` on: `from i` is what those from i on
-- come to, and each comes to at most `most`. When the first i are put, d is d' and the place after them `next`.
pub record Passing {A : Type 0} (from : ℕ → List ℕ) (most : ℕ) (xs : List A) (n : ℕ) (d : List ℕ) (at : ℕ)
    (d' : List ℕ) (next i : ℕ) : Type 0 where
  pub within : i ≤ n
  pub inside : n ≤ length xs
  pub short : next ≤ at + i * most
  pub putting : Putting d at (from 0) d' next (from i)

module _ {A : Type 0} (from : ℕ → List ℕ) (most : ℕ) (xs : List A) (n : ℕ) (d : List ℕ) (at : ℕ) where
  pub none_passed : n ≤ length xs → Passing from most xs n d at d at 0
  none_passed h = record { within = omega arith; inside = h; short = omega arith; putting = none-put d at (from 0) }

  module _ (d' : List ℕ) (next i : ℕ) (g : Passing from most xs n d at d' next i) where
    pub passed_length : length d' ≡ length d
    passed_length = putting-length g.putting

    pub passed-short : next ≤ at + n * most
    passed-short = omega (arith, g.short, mul-le-mul_right most g.within)

    pub passed-small : at < 2 ^ 32 → n ≤ 8 → most ≤ 1200 → next < 2 ^ 60
    passed-small a k m = omega (arith, passed-short, mul-le-mul {n₂ = 8} {m₂ = 1200} k m)

    -- what is put for one element more
    pub one-passed : (v : List ℕ) → i < n → from i ≡ v ++ from (i + 1) → {d'' : List ℕ} {end : ℕ}
        → Put d' next v d'' end → end ≤ next + most → Passing from most xs n d at d'' end (i + 1)
    one-passed v more e p k = record {
      within = omega arith;
      inside = g.inside;
      short = rw (add-one i) (omega (arith, g.short, suc-mul i most));
      putting = one-put g.putting v (from (i + 1)) e p;
    }

    -- no element is left
    pub all-passed : n ≤ i → from n ≡ [] → Put d at (from 0) d' next
    all-passed ended e =
        let h : i ≡ n = omega (arith, g.within) in
        all-put g.putting (rw h e)
