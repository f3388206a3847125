-- Laws of how many bytes below 10 a word begins with: the zeros that the bits of its marks begin with, by whole bytes.
-- Assumes nothing.
use Rattle.std.proofs.Common.{◌≡◌, ℕ, zero, suc, ◌/◌, ◌%◌, ◌<◌, ◌≤◌, sym, ap, ◌∙◌, arith, le-ltb, lt-ltb}
use lib.Count.{count_trailing_zeros}
use Rattle.lists.proofs.Cases.{by-eq, by-lt}
use Rattle.text.specs.Word.{byte_of, mark_of, Marked, Leading}
use Rattle.text.proofs.Words.{next-byte}

-- the zeros that a word's bits begin with, by whole bytes
zeros_even : (k m : ℕ) → m % 2 ≡ 0 → count_trailing_zeros (suc k) m ≡ suc (count_trailing_zeros k (m / 2))
unfolding count_trailing_zeros
zeros_even k m e = simp (count_trailing_zeros, e)

zeros_odd : (k m : ℕ) → m % 2 ≡ 1 → count_trailing_zeros (suc k) m ≡ 0
unfolding count_trailing_zeros
zeros_odd k m e = simp (count_trailing_zeros, e)

zeros-half : (k m b : ℕ) → (m % 2 ≡ 0 → count_trailing_zeros k (m / 2) < b) → count_trailing_zeros (suc k) m < suc b
zeros-half k m b f =
    by-eq (m % 2) 0
    (λ e. omega (arith, zeros_even k m e, f e))
    (λ e. let o : m % 2 ≡ 1 = omega arith in omega (arith, zeros_odd k m o))

-- eight bits more
abbrev more : ℕ → ℕ
more k = suc (suc (suc (suc (suc (suc (suc (suc k)))))))

zeros_stop : (k m : ℕ) → (m % 256 ≡ 0 → ⊥) → count_trailing_zeros (more k) m < 8
zeros_stop k m n =
    zeros-half _ m 7 (λ a.
    zeros-half _ (m / 2) 6 (λ b.
    zeros-half _ (m / 2 / 2) 5 (λ c.
    zeros-half _ (m / 2 / 2 / 2) 4 (λ d.
    zeros-half _ (m / 2 / 2 / 2 / 2) 3 (λ e.
    zeros-half _ (m / 2 / 2 / 2 / 2 / 2) 2 (λ f.
    zeros-half _ (m / 2 / 2 / 2 / 2 / 2 / 2) 1 (λ g.
    zeros-half _ (m / 2 / 2 / 2 / 2 / 2 / 2 / 2) 0 (λ h. absurd (n (omega arith))))))))))

zeros_skip : (k m : ℕ) → m % 256 ≡ 0 → count_trailing_zeros (more k) m ≡ more (count_trailing_zeros k (m / 256))
zeros_skip k m z =
    zeros_even _ m (omega arith)
    ∙ ap suc (zeros_even _ (m / 2) (omega arith)
    ∙ ap suc (zeros_even _ (m / 2 / 2) (omega arith)
    ∙ ap suc (zeros_even _ (m / 2 / 2 / 2) (omega arith)
    ∙ ap suc (zeros_even _ (m / 2 / 2 / 2 / 2) (omega arith)
    ∙ ap suc (zeros_even _ (m / 2 / 2 / 2 / 2 / 2) (omega arith)
    ∙ ap suc (zeros_even _ (m / 2 / 2 / 2 / 2 / 2 / 2) (omega arith)
    ∙ ap suc (zeros_even _ (m / 2 / 2 / 2 / 2 / 2 / 2 / 2) (omega arith)
    ∙ ap (λ (n : ℕ). suc (count_trailing_zeros k n)) whole)))))))
  where
    whole : m / 2 / 2 / 2 / 2 / 2 / 2 / 2 / 2 ≡ m / 256
    whole = omega arith

abbrev pub bits : ℕ → ℕ
bits zero = 0
bits (suc j) = more (bits j)

-- the byte that has the first bit: the lowest, or one further than among those after it
module _ (k m : ℕ) where
  pub byte_stop : (m % 256 ≡ 0 → ⊥) → count_trailing_zeros (more k) m / 8 ≡ 0
  byte_stop n = omega (arith, zeros_stop k m n)

  pub byte_skip : m % 256 ≡ 0 → count_trailing_zeros (more k) m / 8 ≡ suc (count_trailing_zeros k (m / 256) / 8)
  byte_skip z = omega (arith, zeros_skip k m z)

-- r is the place of the first of j bytes of m that is not 0, or j
record First (m j r : ℕ) : Type 0 where
  within : r ≤ j
  before : (k : ℕ) → k < r → byte_of m k ≡ 0
  there : r < j → byte_of m r ≡ 0 → ⊥

module _ (j k m : ℕ) where
  first_stop : (m % 256 ≡ 0 → ⊥) → First m (suc j) (count_trailing_zeros (more k) m / 8)
  first_stop n =
      rw (byte_stop k m n)
      (record { within = omega arith; before = λ i l. absurd (omega arith); there = λ l e. n (omega arith) })

  first_skip : m % 256 ≡ 0 → First (m / 256) j (count_trailing_zeros k (m / 256) / 8)
      → First m (suc j) (count_trailing_zeros (more k) m / 8)
  first_skip e f =
      rw (byte_skip k m e)
      (record {
        within = omega (arith, f.within);
        before = passed-by;
        there = λ l d. f.there (omega arith) (sym (next-byte m _) ∙ d);
      })
    where
      passed-by : (i : ℕ) → i < suc (count_trailing_zeros k (m / 256) / 8) → byte_of m i ≡ 0
      passed-by zero l = omega arith
      passed-by (suc i) l = next-byte m i ∙ f.before i (omega arith)

zeros-first : (j m : ℕ) → First m j (count_trailing_zeros (bits j) m / 8)
unfolding count_trailing_zeros
zeros-first zero m =
    record { within = omega arith; before = λ k l. absurd (omega arith); there = λ l. absurd (omega arith) }
zeros-first (suc j) m =
    by-eq (m % 256) 0 (λ e. first_skip j (bits j) m e (zeros-first j (m / 256))) (λ n. first_stop j (bits j) m n)

small : (b : ℕ) → b < 10 → mark_of b ≡ 0
unfolding mark_of
small b g = simp (mark_of, lt-ltb _ _ g)

large : (b : ℕ) → 10 ≤ b → mark_of b ≡ 128
unfolding mark_of
large b g = simp (mark_of, le-ltb _ _ g)

-- the bytes below 10 that a word begins with, by its marks
pub leading-bytes : (t m : ℕ) → Marked t m → Leading t (count_trailing_zeros 64 m / 8)
leading-bytes t m z = record {
  within = f.within;
  figures = record { each = λ k l. by-lt (byte_of t k) 10 (λ g. g) (λ g. absurd (other k l g)) };
  end = λ l. by-lt (byte_of t _) 10 (λ g. absurd (f.there l (z.each _ l ∙ small _ g))) (λ g. g);
}
  where
    f : First m 8 (count_trailing_zeros 64 m / 8)
    f = zeros-first 8 m

    other : (k : ℕ) → k < count_trailing_zeros 64 m / 8 → 10 ≤ byte_of t k → ⊥
    other k l g = omega (arith, f.before k l, z.each k (omega (arith, f.within)), large (byte_of t k) g)
