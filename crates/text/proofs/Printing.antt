-- Laws of a number that is printed: one digit, one digit more, and the bytes after it.
-- Assumes nothing.
use Rattle.std.proofs.Common.{◌≡◌, ℕ, zero, suc, ◌+◌, ◌/◌, ◌%◌, ◌<◌, ◌≤◌, List, ◌∷◌, ◌++◌, refl, le_refl, arith, le-ltb, lt-ltb}
use Rattle.lists.proofs.Cases.{by-lt}
use Rattle.text.specs.Number.{printed_by, printed}

-- as many steps as the number itself are enough
enough : (k j n : ℕ) (s : List ℕ) → n ≤ k → n ≤ j → printed_by k n s ≡ printed_by j n s
unfolding printed_by
enough zero zero n s a b = refl
enough zero (suc j) n s a b = simp (printed_by, lt-ltb n 10 (omega arith))
enough (suc k) zero n s a b = simp (printed_by, lt-ltb n 10 (omega arith))
enough (suc k) (suc j) n s a b =
    by-lt n 10
    (λ l. simp (printed_by, lt-ltb _ _ l))
    (λ l. simp (printed_by, le-ltb _ _ l) (enough k j (n / 10) _ (omega arith) (omega arith)))

-- one digit
pub printed-one : (n : ℕ) (s : List ℕ) → n < 10 → printed n s ≡ (48 + n) ∷ s
unfolding printed printed_by
printed-one zero s l = refl
printed-one (suc n) s l = simp (printed_by, lt-ltb _ _ l)

-- one digit more
pub printed-more : (n : ℕ) (s : List ℕ) → 10 ≤ n → printed n s ≡ printed (n / 10) ((48 + n % 10) ∷ s)
unfolding printed printed_by
printed-more zero s l = absurd (omega arith)
printed-more (suc n) s l =
    simp (printed_by, le-ltb _ _ l) (enough n (suc n / 10) (suc n / 10) _ (omega arith) (le_refl _))

-- every number is reached from those of one digit
pub by_digits {ℓ} : (P : ℕ → Type ℓ) → ((n : ℕ) → n < 10 → P n) → ((n : ℕ) → 10 ≤ n → P (n / 10) → P n)
    → (n : ℕ) → P n
by_digits P one more n = below n n (le_refl n)
  where
    below : (k n : ℕ) → n ≤ k → P n
    below zero n h = one n (omega arith)
    below (suc k) n h = by-lt n 10 (one n) (λ l. more n l (below k (n / 10) (omega arith)))

-- bytes after the number stay after it
pub printed-append : (n : ℕ) (s t : List ℕ) → printed n (s ++ t) ≡ printed n s ++ t
printed-append =
    by_digits (λ n. (s t : List ℕ) → printed n (s ++ t) ≡ printed n s ++ t)
    (λ n l s t. simp (printed-one n (s ++ t) l, printed-one n s l))
    (λ n l ih s t. simp (printed-more n (s ++ t) l, printed-more n s l) (ih ((48 + n % 10) ∷ s) t))
