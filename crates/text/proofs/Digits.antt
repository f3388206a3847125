-- Laws of a number that is read: byte by byte, a printed number is read back, and what is read prints as it stood.
-- Assumes nothing.
use Rattle.std.proofs.Common.{◌≡◌, ℕ, ◌+◌, ◌-◌, ◌*◌, ◌/◌, ◌%◌, ◌^◌, ◌<◌, ◌≤◌, List, [], ◌∷◌, length, get_or, drop, sym, refl, ap, ◌∙◌, add-one, arith, length-drop, drop_of_length-le, drop-cons, le-ltb, lt-ltb, le-leb}
use Rattle.std.specs.Prelude.{Option, None, Some}
use borrow.Author.Tests.{lt-leb}
use Rattle.lists.proofs.Cases.{by-lt}
use Rattle.text.specs.Number.{printed, digit_of, read_on, number, number_of, number_at, number_on}
use Rattle.text.proofs.Printing.{printed-one, printed-more, by_digits}

-- a number of at most sixteen digits
abbrev pub Readable : ℕ → Type 0
Readable n = n < 10 ^ 16

-- no digit stands at the front of a text
abbrev pub Ended : List ℕ → Type 0
Ended [] = Unit {0}
Ended (b ∷ s) = 10 ≤ digit_of b

pub digit_in : (b : ℕ) → 48 ≤ b → b ≤ 57 → digit_of b ≡ b - 48
unfolding digit_of
digit_in b l h = simp (digit_of, le-leb _ _ l) (simp (le-leb _ _ h))

pub digit-below : (b : ℕ) → b < 48 → digit_of b ≡ 10
unfolding digit_of
digit-below b l = simp (digit_of, lt-leb _ _ l)

pub digit-above : (b : ℕ) → 57 < b → digit_of b ≡ 10
unfolding digit_of
digit-above b l = simp (digit_of, le-leb 48 b (omega arith)) (simp (lt-leb _ _ l))

-- a digit's byte, and its value
pub digit_of_lem : (d : ℕ) → d < 10 → digit_of (48 + d) ≡ d
digit_of_lem d l = digit_in (48 + d) (omega arith) (omega arith) ∙ omega arith

of_digit : (b : ℕ) → digit_of b < 10 → 48 + digit_of b ≡ b
of_digit b l =
    by-lt b 48
    (λ h. absurd (omega (arith, digit-below b h)))
    (λ h. by-lt b 58
    (λ g. rw (digit_in b h (omega arith)) (omega arith))
    (λ g. absurd (omega (arith, digit-above b g))))

-- at the place i of the text s, where d is the byte's value as a digit
module _ (s : List ℕ) (i : ℕ) where
  pub number-end : length s ≤ i → number (drop i s) ≡ None
  unfolding number
  number-end h = rw (drop_of_length-le s h)

  module _ (d : ℕ) (h : i < length s) (e : d ≡ digit_of (get_or s i 0)) where
    pub number-other : 10 ≤ d → number (drop i s) ≡ None
    unfolding number
    number-other l = rw (drop-cons s i 0 h) (simp (number, ← e, le-ltb _ _ l))

    pub number-digit : d < 10 → number (drop i s) ≡ read_on d (drop (i + 1) s)
    unfolding number
    number-digit l = rw (drop-cons s i 0 h, add-one i) (simp (number, ← e, lt-ltb _ _ l))

  -- the same after the digits of v, where o is what is read in all
  module _ (v : ℕ) (o : Option (ℕ × List ℕ)) (q : o ≡ read_on v (drop i s)) where
    pub read-end : length s ≤ i → o ≡ Some (v, drop i s)
    unfolding read_on
    read-end h = q ∙ rw (drop_of_length-le s h)

    module _ (d : ℕ) (h : i < length s) (e : d ≡ digit_of (get_or s i 0)) where
      pub read-other : 10 ≤ d → o ≡ Some (v, drop i s)
      unfolding read_on
      read-other l = q ∙ rw (drop-cons s i 0 h) (simp (read_on, ← e, le-ltb _ _ l))

      pub read-zero : d < 10 → v ≡ 0 → o ≡ None
      unfolding read_on
      read-zero l z = q ∙ rw (drop-cons s i 0 h, z) (simp (read_on, ← e, lt-ltb _ _ l))

      pub read-long : d < 10 → 10 ^ 15 ≤ v → o ≡ None
      unfolding read_on
      read-long l g =
          q ∙ rw (drop-cons s i 0 h) (simp (read_on, ← e, lt-ltb _ _ l, lt-ltb 0 v (omega arith), le-ltb _ _ g))

      pub read-digit : d < 10 → (v ≡ 0 → ⊥) → v < 10 ^ 15 → o ≡ read_on (v * 10 + d) (drop (i + 1) s)
      unfolding read_on
      read-digit l p g =
          q
          ∙ rw (e, drop-cons s i 0 h, add-one i)
          (simp (read_on, lt-ltb _ _ (rw e at l), lt-ltb 0 v (omega arith), lt-ltb _ _ g))

-- what was read, as the answer
module _ (s : List ℕ) (at : ℕ) where
  pub found : (v i : ℕ) → i ≤ length s → number (drop at s) ≡ Some (v, drop i s) → Some (v, i) ≡ number_at s at
  unfolding number_at
  found v i h e = rw (e, length-drop) (ap (λ (j : ℕ). Some (v, j)) (omega arith))

  pub missing : number (drop at s) ≡ None → None ≡ number_at s at
  unfolding number_at
  missing e = rw e

-- the same after first digits v
module _ (s : List ℕ) (v at : ℕ) where
  pub found-on : (w i : ℕ) → i ≤ length s → read_on v (drop at s) ≡ Some (w, drop i s) → Some (w, i) ≡ number_on s v at
  unfolding number_on
  found-on w i h e = rw (e, length-drop) (ap (λ (j : ℕ). Some (w, j)) (omega arith))

  pub missing-on : read_on v (drop at s) ≡ None → None ≡ number_on s v at
  unfolding number_on
  missing-on e = rw e

  -- and the other way round: what is read after them is what is read in all
  pub on-from : (a : ℕ) (r : Option (ℕ × ℕ)) → number (drop a s) ≡ read_on v (drop at s) → r ≡ number_on s v at
      → r ≡ number_at s a
  unfolding number_on number_at
  on-from a r e q = q ∙ ap (number_of (length s)) (sym e)

  pub on-on : (w a : ℕ) (r : Option (ℕ × ℕ)) → read_on w (drop a s) ≡ read_on v (drop at s) → r ≡ number_on s v at
      → r ≡ number_on s w a
  unfolding number_on
  on-on w a r e q = q ∙ ap (number_of (length s)) (sym e)

-- a digit before the text s is read
number-cons : (d : ℕ) (s : List ℕ) → d < 10 → number ((48 + d) ∷ s) ≡ read_on d s
unfolding number
number-cons d s l = simp (number, digit_of_lem d l, lt-ltb _ _ l)

read-cons : (v d : ℕ) (s : List ℕ) → d < 10 → 0 < v → v < 10 ^ 15 → read_on v ((48 + d) ∷ s) ≡ read_on (v * 10 + d) s
unfolding read_on
read-cons v d s l p g = simp (read_on, digit_of_lem d l, lt-ltb _ _ l, lt-ltb _ _ p, lt-ltb _ _ g)

read-ended : (n : ℕ) (s : List ℕ) → Ended s → read_on n s ≡ Some (n, s)
unfolding read_on
read-ended n [] h = refl
read-ended n (b ∷ s) h = simp (read_on, le-ltb _ _ h)

read-on : (n : ℕ) (s : List ℕ) → n < 10 ^ 16 → number (printed n s) ≡ read_on n s
read-on =
    by_digits (λ n. (s : List ℕ) → n < 10 ^ 16 → number (printed n s) ≡ read_on n s)
    (λ n l s g. simp (printed-one n s l, number-cons n s l))
    (λ n l ih s g. simp (printed-more n s l)
    (ih _ (omega arith)
    ∙ read-cons (n / 10) (n % 10) s (omega arith) (omega arith) (omega arith)
    ∙ ap (λ (m : ℕ). read_on m s) (omega arith)))

-- a printed number is read back, with what stands after it
pub number-printed : (n : ℕ) (s : List ℕ) → n < 10 ^ 16 → Ended s → number (printed n s) ≡ Some (n, s)
number-printed n s l h = read-on n s l ∙ read-ended n s h

-- what is read of the text x, if anything, prints as x
abbrev Prints : List ℕ → Option (ℕ × List ℕ) → Type 0
Prints x None = Unit {0}
Prints x (Some p) = (x ≡ printed p.0 p.1) × (p.0 < 10 ^ 16) × Ended p.1

printed-cons : (v b : ℕ) (s : List ℕ) → 0 < v → digit_of b < 10 → printed (v * 10 + digit_of b) s ≡ printed v (b ∷ s)
printed-cons v b s p d = printed-more (v * 10 + digit_of b) s (omega arith) ∙ rw (quotient, last)
  where
    quotient : (v * 10 + digit_of b) / 10 ≡ v
    quotient = omega arith

    last : 48 + (v * 10 + digit_of b) % 10 ≡ b
    last = omega (arith, of_digit b d)

read-prints : (s : List ℕ) (v : ℕ) → v < 10 ^ 16 → Prints (printed v s) (read_on v s)
unfolding read_on
read-prints [] v l = (refl, l, tt)
read-prints (b ∷ s) v l =
    by-lt (digit_of b) 10
    (λ d. by-lt 0 v
    (λ p. by-lt v (10 ^ 15)
    (λ g. simp (read_on, lt-ltb _ _ d, lt-ltb _ _ p, lt-ltb _ _ g)
    (rw (printed-cons v b s p d) at (read-prints s (v * 10 + digit_of b) (omega arith))))
    (λ g. simp (read_on, lt-ltb _ _ d, lt-ltb _ _ p, le-ltb _ _ g) tt))
    (λ p. simp (read_on, lt-ltb _ _ d, le-ltb _ _ p) tt))
    (λ d. simp (read_on, le-ltb _ _ d) (refl, l, d))

number-prints : (s : List ℕ) → Prints s (number s)
unfolding number
number-prints [] = tt
number-prints (b ∷ s) =
    by-lt (digit_of b) 10
    (λ d. simp (number, lt-ltb _ _ d)
    (rw (printed-one (digit_of b) s d, of_digit b d) at (read-prints s (digit_of b) (omega arith))))
    (λ d. simp (number, le-ltb _ _ d) tt)

-- a number that is read prints as it stood
pub number_read : (s : List ℕ) (n : ℕ) (t : List ℕ) → number s ≡ Some (n, t)
    → (s ≡ printed n t) × (n < 10 ^ 16) × Ended t
number_read s n t e = rw e at (number-prints s)
