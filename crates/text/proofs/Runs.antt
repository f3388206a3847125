-- Laws of a number that is read by the word: up to eight digits at once.
-- Assumes nothing.
use Rattle.std.specs.Prelude.{Option, Some, None}
use Rattle.std.proofs.Common.{◌≡◌, ℕ, zero, suc, ◌+◌, ◌-◌, ◌*◌, ◌%◌, ◌^◌, ◌<◌, ◌≤◌, List, length, get_or, drop, sym, refl, ap, ◌∙◌, subst, ap₂, add-zero, mul_assoc, mul-le-mul, mul-le-mul_left, pow-suc, mul-one, arith, lit<, lit≤}
use native.Mathlib.Nat.{pow-le-pow_right}
use Rattle.lists.proofs.Cases.{by-lt}
use Rattle.text.specs.Number.{digit_of, read_on, number, number_at, number_on}
use Rattle.text.specs.Word.{byte_of, figures, Figures, DigitsAt}
use Rattle.text.specs.declared.word.Digits.{Digits}
use Rattle.text.proofs.Digits as law
use Rattle.text.proofs.Eights.{figures-lt}

-- a power of 10 by its exponent
pub tens : (n z : ℕ) → n ≤ 8 → z ≡ n → (10 ^ n ≡ 10 ^ z) × (10 ^ n ≤ 10 ^ 8)
tens n z l e = (ap (λ (k : ℕ). 10 ^ k) (sym e), pow-le-pow_right (lit< tt) l)

-- a value of eight digits times it, and eight digits more, fit a machine word
module _ (v k : ℕ) (l : v < 10 ^ 8) (g : k ≤ 10 ^ 8) where
  product_le : v * k ≤ 10 ^ 8 * 10 ^ 8
  product_le = mul-le-mul {n₁ = v} {m₁ = k} {n₂ = 10 ^ 8} {m₂ = 10 ^ 8} (omega arith) g

  pub product-fits : v * k < 2 ^ 64
  product-fits = omega (arith, product_le)

  pub sum_fits : (m : ℕ) → m < 10 ^ 8 → v * k + m < 2 ^ 64
  sum_fits m h = omega (arith, product_le)

pow-le : (m n : ℕ) → m ≤ n → 10 ^ m ≤ 10 ^ n
pow-le m n l = pow-le-pow_right (lit< tt) l

-- figures after a first one that is not 0 are no leading zeros
figures_pos : (d : ℕ → ℕ) (n : ℕ) → 0 < d 0 → 0 < figures d (suc n)
unfolding figures
figures_pos d zero p = omega arith
figures_pos d (suc n) p = omega (arith, figures_pos d n p)

next : (at n : ℕ) (s : List ℕ) → drop (at + n + 1) s ≡ drop (at + suc n) s
next at n s = ap (λ (k : ℕ). drop k s) (let e : at + n + 1 ≡ at + suc n = omega arith in e)

-- no digit follows the digits of v
pub no_more : (s : List ℕ) (v at d : ℕ) → at < length s → d ≡ digit_of (get_or s at 0) → 10 ≤ d
    → Some (v, at) ≡ number_on s v at
no_more s v at d h e l =
    law.found-on s v at v at (omega arith) (law.read-other s at v (read_on v (drop at s)) refl d h e l)

-- r has the digits of the text s at a place
module _ (s : List ℕ) (at : ℕ) (r : Digits) (w : DigitsAt s at r) where
  abbrev byte : ℕ → ℕ
  byte = byte_of r.word

  fewer : (m n : ℕ) → m ≤ n → Figures r.word n → (k : ℕ) → k < m → byte k < 10
  fewer m n l z k g = z.each k (omega arith)

  digit_at : (k : ℕ) → k < 8 → byte k < 10 → byte k ≡ digit_of (get_or s (at + k) 0)
  digit_at = w.bytes.digit

  -- the first digit
  number-one : byte 0 < 10 → number (drop at s) ≡ read_on (byte 0) (drop (at + 1) s)
  number-one l =
      law.number-digit s at (byte 0) (omega (arith, w.room))
      (digit_at 0 (lit< tt) l ∙ ap (λ (k : ℕ). digit_of (get_or s k 0)) (add-zero at))
      l

  -- and those after it
  number-run : (n : ℕ) → n < 8 → Figures r.word (suc n) → 0 < byte 0
      → number (drop at s) ≡ read_on (figures byte (suc n)) (drop (at + suc n) s)
  unfolding figures
  number-run zero l z p =
      let e : byte 0 ≡ 0 * 10 + byte 0 = omega arith in
      number-one (z.each 0 (lit< tt)) ∙ ap (λ (v : ℕ). read_on v (drop (at + 1) s)) e
  number-run (suc n) l z p =
      law.read-digit s (at + suc n) (figures byte (suc n)) (number (drop at s))
      (number-run n (omega arith) (record { each = fewer (suc n) (suc (suc n)) (omega arith) z }) p)
      (byte (suc n)) (omega (arith, w.room)) (digit_at (suc n) l small) small
      (λ e. omega (arith, figures_pos byte n p)) below
      ∙ ap (read_on (figures byte (suc n) * 10 + byte (suc n))) (next at (suc n) s)
    where
      small : byte (suc n) < 10
      small = z.each (suc n) (omega arith)

      below : figures byte (suc n) < 10 ^ 15
      below = omega (
        arith,
        figures-lt byte (suc n) (fewer (suc n) (suc (suc n)) (omega arith) z),
        pow-le (suc n) 8 (omega arith),
      )

  -- digits after the digits of v
  read-run : (v : ℕ) → 0 < v → v < 10 ^ 8 → (n : ℕ) → n ≤ 8 → Figures r.word n
      → read_on v (drop at s) ≡ read_on (v * 10 ^ n + figures byte n) (drop (at + n) s)
  unfolding figures
  read-run v p q zero l z =
      let e : v ≡ v * 10 ^ 0 + 0 = omega arith in
      ap₂ (λ (x i : ℕ). read_on x (drop i s)) e (sym (add-zero at))
  read-run v p q (suc n) l z =
      law.read-digit s (at + n) (v * 10 ^ n + figures byte n) (read_on v (drop at s))
      (read-run v p q n (omega arith) (record { each = fewer n (suc n) (omega arith) z }))
      (byte n) (omega (arith, w.room)) (digit_at n (omega arith) small) small positive below
      ∙ ap₂ (λ (x : ℕ) (y : List ℕ). read_on x y) sum (next at n s)
    where
      small : byte n < 10
      small = z.each n (omega arith)

      positive : v * 10 ^ n + figures byte n ≡ 0 → ⊥
      positive e = omega (arith, mul-le-mul_left v (pow-le 0 n (omega arith)), mul-one v)

      below : v * 10 ^ n + figures byte n < 10 ^ 15
      below = omega (
        arith,
        mul-le-mul_left v (pow-le n 7 (omega arith)),
        pow-le n 7 (omega arith),
        figures-lt byte n (fewer n (suc n) (omega arith) z),
      )

      sum : (v * 10 ^ n + figures byte n) * 10 + byte n ≡ v * 10 ^ suc n + (figures byte n * 10 + byte n)
      sum = omega (arith, ap (λ (x : ℕ). v * x) (pow-suc 10 n), mul_assoc v (10 ^ n) 10)

  abbrev count : ℕ
  count = r.count

  -- the byte after fewer than eight digits is no digit
  after : count < 8 → 10 ≤ digit_of (get_or s (at + count) 0)
  after l = w.bytes.other count l (w.leading.end l)

  ended : (v : ℕ) (o : Option (ℕ × List ℕ)) → count < 8 → o ≡ read_on v (drop (at + count) s)
      → o ≡ Some (v, drop (at + count) s)
  ended v o l q = law.read-other s (at + count) v o q _ (omega (arith, w.room)) refl (after l)

  pub all-eight : count ≡ 8 → Figures r.word 8
  all-eight e = subst (Figures r.word) e w.leading.figures

  pub no_number : count ≡ 0 → None ≡ number_at s at
  no_number e = law.missing s at (law.number-other s at _ (omega (arith, w.room)) refl other)
    where
      other : 10 ≤ digit_of (get_or s at 0)
      other =
          subst (λ (k : ℕ). 10 ≤ digit_of (get_or s k 0)) (ap (λ (k : ℕ). at + k) e ∙ add-zero at) (after (omega arith))

  -- a leading 0
  module _ (h : r.word % 256 ≡ 0) where
    zero-first : 0 < count → number (drop at s) ≡ read_on 0 (drop (at + 1) s)
    zero-first l =
        let e : byte 0 ≡ 0 = omega arith in
        number-one (w.leading.figures.each 0 l) ∙ ap (λ (v : ℕ). read_on v (drop (at + 1) s)) e

    pub zero-alone : count ≡ 1 → Some (0, at + 1) ≡ number_at s at
    zero-alone e =
        law.found s at 0 (at + 1) (omega (arith, w.room))
        (law.read-other s (at + 1) 0 (number (drop at s)) (zero-first (omega arith)) _ (omega (arith, w.room)) refl
        (subst (λ (k : ℕ). 10 ≤ digit_of (get_or s (at + k) 0)) e (after (omega arith))))

    pub zero_leads : (count ≡ 0 → ⊥) → (count ≡ 1 → ⊥) → None ≡ number_at s at
    zero_leads a b =
        law.missing s at
        (law.read-zero s (at + 1) 0 (number (drop at s)) (zero-first (omega arith)) (byte 1) (omega (arith, w.room))
        (digit_at 1 (lit< tt) small) small refl)
      where
        small : byte 1 < 10
        small = w.leading.figures.each 1 (omega arith)

  -- no leading 0
  module _ (h : r.word % 256 ≡ 0 → ⊥) (v : ℕ) where
    run : (m : ℕ) → count ≡ suc m → number (drop at s) ≡ read_on (figures byte count) (drop (at + count) s)
    run m e =
        subst (λ (k : ℕ). number (drop at s) ≡ read_on (figures byte k) (drop (at + k) s)) (sym e)
        (number-run m (omega (arith, w.leading.within)) (subst (Figures r.word) e w.leading.figures)
        (omega arith))

    pub value_pos : v ≡ figures byte 8 → 0 < v
    value_pos e = omega (arith, figures_pos byte 7 (omega arith))

    pub value-short : (count ≡ 0 → ⊥) → (count ≡ 8 → ⊥) → v ≡ figures byte count
        → Some (v, at + count) ≡ number_at s at
    value-short a b e =
        law.found s at v (at + count) (omega (arith, w.room, w.leading.within))
        (ended v (number (drop at s)) (omega (arith, w.leading.within))
        (run (count - 1) (omega arith) ∙ ap (λ (x : ℕ). read_on x (drop (at + count) s)) (sym e)))

    pub value-long : count ≡ 8 → v ≡ figures byte 8 → (a : Option (ℕ × ℕ)) → a ≡ number_on s v (at + 8) → a ≡ number_at s at
    value-long e f a =
        law.on-from s v (at + 8) at a
        (number-run 7 (lit< tt) (all-eight e) (omega arith) ∙ ap (λ (x : ℕ). read_on x (drop (at + 8) s)) (sym f))

  -- after the digits of a value, where a digit stands at the place
  module _ (v : ℕ) (p : 0 < v) (q : v < 10 ^ 8) (d : ℕ) (g : d ≡ digit_of (get_or s at 0)) (u : d < 10) where
    pub some_digits : 0 < count
    some_digits =
        by-lt 0 count (λ l. l)
        (λ l. absurd (omega (arith, other (let e : at + count ≡ at = omega arith in e) (after (omega arith)))))
      where
        other : at + count ≡ at → 10 ≤ digit_of (get_or s (at + count) 0) → 10 ≤ digit_of (get_or s at 0)
        other e h = rw e at h

    pub more-short : (f : ℕ) → (count ≡ 8 → ⊥) → (k : ℕ) → k ≡ 10 ^ count → f ≡ figures byte count
        → Some (v * k + f, at + count) ≡ number_on s v at
    more-short f b k e i =
        law.found-on s v at (v * k + f) (at + count) (omega (arith, w.room, w.leading.within))
        (ended (v * k + f) (read_on v (drop at s)) (omega (arith, w.leading.within))
        (read-run v p q count w.leading.within w.leading.figures
        ∙ ap₂ (λ (x y : ℕ). read_on (v * x + y) (drop (at + count) s)) (sym e) (sym i)))

    pub more-long : (f : ℕ) → count ≡ 8 → f ≡ figures byte 8 → (a : Option (ℕ × ℕ))
        → a ≡ number_on s (v * 100000000 + f) (at + 8) → a ≡ number_on s v at
    more-long f e i a =
        law.on-on s (v * 100000000 + f) (at + 8) v at a
        (read-run v p q 8 (lit≤ tt) (all-eight e)
        ∙ ap (λ (y : ℕ). read_on (v * 100000000 + y) (drop (at + 8) s)) (sym i))
