-- How long a printed number and a printed template are: at least, at most, and exactly, by counting digits.
-- Assumes nothing.
use Rattle.std.proofs.Common.{◌≡◌, ℕ, zero, suc, ◌+◌, ◌*◌, ◌/◌, ◌%◌, ◌^◌, ◌<◌, ◌≤◌, List, [], ◌∷◌, length, get_or, drop, refl, ap, ◌∙◌, div-lt_iff_lt-mul, pow-suc, le-div_iff_mul-le, add-one, arith, lit<, length-append, drop_of_length-le, drop-cons}
use native.Mathlib.Nat.{div-div-eq-div-mul}
use Rattle.lists.specs.Each.{Each}
use Rattle.lists.proofs.Cases.{by-lt, by_test}
use Rattle.text.specs.Number.{printed, digits, digits_in}
use Rattle.text.specs.Template.{capital, holes, filled}
use Rattle.text.proofs.Digits.{Readable}
use Rattle.text.proofs.Printing.{by_digits, printed-one, printed-more, printed-append}
use Rattle.text.proofs.Templates.{holes-number, holes-byte}

-- a number is printed with a digit or more
printed-long : (n : ℕ) (s : List ℕ) → suc (length s) ≤ length (printed n s)
printed-long =
    by_digits (λ n. (s : List ℕ) → suc (length s) ≤ length (printed n s))
    (λ n l s. rw (printed-one n s l) (omega arith))
    (λ n l ih s. rw (printed-more n s l) (omega (arith, ih ((48 + n % 10) ∷ s))))

-- a template takes a byte or more for each of its own
pub filled-long : (t ns s : List ℕ) → length t + length s ≤ length (filled t ns s)
unfolding filled
filled-long [] ns s = omega arith
filled-long (b ∷ t) ns s =
    by_test (capital b)
    (λ e.
    let digits = printed-long (get_or ns 0 0) (filled t (drop 1 ns) s) in
    simp (filled, ← e) (omega (arith, filled-long t (drop 1 ns) s, digits)))
    (λ e. simp (filled, ← e) (omega (arith, filled-long t ns s)))

printed-length : (n : ℕ) (s : List ℕ) → length (printed n s) ≡ length (digits n) + length s
printed-length n s = rw (printed-append n [] s) (length-append (digits n) s)

-- one digit, and one digit more
pub length-one : (n : ℕ) → n < 10 → length (digits n) ≡ 1
length-one n h = rw (printed-one n [] h)

length_more : (n : ℕ) → 10 ≤ n → length (digits n) ≡ length (digits (n / 10)) + 1
length_more n h = rw (printed-more n [] h) (printed-length (n / 10) ((48 + n % 10) ∷ []))

-- a number below 10 ^ (k + 1) has at most k + 1 digits
pub digits-length : (k n : ℕ) → n < 10 ^ suc k → length (digits n) ≤ suc k
digits-length zero n h = omega (arith, length-one n h)
digits-length (suc k) n h =
    let tenth : n / 10 < 10 ^ suc k = (div-lt_iff_lt-mul (lit< tt)).1 (rw pow-suc at h) in
    by-lt n 10
    (λ l. omega (arith, length-one n l))
    (λ l. omega (arith, length_more n l, digits-length k (n / 10) tenth))

ten_least : (k : ℕ) → 10 ≤ 10 ^ suc k
ten_least zero = omega arith
ten_least (suc k) = omega (arith, pow-suc 10 (suc k), ten_least k)

-- one of 10 ^ k or more has k digits besides those of what is left without them
pub digits_besides : (k n : ℕ) → 10 ^ k ≤ n → length (digits n) ≡ k + length (digits (n / 10 ^ k))
digits_besides zero n h = let e : n / 10 ^ 0 ≡ n = omega arith in rw e (omega arith)
digits_besides (suc k) n h =
    let tenth : 10 ^ k ≤ n / 10 = (le-div_iff_mul-le (lit< tt)).1 (rw pow-suc at h) in
    let ten : 10 ≤ n = omega (arith, ten_least k) in
    let power : 10 * 10 ^ k ≡ 10 ^ suc k = omega (arith, pow-suc 10 k) in
    let rest : n / 10 / 10 ^ k ≡ n / 10 ^ suc k = div-div-eq-div-mul n 10 (10 ^ k) ∙ ap (λ (m : ℕ). n / m) power in
    rw (← rest) (omega (arith, length_more n ten, digits_besides k (n / 10) tenth))

-- one between has k + 1, here at most m
pub digits-many : (k m n : ℕ) → k < m → 10 ^ k ≤ n → n < 10 ^ suc k → (suc k ≡ length (digits n)) × (suc k ≤ m)
digits-many k m n h l g =
    (omega (arith, digits_besides k n l, digits-length k n g, printed-long (n / 10 ^ k) []), h)

-- of numbers with at most sixteen digits, one that is missing is printed as 0
first-sixteen : (ns : List ℕ) → Each Readable ns → length (digits (get_or ns 0 0)) ≤ 16
first-sixteen [] z = digits-length 15 0 (omega arith)
first-sixteen (n ∷ ns) z = digits-length 15 n z.0

rest-sixteen : (ns : List ℕ) → Each Readable ns → Each Readable (drop 1 ns)
rest-sixteen [] z = z
rest-sixteen (n ∷ ns) z = z.1

-- a template printed with such numbers: a number takes at most fifteen bytes more than its capital
pub filled-length : (t ns : List ℕ) → Each Readable ns → length (filled t ns []) ≤ length t + 15 * holes t
unfolding filled
filled-length [] ns z = omega arith
filled-length (b ∷ t) ns z =
    let more = printed-length (get_or ns 0 0) (filled t (drop 1 ns) []) in
    let rest = filled-length t (drop 1 ns) (rest-sixteen ns z) in
    by_test (capital b)
    (λ e. simp (filled, ← e) (omega (arith, more, first-sixteen ns z, rest, holes-number b t e)))
    (λ e. simp (filled, ← e) (omega (arith, filled-length t ns z, holes-byte b t e)))

no_holes : holes [] ≡ 0
unfolding holes
no_holes = refl

-- how long a template is that is printed with as many numbers as it has
pub filled-size : (t ns : List ℕ) → length ns ≡ holes t → length (filled t ns []) + length ns ≡ length t + digits_in ns
unfolding filled
filled-size [] [] h = refl
filled-size [] (n ∷ ns) h = absurd (omega (arith, no_holes))
filled-size (b ∷ t) [] h =
    by_test (capital b)
    (λ e. absurd (omega (arith, holes-number b t e)))
    (λ e. simp (filled, ← e) (omega (arith, filled-size t [] (h ∙ holes-byte b t e))))
filled-size (b ∷ t) (n ∷ ns) h =
    let more = printed-length n (filled t ns []) in
    by_test (capital b)
    (λ e. simp (filled, ← e) (omega (arith, more, filled-size t ns (omega (arith, holes-number b t e)))))
    (λ e. simp (filled, ← e) (omega (arith, filled-size t (n ∷ ns) (h ∙ holes-byte b t e))))

-- The digits of the numbers ns are counted: the first i have `sum`.
pub record Counting (ns : List ℕ) (sum i : ℕ) : Type 0 where
  pub within : i ≤ length ns
  pub short : sum ≤ 20 * i
  pub left : sum + digits_in (drop i ns) ≡ digits_in ns

pub none-counted : (ns : List ℕ) → Counting ns 0 0
none-counted ns = record { within = omega arith; short = omega arith; left = omega arith }

module _ (ns : List ℕ) (sum i : ℕ) (g : Counting ns sum i) where
  pub one-counted : i < length ns → (r : ℕ) → r ≡ length (digits (get_or ns i 0)) → r ≤ 20
      → Counting ns (sum + r) (i + 1)
  one-counted h r e k = record {
    within = omega arith;
    short = omega (arith, g.short);
    left =
        let next : digits_in (drop i ns) ≡ r + digits_in (drop (i + 1) ns) = rw (drop-cons ns i 0 h, add-one i, e) in
        omega (arith, g.left, next);
  }

  pub all-counted : length ns ≤ i → sum ≡ digits_in ns
  all-counted h =
      let none : digits_in (drop i ns) ≡ 0 = rw (drop_of_length-le ns h) in
      omega (arith, g.left, none)
