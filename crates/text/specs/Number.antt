-- Document 01, The table text: "A number read is 1 to 16 digits, one printed has as many as it needs, neither with a
-- leading zero (0 itself is `0`)."
-- Assumes nothing.
use Rattle.std.specs.Prelude.{ℕ, zero, suc, ◌+◌, ◌-◌, ◌*◌, ◌/◌, ◌%◌, ◌^◌, true, false, ◌&&◌, List, [], ◌∷◌, length, drop, nat_le, nat_lt}
use Rattle.std.specs.Prelude.{Option, None, Some}
use Rattle.lists.specs.Sums.{sum_of}

-- n in base 10 before the bytes s, where n has at most k digits before its last one
unfoldable pub printed_by : ℕ → ℕ → List ℕ → List ℕ
printed_by zero n s = (48 + n) ∷ s
printed_by (suc k) n s = elim (nat_lt n 10) [ true ↦ (48 + n) ∷ s | false ↦ printed_by k (n / 10) ((48 + n % 10) ∷ s) ]

-- n in base 10 before the bytes s; it has at most n digits before its last one
unfoldable pub printed : ℕ → List ℕ → List ℕ
printed n s = printed_by n n s

abbrev pub digits : ℕ → List ℕ
digits n = printed n []

-- how many digits numbers have in all
abbrev pub digits_in : List ℕ → ℕ
digits_in ns = sum_of (λ (n : ℕ). length (digits n)) ns

-- the value of a digit's byte, 10 for any other byte
unfoldable pub digit_of : ℕ → ℕ
digit_of b = elim (nat_le 48 b && nat_le b 57) [ true ↦ b - 48 | false ↦ 10 ]

-- the number whose first digits are v, and what is left after it: no digit follows a leading 0, and none follows
-- sixteen digits
unfoldable pub read_on : ℕ → List ℕ → Option (ℕ × List ℕ)
read_on v [] = Some (v, [])
read_on v (b ∷ s) =
    elim (nat_lt (digit_of b) 10) [
      | true ↦ elim (nat_lt 0 v && nat_lt v (10 ^ 15)) [ true ↦ read_on (v * 10 + digit_of b) s | false ↦ None ]
      | false ↦ Some (v, b ∷ s)
    ]

-- the number at the front of a text, and what is left after it
unfoldable pub number : List ℕ → Option (ℕ × List ℕ)
number [] = None
number (b ∷ s) = elim (nat_lt (digit_of b) 10) [ true ↦ read_on (digit_of b) s | false ↦ None ]

-- what was read of a text of n bytes, with the place where what is left begins
abbrev pub number_of : ℕ → Option (ℕ × List ℕ) → Option (ℕ × ℕ)
number_of n None = None
number_of n (Some p) = Some (p.0, n - length p.1)

-- the number at a place of a text
unfoldable pub number_at : List ℕ → ℕ → Option (ℕ × ℕ)
number_at s at = number_of (length s) (number (drop at s))

-- the number whose first digits are v, and whose others stand from a place of a text on
unfoldable pub number_on : List ℕ → ℕ → ℕ → Option (ℕ × ℕ)
number_on s v at = number_of (length s) (read_on v (drop at s))
