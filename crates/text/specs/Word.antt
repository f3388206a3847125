-- Eight bytes as one word, the first byte lowest.
-- Assumes nothing.
use Rattle.std.specs.Prelude.{◌≡◌, ℕ, zero, suc, ◌+◌, ◌*◌, ◌/◌, ◌%◌, ◌^◌, ◌<◌, ◌≤◌, true, false, List, length, nat_lt, slice_index}
use Rattle.text.specs.Number.{digit_of}
use Rattle.text.specs.declared.word.Digits.{Digits}

-- the byte at a place of a word
abbrev pub byte_of : ℕ → ℕ → ℕ
byte_of w k = w / 2 ^ (8 * k) % 2 ^ 8

-- the number in base 10 of n figures, the first highest
unfoldable pub figures : (ℕ → ℕ) → (n : ℕ) → ℕ
figures d zero = 0
figures d (suc n) = figures d n * 10 + d n

-- r is n bytes of the text s from the place at on
pub record BytesAt (s : List ℕ) (at n r : ℕ) : Type 0 where
  pub fits : r < 2 ^ (8 * n)
  pub each : (k : ℕ) → k < n → byte_of r k ≡ slice_index s (at + k)

-- the bytes of t below 10 are the values of the digits that stand there in the text s from the place at on, and the
-- others stand for no digits
pub record Lowered (s : List ℕ) (at t : ℕ) : Type 0 where
  pub digit : (k : ℕ) → k < 8 → byte_of t k < 10 → byte_of t k ≡ digit_of (slice_index s (at + k))
  pub other : (k : ℕ) → k < 8 → 10 ≤ byte_of t k → 10 ≤ digit_of (slice_index s (at + k))

-- the mark of a byte: 0 below 10, 128 for any other
unfoldable pub mark_of : ℕ → ℕ
mark_of b = elim (nat_lt b 10) [ true ↦ 0 | false ↦ 128 ]

-- r has the mark of each byte of t
pub record Marked (t r : ℕ) : Type 0 where
  pub each : (k : ℕ) → k < 8 → byte_of r k ≡ mark_of (byte_of t k)

-- the first n bytes of t are below 10
pub record Figures (t n : ℕ) : Type 0 where
  pub each : (k : ℕ) → k < n → byte_of t k < 10

-- r is how many bytes below 10 the eight bytes of t begin with
pub record Leading (t r : ℕ) : Type 0 where
  pub within : r ≤ 8
  pub figures : Figures t r
  pub end : r < 8 → 10 ≤ byte_of t r

-- r has eight bytes for those of the text s from the place at on, lowered, and how many digits these begin with
pub record DigitsAt (s : List ℕ) (at : ℕ) (r : Digits) : Type 0 where
  pub room : at + 8 ≤ length s
  pub bytes : Lowered s at r.word
  pub leading : Leading r.word r.count
