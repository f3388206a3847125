-- A difference of two numbers by its lower word.
-- Assumes nothing.
use Rattle.std.proofs.Common.{◌≡◌, ℕ, ◌+◌, ◌%◌, ◌^◌, ◌<◌, ◌≤◌, arith}

-- a difference of less than a word is known by its lower word
pub same_word : (x y r : ℕ) → y ≤ x → x < y + 2 ^ 64 → r < 2 ^ 64 → (r + y) % 2 ^ 64 ≡ x % 2 ^ 64 → x ≡ y + r
same_word x y r hy hx hr e = omega arith
