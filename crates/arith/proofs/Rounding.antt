-- The base laws of `rounded`: the only ones that look into its definition.
-- Assumes nothing.
use Rattle.std.proofs.Common.{◌≡◌, ℕ, ◌+◌, ◌*◌, ◌/◌, ◌<◌, ◌≤◌, sym, le_trans, le-div_iff_mul-le, div-mul-le_self, arith}
use native.Mathlib.Nat.{lt-div-mul-add, div-eq_of_lt-le}
use Rattle.arith.specs.Round.{rounded}

-- what n / d is rounded to is at most half a cent more, and less than half a cent less
pub rounded-low : (n d : ℕ) → 2 * (rounded n d * d) ≤ 2 * n + d
unfolding rounded
rounded-low n d = omega (arith, div-mul-le_self (2 * n + d) (2 * d))

pub rounded-high : (n : ℕ) {d : ℕ} → 0 < d → 2 * n < 2 * (rounded n d * d) + d
unfolding rounded
rounded-high n {d} hd = omega (arith, lt-div-mul-add {a = 2 * n + d} {b = 2 * d} (omega arith))

-- and no other number of cents is
pub rounded-is : (n q d : ℕ) → 2 * (q * d) ≤ 2 * n + d → 2 * n < 2 * (q * d) + d → q ≡ rounded n d
unfolding rounded
rounded-is n q d low high = sym (div-eq_of_lt-le (2 * d) (omega arith) (omega arith))

-- as when half the divisor is added before the division
pub half-added : (n : ℕ) {d : ℕ} → 0 < d → (n + d / 2) / d ≡ rounded n d
half-added n {d} hd =
    let q = (n + d / 2) / d in
    let low : q * d ≤ n + d / 2 = div-mul-le_self (n + d / 2) d in
    let high : n + d / 2 < q * d + d = lt-div-mul-add {a = n + d / 2} {b = d} hd in
    rounded-is n q d (omega (arith, low)) (omega (arith, high))

pub rounded-zero : {d : ℕ} → 0 < d → rounded 0 d ≡ 0
rounded-zero {d} hd = sym (rounded-is 0 0 d (omega arith) (omega arith))

-- a larger amount is not rounded to less
pub rounded_mono : {m n d : ℕ} → 0 < d → m ≤ n → rounded m d ≤ rounded n d
unfolding rounded
rounded_mono {m} {n} {d} hd h =
    let low = div-mul-le_self (2 * m + d) (2 * d) in
    (le-div_iff_mul-le {k = 2 * d} (omega arith)).1 (le_trans low (omega arith))

-- whole units go through
pub rounded_shift : (n g : ℕ) {d : ℕ} → 0 < d → rounded (n + g * d) d ≡ rounded n d + g
rounded_shift n g {d} hd =
    let low = rounded-low n d in
    let high = rounded-high n hd in
    sym (rounded-is (n + g * d) (rounded n d + g) d (omega (arith, low)) (omega (arith, high)))
