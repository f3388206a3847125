-- Document 01, Money and rounding, and document 02, Q-8: "the nearest cent, halves up. Every division in treaties,
-- layers (timed premium too) and panels changes to that"; as before, after the whole product has been formed.
-- Assumes nothing.
use Rattle.std.specs.Prelude.{ℕ, ◌+◌, ◌*◌, ◌/◌}

-- n / d to the nearest whole cent, halves up: the whole cents of n / d + 1 / 2
unfoldable pub rounded : ℕ → ℕ → ℕ
rounded n d = (2 * n + d) / (2 * d)
