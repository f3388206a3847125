-- Document 02, Q-4: "The shares are a built-in table of 366 entries: for day D, 10,000 × (366 − D) / 365, rounded
-- down."; and Q-12: "A client charges by a short-period scale of its own instead of our 366 shares."
-- Assumes nothing.
use Rattle.std.specs.Prelude.{Bool, ◌&&◌, List, [], ◌∷◌, map, ℕ, zero, suc, ◌-◌, ◌*◌, ◌/◌, ◌≤◌, eqb, leb, length, get_or}
use Rattle.lists.specs.Each.{Each}
use Rattle.lists.specs.Chains.{chained, every}

-- "for day D, 10,000 × (366 − D) / 365, rounded down"
unfoldable pub day_share : ℕ → ℕ
day_share d = 10000 * (366 - d) / 365

-- n days from day d on
abbrev pub days_from : (d n : ℕ) → List ℕ
days_from d zero = []
days_from d (suc n) = d ∷ days_from (suc d) n

-- the built-in table: the shares of the days 1 to 366
unfoldable pub time_shares : List ℕ
time_shares = map day_share (days_from 1 366)

-- "the day's time share", in any table of shares whose first is that of day 1
abbrev pub share_on : (shares : List ℕ) (day : ℕ) → ℕ
share_on shares d = get_or shares (d - 1) 0

-- shares of which none is above the whole
abbrev pub Fair : List ℕ → Type 0
Fair shares = Each (λ (s : ℕ). s ≤ 10000) shares

-- the same as a test
abbrev pub none_over : List ℕ → Bool
none_over shares = every (λ (s : ℕ). leb s 10000) shares

-- "never rising": a share after the one before it
abbrev pub not_above : (before s : ℕ) → Bool
not_above before s = leb s before

-- shares that never rise, the first of them after `before`
abbrev pub never_rising : (before : ℕ) → List ℕ → Bool
never_rising before shares = chained not_above (λ (s : ℕ). s) before shares

-- Q-12, "366 lines .., S 0 to 10,000 and never rising": the shares that some scale text reads to
unfoldable pub scale_passes : List ℕ → Bool
scale_passes shares = eqb (length shares) 366 && never_rising 10000 shares
