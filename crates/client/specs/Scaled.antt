-- Document 02, Q-12: a scale of the client's own in three steps, and what a year under it comes to, typed out. Table
-- and event are those of Q-4: the amount premium of the loss is 182,500. On day 184 the share is 6,667, and
-- 182,500 × 6,667 / 10,000 is 121,672.75, which rounds to 121,673. The days before have 10,000, those after 3,333.
-- Assumes nothing.
use Rattle.std.specs.Prelude.{List, [], ◌∷◌, ◌++◌, ℕ, replicate}
use Rattle.text.specs.Bytes.{bytes}
use Rattle.year.specs.declared.Standing.{Standing}
use Rattle.client.specs.Sidney.{zeros}

abbrev pub steps : List ℕ
steps = replicate 183 10000 ++ (6667 ∷ replicate 182 3333)

-- 365 shares: one too few
abbrev pub too_few_shares : List ℕ
too_few_shares = replicate 365 10000

-- a scale text whose second share rises
abbrev pub rising_text : List ℕ
rising_text = bytes "(day 1 9000)\n(day 2 9001)\n"

abbrev pub scaled_statement : List ℕ
scaled_statement =
    bytes "(event 184 (gross 500000) (ceded 0) (risk 0) (cat 500000) (net 0) (premium 121673))\n"
    ++ bytes "(layer cat 1 (deductible 0) (cover 1500000) (recovered 500000) (premium 121673))\n"
    ++ bytes "(total (gross 500000) (ceded 0) (risk 0) (cat 500000) (net 0) (premium 121673))\n"

-- the standing after the event
abbrev pub scaled_standing : Standing
scaled_standing = record {
  risk = zeros;
  cat = 500000 ∷ 0 ∷ 0 ∷ 0 ∷ 0 ∷ 0 ∷ 0 ∷ 0 ∷ [];
  day = 184;
  risk_timed = zeros;
  cat_timed = 121673 ∷ 0 ∷ 0 ∷ 0 ∷ 0 ∷ 0 ∷ 0 ∷ 0 ∷ [];
}
