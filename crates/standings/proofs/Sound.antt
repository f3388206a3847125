-- What a standing that passes tells of its tiers.
-- Assumes nothing.
use mathlib.Core.Path.{◌≡◌}
use mathlib.Core.Bool.{true, ◌&&◌}
use Prim.Native.Nat.{◌≤◌}
use borrow.Author.Tests.{leb-true}
use lib.Dec.{leb}
use Rattle.lists.proofs.Chains.{both}
use Rattle.programme.specs.Contract.{Contracts}
use Rattle.year.specs.declared.Standing.{Standing}
use Rattle.year.specs.Standing.{tier_passes, standing_passes}

-- a standing that passes has tiers that pass, and a day of the year
pub standing-tests : (c : Contracts) (s : Standing) → standing_passes c s ≡ true
    → (tier_passes c.risk s.risk s.risk_timed ≡ true)
    × (tier_passes c.cat s.cat s.cat_timed ≡ true) × (s.day ≤ 366)
unfolding standing_passes
standing-tests c s e =
    let risk = tier_passes c.risk s.risk s.risk_timed in
    let cat = tier_passes c.cat s.cat s.cat_timed in
    let f = both risk (cat && leb s.day 366) e in
    let g = both cat (leb s.day 366) f.1 in
    (f.0, g.0, leb-true _ _ g.1)
