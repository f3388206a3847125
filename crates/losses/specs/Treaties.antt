-- Document 01, Proportional treaties: "A loss has a treaty number (0: none)". A table's treaties by their numbers: in
-- place T, from 0 to 8, treaty T, and one that cedes nothing where the table has none.
-- Assumes nothing.
use Rattle.std.specs.Prelude.{true, cond, ◌≡◌, List, [], ◌∷◌, map, ℕ, eqb, length}
use Rattle.lists.specs.Chains.{chained}
use Rattle.treaty.specs.declared.Treaty.{Treaty}
use Rattle.programme.specs.Contract.{no_treaty}
use Rattle.programme.specs.Rules.{treaty_number}
use Rattle.programme.specs.Valid.{treaty_passes}

-- the numbers that a loss may have
abbrev pub each_number : List ℕ
each_number = 0 ∷ 1 ∷ 2 ∷ 3 ∷ 4 ∷ 5 ∷ 6 ∷ 7 ∷ 8 ∷ []

-- the treaty with the number n, or the one that cedes nothing
abbrev pub with_number : List Treaty → ℕ → Treaty
with_number [] n = no_treaty
with_number (t ∷ ts) n = cond (eqb n t.number) t (with_number ts n)

-- by number, from 0 to 8
abbrev pub numbered : List Treaty → List Treaty
numbered ts = map (with_number ts) each_number

-- those that have a number
abbrev pub present : List Treaty → List Treaty
present [] = []
present (t ∷ ts) = cond (eqb t.number 0) (present ts) (t ∷ present ts)

-- the table's treaties: their numbers rise, so that this is their order in it
unfoldable pub treaties_from : List Treaty → List Treaty
treaties_from ps = present ps

-- places that hold a table's treaties by their numbers
pub record Registered (ps : List Treaty) : Type 0 where
  pub size : length ps ≡ 9
  pub places : ps ≡ numbered (treaties_from ps)
  pub passes : chained treaty_passes treaty_number 0 (treaties_from ps) ≡ true
