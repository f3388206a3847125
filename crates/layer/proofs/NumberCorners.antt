-- Figures of a line's terms: the rates in twenty places.
-- Assumes nothing.
use mathlib.Core.Path.{◌≡◌, refl}
use mathlib.Core.List.{List, [], ◌∷◌, ◌++◌}
use Prim.Native.Nat.{ℕ}
use Rattle.layer.specs.Layer.{rate_places, terms_of}

-- twenty rates, all different
abbrev twenty : List ℕ
twenty =
    18 ∷ 19 ∷ 20 ∷ 21 ∷ 22 ∷ 23 ∷ 24 ∷ 25 ∷ 26 ∷ 27 ∷ 28 ∷ 29 ∷ 30 ∷ 31 ∷ 32 ∷ 33 ∷ 34 ∷ 35 ∷ 36 ∷ 37 ∷ []

pub record NumberCorners : Type 0 where
  -- no rate, two, twenty, and one more than there are places
  pub no-rates : rate_places [] ≡ 0 ∷ 0 ∷ 0 ∷ 0 ∷ 0 ∷ 0 ∷ 0 ∷ 0 ∷ 0 ∷ 0 ∷ 0 ∷ 0 ∷ 0 ∷ 0 ∷ 0 ∷ 0 ∷ 0 ∷ 0 ∷ 0 ∷ 0 ∷ []
  pub two-rates : rate_places (5 ∷ 7 ∷ [])
      ≡ 5 ∷ 7 ∷ 0 ∷ 0 ∷ 0 ∷ 0 ∷ 0 ∷ 0 ∷ 0 ∷ 0 ∷ 0 ∷ 0 ∷ 0 ∷ 0 ∷ 0 ∷ 0 ∷ 0 ∷ 0 ∷ 0 ∷ 0 ∷ []
  pub twenty-rates : rate_places twenty ≡ twenty
  pub one_too_many : rate_places (twenty ++ (99 ∷ [])) ≡ twenty
  -- a line's terms, K 2: two rates and eighteen unused
  pub of_a_line : terms_of 1 2 3 2 5 (7 ∷ 8 ∷ []) 6 9 ≡ record {
    attachment = 1;
    limit = 2;
    deductible = 3;
    reinstatements = 2;
    premium = 5;
    placed = 6;
    rates = 7 ∷ 8 ∷ 0 ∷ 0 ∷ 0 ∷ 0 ∷ 0 ∷ 0 ∷ 0 ∷ 0 ∷ 0 ∷ 0 ∷ 0 ∷ 0 ∷ 0 ∷ 0 ∷ 0 ∷ 0 ∷ 0 ∷ 0 ∷ [];
    time = 9;
  }

pub number-corners : NumberCorners
number-corners = record {
  no-rates = refl;
  two-rates = refl;
  twenty-rates = refl;
  one_too_many = refl;
  of_a_line = refl;
}
