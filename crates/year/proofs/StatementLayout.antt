-- Statements printed by hand: one with a line of every kind, and one of no contracts and no events.
-- Assumes nothing.
use mathlib.Core.Path.{◌≡◌, refl}
use mathlib.Core.List.{List, [], ◌∷◌, map}
use Prim.Native.String.{String}
use Rattle.text.specs.Bytes.{bytes}
use Rattle.text.specs.Number.{printed_by, printed}
use Rattle.text.specs.Template.{capital, filled}
use Rattle.text.specs.Lines.{joined}
use Rattle.year.specs.Statement.{Statement, statement_of, statement_text}

-- a statement whose numbers all differ, each for itself: the totals are no sums
abbrev every-kind : Statement
every-kind = record {
  events =
      record {
        day = 3;
        amounts = record { gross = 90; ceded = 21; risk = 32; cat = 4; net = 33; premium = 5 };
      }
      ∷ record {
        day = 366;
        amounts = record {
          gross = 10000000000000;
          ceded = 0;
          risk = 123456789;
          cat = 1002003;
          net = 987654;
          premium = 70;
        };
      } ∷ [];
  treaties = record { number = 7; ceded = 345 } ∷ record { number = 8; ceded = 6789 } ∷ [];
  layers = record {
    risk = record { deductible = 1000000000000000; cover = 210000000000000; recovered = 12; premium = 13 } ∷ [];
    cat =
        record { deductible = 14; cover = 15; recovered = 16; premium = 17 }
        ∷ record { deductible = 18; cover = 19; recovered = 20; premium = 40000000000000 } ∷ [];
  };
  total = record {
    gross = 10000000090;
    ceded = 22;
    risk = 123456821;
    cat = 1002007;
    net = 18446744073709551616;
    premium = 75;
  };
}

abbrev every-kind-lines : List String
every-kind-lines =
    "(event 3 (gross 90) (ceded 21) (risk 32) (cat 4) (net 33) (premium 5))"
    ∷ "(event 366 (gross 10000000000000) (ceded 0) (risk 123456789) (cat 1002003) (net 987654) (premium 70))"
    ∷ "(treaty 7 (ceded 345))"
    ∷ "(treaty 8 (ceded 6789))"
    ∷ "(layer risk 1 (deductible 1000000000000000) (cover 210000000000000) (recovered 12) (premium 13))"
    ∷ "(layer cat 1 (deductible 14) (cover 15) (recovered 16) (premium 17))"
    ∷ "(layer cat 2 (deductible 18) (cover 19) (recovered 20) (premium 40000000000000))"
    ∷ "(total (gross 10000000090) (ceded 22) (risk 123456821) (cat 1002007) (net 18446744073709551616) (premium 75))"
    ∷ []

-- the bytes of both
pub record Layout : Type 0 where
  pub every-line : statement_text every-kind ≡ joined (map bytes every-kind-lines)
  -- no contracts and no events: the totals alone
  pub nothing : statement_text (statement_of [] [] (record { risk = []; cat = [] }) [])
      ≡ bytes "(total (gross 0) (ceded 0) (risk 0) (cat 0) (net 0) (premium 0))\n"

pub layout : Layout
unfolding printed_by printed capital filled statement_text
layout = record { every-line = refl; nothing = refl }
