-- Document 01, H1: its texts, its programme and its standing, typed out; and what is turned down.
-- Assumes nothing.
use Rattle.std.specs.Prelude.{List, [], ◌∷◌, ◌++◌, ℕ}
use Rattle.text.specs.Bytes.{bytes}
use Rattle.treaty.specs.declared.Treaty.{Treaty}
use Rattle.layer.specs.declared.terms.Terms.{Terms}
use Rattle.programme.specs.declared.contract.Treaties.{Treaties}
use Rattle.programme.specs.declared.contract.Layers.{Layers}
use Rattle.programme.specs.declared.contract.Programme.{Programme}
use Rattle.year.specs.declared.Standing.{Standing}

-- the table text
abbrev pub table_text_of : List ℕ
table_text_of =
    bytes "(cat (band 25000000 75000000) (deduct 75000000) (back 0 0) (placed 10000))\n"
    ++ bytes "(cat (band 100000000 150000000) (deduct 0) (back 1 75000000 5000) (placed 8000))\n"
    ++ bytes "(cat (band 250000000 150000000) (deduct 0) (back 1 30000000 10000) (placed 7200))\n"

-- the events text, and the statement that its run writes
abbrev pub events_text : List ℕ
events_text = bytes "(event 230 (loss 0 350000000 350000000))\n"

abbrev pub statement : List ℕ
statement =
    bytes "(event 230 (gross 350000000) (ceded 0) (risk 0) (cat 192000000) (net 158000000) (premium 44400000))\n"
    ++ bytes "(layer cat 1 (deductible 0) (cover 75000000) (recovered 0) (premium 0))\n"
    ++ bytes "(layer cat 2 (deductible 0) (cover 150000000) (recovered 120000000) (premium 30000000))\n"
    ++ bytes "(layer cat 3 (deductible 0) (cover 200000000) (recovered 72000000) (premium 14400000))\n"
    ++ bytes "(total (gross 350000000) (ceded 0) (risk 0) (cat 192000000) (net 158000000) (premium 44400000))\n"

-- another table text, with a share over the whole in the second line
abbrev pub over_the_whole : List ℕ
over_the_whole =
    bytes "(risk (band 1 1) (deduct 0) (back 0 0) (placed 10000))\n"
    ++ bytes "(cat (band 1 1) (deduct 0) (back 0 0) (placed 10001))\n"

-- an unused place holds 0 in each number
abbrev no_treaty : Treaty
no_treaty = record { kind = 0; number = 0; cede = 0; capacity = 0; retention = 0; lines = 0; limit = 0 }

-- twenty rates, of which the first alone is other than 0
abbrev pub first_rate : ℕ → List ℕ
first_rate q =
    q ∷ 0 ∷ 0 ∷ 0 ∷ 0 ∷ 0 ∷ 0 ∷ 0 ∷ 0 ∷ 0 ∷ 0 ∷ 0 ∷ 0 ∷ 0 ∷ 0 ∷ 0 ∷ 0 ∷ 0 ∷ 0 ∷ 0 ∷ []

abbrev pub no_layer : Terms
no_layer = record {
  attachment = 0;
  limit = 0;
  deductible = 0;
  reinstatements = 0;
  premium = 0;
  placed = 0;
  rates = first_rate 0;
  time = 0;
}

-- a kind without contracts, in its eight places
abbrev pub no_treaties : Treaties
no_treaties = record {
  places = no_treaty ∷ no_treaty ∷ no_treaty ∷ no_treaty ∷ no_treaty ∷ no_treaty ∷ no_treaty ∷ no_treaty ∷ [];
  count = 0;
}

abbrev pub no_layers : Layers
no_layers = record {
  places = no_layer ∷ no_layer ∷ no_layer ∷ no_layer ∷ no_layer ∷ no_layer ∷ no_layer ∷ no_layer ∷ [];
  count = 0;
}

-- the programme without contracts
abbrev pub no_programme : Programme
no_programme = record { treaties = no_treaties; risk = no_layers; cat = no_layers }

-- the three layers
abbrev first : Terms
first = record {
  attachment = 25000000;
  limit = 75000000;
  deductible = 75000000;
  reinstatements = 0;
  premium = 0;
  placed = 10000;
  rates = first_rate 0;
  time = 0;
}

abbrev second : Terms
second = record {
  attachment = 100000000;
  limit = 150000000;
  deductible = 0;
  reinstatements = 1;
  premium = 75000000;
  placed = 8000;
  rates = first_rate 5000;
  time = 0;
}

abbrev third : Terms
third = record {
  attachment = 250000000;
  limit = 150000000;
  deductible = 0;
  reinstatements = 1;
  premium = 30000000;
  placed = 7200;
  rates = first_rate 10000;
  time = 0;
}

-- the first n of the three places used
abbrev first_used : ℕ → Programme
first_used n = record {
  treaties = no_treaties;
  risk = no_layers;
  cat = record {
    places = first ∷ second ∷ third ∷ no_layer ∷ no_layer ∷ no_layer ∷ no_layer ∷ no_layer ∷ [];
    count = n;
  };
}

abbrev pub sidney : Programme
sidney = first_used 3

-- the third place is not used and holds a layer
abbrev pub unused_place : Programme
unused_place = first_used 2

abbrev pub zeros : List ℕ
zeros = 0 ∷ 0 ∷ 0 ∷ 0 ∷ 0 ∷ 0 ∷ 0 ∷ 0 ∷ []

-- the standing of a fresh year
abbrev pub opened : Standing
opened = record { risk = zeros; cat = zeros; day = 0; risk_timed = zeros; cat_timed = zeros }

-- the standing after the event
abbrev pub afterwards : Standing
afterwards = record {
  risk = zeros;
  cat = 75000000 ∷ 150000000 ∷ 100000000 ∷ 0 ∷ 0 ∷ 0 ∷ 0 ∷ 0 ∷ [];
  day = 230;
  risk_timed = zeros;
  cat_timed = zeros;
}
