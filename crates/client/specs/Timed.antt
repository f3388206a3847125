-- Document 02, Q-4: a catastrophe layer with (time), its table, its event and its standings, typed out. A loss of
-- 500,000 has half of 365,000, that is 182,500, as its amount premium. On day 184 the share is 10,000 × 182 / 365,
-- rounded down to 4,986, and 182,500 × 4,986 / 10,000 is 90,994.5, which rounds to 90,995.
-- Assumes nothing.
use Rattle.std.specs.Prelude.{List, [], ◌∷◌, ◌++◌, ℕ}
use Rattle.text.specs.Bytes.{bytes}
use Rattle.layer.specs.declared.terms.Terms.{Terms}
use Rattle.programme.specs.declared.contract.Programme.{Programme}
use Rattle.year.specs.declared.Standing.{Standing}
use Rattle.client.specs.Sidney.{first_rate, no_layer, no_treaties, no_layers, zeros}

abbrev pub timed_table : List ℕ
timed_table = bytes "(cat (band 0 1000000) (deduct 0) (back 1 365000 10000) (placed 10000) (time))\n"

abbrev pub timed_events : List ℕ
timed_events = bytes "(event 184 (loss 0 500000 500000))\n"

abbrev pub timed_statement : List ℕ
timed_statement =
    bytes "(event 184 (gross 500000) (ceded 0) (risk 0) (cat 500000) (net 0) (premium 90995))\n"
    ++ bytes "(layer cat 1 (deductible 0) (cover 1500000) (recovered 500000) (premium 90995))\n"
    ++ bytes "(total (gross 500000) (ceded 0) (risk 0) (cat 500000) (net 0) (premium 90995))\n"

abbrev layer : Terms
layer = record {
  attachment = 0;
  limit = 1000000;
  deductible = 0;
  reinstatements = 1;
  premium = 365000;
  placed = 10000;
  rates = first_rate 10000;
  time = 1;
}

abbrev pub timed : Programme
timed = record {
  treaties = no_treaties;
  risk = no_layers;
  cat = record {
    places = layer ∷ no_layer ∷ no_layer ∷ no_layer ∷ no_layer ∷ no_layer ∷ no_layer ∷ no_layer ∷ [];
    count = 1;
  };
}

-- the standing after the event
abbrev pub charged : Standing
charged = record {
  risk = zeros;
  cat = 500000 ∷ 0 ∷ 0 ∷ 0 ∷ 0 ∷ 0 ∷ 0 ∷ 0 ∷ [];
  day = 184;
  risk_timed = zeros;
  cat_timed = 90995 ∷ 0 ∷ 0 ∷ 0 ∷ 0 ∷ 0 ∷ 0 ∷ 0 ∷ [];
}

-- the same with one cent more than the amount premium
abbrev pub overcharged : Standing
overcharged = record {
  risk = zeros;
  cat = 500000 ∷ 0 ∷ 0 ∷ 0 ∷ 0 ∷ 0 ∷ 0 ∷ 0 ∷ [];
  day = 184;
  risk_timed = zeros;
  cat_timed = 182501 ∷ 0 ∷ 0 ∷ 0 ∷ 0 ∷ 0 ∷ 0 ∷ 0 ∷ [];
}
