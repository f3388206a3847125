-- Document 01, The table text: a programme's contracts, and the eight places of each kind that hold them.
-- Assumes nothing.
use Rattle.std.specs.Prelude.{ℕ, ◌+◌, List, [], ◌∷◌, ◌++◌, map, length, take, set}
use Rattle.lists.specs.Places.{in_places}
use Rattle.treaty.specs.declared.Treaty.{Treaty}
use Rattle.layer.specs.declared.terms.Terms.{Terms}
use Rattle.layer.specs.Layer.{terms_of}
use Rattle.programme.specs.declared.contract.Treaties.{Treaties}
use Rattle.programme.specs.declared.contract.Layers.{Layers}
use Rattle.programme.specs.declared.contract.Programme.{Programme}
use Rattle.programme.specs.declared.contract.Contract.{Contract}
use Rattle.programme.specs.declared.contract.Contract.TheVariants.{Proportional, Risk, Cat}

-- contracts as a table has them, each kind in the table's order
pub record Contracts : Type 0 where
  pub treaties : List Treaty
  pub risk : List Terms
  pub cat : List Terms

-- a programme without contracts has none
abbrev pub no_contracts : Contracts
no_contracts = record { treaties = []; risk = []; cat = [] }

-- contracts with one more of its kind
abbrev pub with_contract : Contracts → Contract → Contracts
with_contract c (Proportional t) = record { treaties = c.treaties ++ (t ∷ []); risk = c.risk; cat = c.cat }
with_contract c (Risk l) = record { treaties = c.treaties; risk = c.risk ++ (l ∷ []); cat = c.cat }
with_contract c (Cat l) = record { treaties = c.treaties; risk = c.risk; cat = c.cat ++ (l ∷ []) }

-- all of them in the table's order: treaties first, then risk layers, then cat layers
abbrev pub contracts_in_order : Contracts → List Contract
contracts_in_order c = map Proportional c.treaties ++ (map Risk c.risk ++ map Cat c.cat)

-- what an unused place holds
abbrev pub no_treaty : Treaty
no_treaty = record { kind = 0; number = 0; cede = 0; capacity = 0; retention = 0; lines = 0; limit = 0 }

abbrev pub no_terms : Terms
no_terms = terms_of 0 0 0 0 0 [] 0 0

-- contracts in the first of eight places
abbrev pub treaty_places : List Treaty → Treaties
treaty_places ts = record { places = in_places no_treaty ts; count = length ts }

abbrev pub layer_places : List Terms → Layers
layer_places ls = record { places = in_places no_terms ls; count = length ls }

-- the programme of some contracts
abbrev pub programme_of : Contracts → Programme
programme_of c = record {
  treaties = treaty_places c.treaties;
  risk = layer_places c.risk;
  cat = layer_places c.cat;
}

-- a programme with one more contract, in the first unused place of its kind
abbrev pub treaties_with : Treaties → Treaty → Treaties
treaties_with ts t = record { places = set ts.places ts.count t; count = ts.count + 1 }

abbrev pub layers_with : Layers → Terms → Layers
layers_with ls l = record { places = set ls.places ls.count l; count = ls.count + 1 }

abbrev pub programme_with : Programme → Contract → Programme
programme_with p (Proportional t) = record { treaties = treaties_with p.treaties t; risk = p.risk; cat = p.cat }
programme_with p (Risk l) = record { treaties = p.treaties; risk = layers_with p.risk l; cat = p.cat }
programme_with p (Cat l) = record { treaties = p.treaties; risk = p.risk; cat = layers_with p.cat l }

-- that place
abbrev pub place_of : Programme → Contract → ℕ
place_of p (Proportional t) = p.treaties.count
place_of p (Risk l) = p.risk.count
place_of p (Cat l) = p.cat.count

-- the contracts of a programme stand in its first places
abbrev pub treaties_in : Treaties → List Treaty
treaties_in ts = take ts.count ts.places

abbrev pub layers_in : Layers → List Terms
layers_in ls = take ls.count ls.places

abbrev pub contracts_in : Programme → Contracts
contracts_in p = record { treaties = treaties_in p.treaties; risk = layers_in p.risk; cat = layers_in p.cat }
