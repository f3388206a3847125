-- Figures of a programme and its validity, by the definitions: its places, the ends of each number's range, the rules
-- of a line and their order, eight layers of a tier, and a count of nine.
-- Assumes nothing.
use mathlib.Core.Path.{◌≡◌, refl}
use mathlib.Core.Bool.{true, false}
use mathlib.Core.List.{List, [], ◌∷◌, ◌++◌, map}
use Prim.Native.Nat.{ℕ}
use lib.ListN.{replicate, take}
use Rattle.treaty.specs.declared.Treaty.{Treaty}
use Rattle.treaty.specs.Treaty.{quota_of, surplus_of}
use Rattle.layer.specs.declared.terms.Terms.{Terms}
use Rattle.layer.specs.Layer.{terms_of}
use Rattle.programme.specs.declared.contract.Programme.{Programme}
use Rattle.programme.specs.declared.contract.Contract.TheVariants.{Proportional, Risk, Cat}
use Rattle.programme.specs.Contract.{Contracts, no_contracts}
use Rattle.programme.specs.Contract.{with_contract, contracts_in_order, programme_of, contracts_in}
use Rattle.programme.specs.Contract.{place_of, programme_with}
use Rattle.programme.specs.Ranges.{outside, treaty_outside, rates_outside, terms_outside}
use Rattle.programme.specs.Ranges.{treaty_not_zero, terms_not_zero}
use Rattle.programme.specs.Rules.{treaty_fault, layer_fault, fault_of}
use Rattle.programme.specs.Valid.{valid_treaties, valid_layers, valid}

-- a place with any numbers in it, in the programme's order, and one that holds 0
abbrev treaty : (k t c a r n l : ℕ) → Treaty
treaty k t c a r n l =
    record { kind = k; number = t; cede = c; capacity = a; retention = r; lines = n; limit = l }

abbrev zero_treaty : Treaty
zero_treaty = treaty 0 0 0 0 0 0 0

abbrev terms : (a l d k p s : ℕ) → List ℕ → (w : ℕ) → Terms
terms a l d k p s qs w = record {
  attachment = a;
  limit = l;
  deductible = d;
  reinstatements = k;
  premium = p;
  placed = s;
  rates = qs;
  time = w;
}

-- twenty rates: none, one, and twenty different ones
abbrev no_rates : List ℕ
no_rates = 0 ∷ 0 ∷ 0 ∷ 0 ∷ 0 ∷ 0 ∷ 0 ∷ 0 ∷ 0 ∷ 0 ∷ 0 ∷ 0 ∷ 0 ∷ 0 ∷ 0 ∷ 0 ∷ 0 ∷ 0 ∷ 0 ∷ 0 ∷ []

abbrev one_rate : List ℕ
one_rate = 20000 ∷ 0 ∷ 0 ∷ 0 ∷ 0 ∷ 0 ∷ 0 ∷ 0 ∷ 0 ∷ 0 ∷ 0 ∷ 0 ∷ 0 ∷ 0 ∷ 0 ∷ 0 ∷ 0 ∷ 0 ∷ 0 ∷ 0 ∷ []

abbrev twenty_rates : List ℕ
twenty_rates =
    5000 ∷ 1 ∷ 20000 ∷ 7 ∷ 10000 ∷ 3333 ∷ 9999 ∷ 12 ∷ 15000 ∷ 2 ∷ 750 ∷ 19999 ∷ 40 ∷ 6000 ∷ 8 ∷ 2500 ∷ 11111 ∷ 90
    ∷ 17 ∷ 3 ∷ []

abbrev pub zero_terms : Terms
zero_terms = terms 0 0 0 0 0 0 no_rates 0

-- the programme without contracts, place by place
abbrev pub nothing_held : Programme
nothing_held = record {
  treaties = record {
    places = zero_treaty ∷ zero_treaty ∷ zero_treaty ∷ zero_treaty
        ∷ zero_treaty ∷ zero_treaty ∷ zero_treaty ∷ zero_treaty ∷ [];
    count = 0;
  };
  risk = record {
    places = zero_terms ∷ zero_terms ∷ zero_terms ∷ zero_terms ∷ zero_terms ∷ zero_terms ∷ zero_terms ∷ zero_terms ∷ [];
    count = 0;
  };
  cat = record {
    places = zero_terms ∷ zero_terms ∷ zero_terms ∷ zero_terms ∷ zero_terms ∷ zero_terms ∷ zero_terms ∷ zero_terms ∷ [];
    count = 0;
  };
}

-- one with two treaties and a layer of each tier, the cat layer with (time)
abbrev pub all_held : Programme
all_held = record {
  treaties = record {
    places = treaty 1 2 4000 20000 0 0 15000 ∷ treaty 2 5 0 0 10000 3 0 ∷ zero_treaty ∷ zero_treaty
        ∷ zero_treaty ∷ zero_treaty ∷ zero_treaty ∷ zero_treaty ∷ [];
    count = 2;
  };
  risk = record {
    places = terms 50 51 7 1 9 3333 one_rate 0 ∷ zero_terms ∷ zero_terms ∷ zero_terms
        ∷ zero_terms ∷ zero_terms ∷ zero_terms ∷ zero_terms ∷ [];
    count = 1;
  };
  cat = record {
    places = terms 40 60 0 20 1000000000000 7200 twenty_rates 1 ∷ zero_terms ∷ zero_terms ∷ zero_terms
        ∷ zero_terms ∷ zero_terms ∷ zero_terms ∷ zero_terms ∷ [];
    count = 1;
  };
}

-- its contracts
abbrev pub all_contracts : Contracts
all_contracts = record {
  treaties = quota_of 2 4000 20000 15000 ∷ surplus_of 5 10000 3 0 ∷ [];
  risk = terms_of 50 51 7 1 9 (20000 ∷ []) 3333 0 ∷ [];
  cat = terms_of 40 60 0 20 1000000000000 twenty_rates 7200 1 ∷ [];
}

-- eight layers, each at the end of the band before
abbrev pub eight_terms : List Terms
eight_terms =
    terms_of 0 10 0 0 0 [] 3333 0 ∷ terms_of 10 20 0 0 0 [] 3333 0 ∷ terms_of 30 5 0 0 0 [] 3333 0
    ∷ terms_of 35 1 0 0 0 [] 3333 0 ∷ terms_of 36 4 0 0 0 [] 3333 0 ∷ terms_of 40 2 0 0 0 [] 3333 0
    ∷ terms_of 42 8 0 0 0 [] 3333 0 ∷ terms_of 50 50 0 0 0 [] 3333 0 ∷ []

-- a programme that holds nothing but these places of risk layers, n of them used
abbrev pub with_risk : ℕ → List Terms → Programme
with_risk n ls = record {
  treaties = (programme_of no_contracts).treaties;
  risk = record { places = ls; count = n };
  cat = (programme_of no_contracts).cat;
}

-- the contracts before a line: treaties, risk layers and cat layers
abbrev before : List Treaty → List Terms → List Terms → Contracts
before ts rs cs = record { treaties = ts; risk = rs; cat = cs }

-- one layer, with the band 50 50
abbrev one_band : List Terms
one_band = terms_of 50 50 0 0 0 [] 3333 0 ∷ []

-- 0 and 1, 10^13 and one past it: of these an amount from 0 on lacks the last, one from 1 on the first too
abbrev amounts : List ℕ
amounts = 0 ∷ 1 ∷ 10000000000000 ∷ 10000000000001 ∷ []

pub record Corners : Type 0 where
  -- contracts in their places, and back; in the table's order, and one by one
  pub places-none : programme_of no_contracts ≡ nothing_held
  pub places : programme_of all_contracts ≡ all_held
  pub contracts-none : contracts_in nothing_held ≡ record { treaties = []; risk = []; cat = [] }
  pub contracts : contracts_in all_held ≡ all_contracts
  pub in_order : contracts_in_order all_contracts
      ≡ Proportional (quota_of 2 4000 20000 15000) ∷ Proportional (surplus_of 5 10000 3 0)
      ∷ Risk (terms_of 50 51 7 1 9 (20000 ∷ []) 3333 0) ∷ Cat (terms_of 40 60 0 20 1000000000000 twenty_rates 7200 1) ∷ []
  pub one_by_one : with_contract (with_contract (with_contract all_contracts (Proportional (quota_of 7 1 0 0)))
      (Risk (terms_of 200 1 0 0 0 [] 1 0))) (Cat (terms_of 300 1 0 0 0 [] 2 0))
      ≡ record {
        treaties = quota_of 2 4000 20000 15000 ∷ surplus_of 5 10000 3 0 ∷ quota_of 7 1 0 0 ∷ [];
        risk = terms_of 50 51 7 1 9 (20000 ∷ []) 3333 0 ∷ terms_of 200 1 0 0 0 [] 1 0 ∷ [];
        cat = terms_of 40 60 0 20 1000000000000 twenty_rates 7200 1 ∷ terms_of 300 1 0 0 0 [] 2 0 ∷ [];
      }
  -- of each number in turn, among others in range: 0 at an end, 1 one past it
  pub quota-number : map (λ (n : ℕ). treaty_outside (quota_of n 4000 7 9)) (0 ∷ 1 ∷ 8 ∷ 9 ∷ []) ≡ 1 ∷ 0 ∷ 0 ∷ 1 ∷ []
  pub quota-cede : map (λ (n : ℕ). treaty_outside (quota_of 3 n 7 9)) (0 ∷ 10000 ∷ 10001 ∷ []) ≡ 0 ∷ 0 ∷ 1 ∷ []
  pub quota-capacity : map (λ (n : ℕ). treaty_outside (quota_of 3 4000 n 9)) amounts ≡ 0 ∷ 0 ∷ 0 ∷ 1 ∷ []
  pub quota-limit : map (λ (n : ℕ). treaty_outside (quota_of 3 4000 7 n)) amounts ≡ 0 ∷ 0 ∷ 0 ∷ 1 ∷ []
  pub surplus-number : map (λ (n : ℕ). treaty_outside (surplus_of n 7 3 9)) (0 ∷ 1 ∷ 8 ∷ 9 ∷ []) ≡ 1 ∷ 0 ∷ 0 ∷ 1 ∷ []
  pub surplus-retention : map (λ (n : ℕ). treaty_outside (surplus_of 3 n 3 9)) amounts ≡ 0 ∷ 0 ∷ 0 ∷ 1 ∷ []
  pub surplus-lines : map (λ (n : ℕ). treaty_outside (surplus_of 3 7 n 9)) (0 ∷ 100 ∷ 101 ∷ []) ≡ 0 ∷ 0 ∷ 1 ∷ []
  pub surplus-limit : map (λ (n : ℕ). treaty_outside (surplus_of 3 7 3 n)) amounts ≡ 0 ∷ 0 ∷ 0 ∷ 1 ∷ []
  pub layer-attachment : map (λ (n : ℕ). terms_outside (terms_of n 7 9 2 11 (5000 ∷ 13 ∷ []) 7200 0)) amounts
      ≡ 0 ∷ 0 ∷ 0 ∷ 1 ∷ []
  pub layer-limit : map (λ (n : ℕ). terms_outside (terms_of 5 n 9 2 11 (5000 ∷ 13 ∷ []) 7200 0)) amounts
      ≡ 1 ∷ 0 ∷ 0 ∷ 1 ∷ []
  pub layer-deductible : map (λ (n : ℕ). terms_outside (terms_of 5 7 n 2 11 (5000 ∷ 13 ∷ []) 7200 0))
      (0 ∷ 1000000000000000 ∷ 1000000000000001 ∷ []) ≡ 0 ∷ 0 ∷ 1 ∷ []
  pub layer-reinstatements : map (λ (n : ℕ). terms_outside (terms_of 5 7 9 n 11 [] 7200 0)) (0 ∷ 20 ∷ 21 ∷ [])
      ≡ 0 ∷ 0 ∷ 1 ∷ []
  pub layer-premium : map (λ (n : ℕ). terms_outside (terms_of 5 7 9 2 n (5000 ∷ 13 ∷ []) 7200 0))
      (0 ∷ 1000000000000 ∷ 1000000000001 ∷ []) ≡ 0 ∷ 0 ∷ 1 ∷ []
  pub layer-placed : map (λ (n : ℕ). terms_outside (terms_of 5 7 9 2 11 (5000 ∷ 13 ∷ []) n 0)) (0 ∷ 10000 ∷ 10001 ∷ [])
      ≡ 0 ∷ 0 ∷ 1 ∷ []
  -- each rate in use, the first, one between and the last; and the first place past them
  pub layer-rates : map (λ (n : ℕ). terms_outside (terms_of 5 7 9 3 11 (n ∷ 1 ∷ 2 ∷ []) 7200 0)) (0 ∷ 20000 ∷ 20001 ∷ [])
      ≡ 0 ∷ 0 ∷ 1 ∷ []
  pub layer_rate_between : map (λ (n : ℕ). terms_outside (terms_of 5 7 9 3 11 (1 ∷ n ∷ 2 ∷ []) 7200 0))
      (0 ∷ 20000 ∷ 20001 ∷ []) ≡ 0 ∷ 0 ∷ 1 ∷ []
  pub layer_rate_last : map (λ (n : ℕ). terms_outside (terms_of 5 7 9 3 11 (1 ∷ 2 ∷ n ∷ []) 7200 0))
      (0 ∷ 20000 ∷ 20001 ∷ []) ≡ 0 ∷ 0 ∷ 1 ∷ []
  pub layer_rate_past : map (λ (n : ℕ). terms_outside (terms_of 5 7 9 3 11 (1 ∷ 2 ∷ 3 ∷ n ∷ []) 7200 0)) (0 ∷ 1 ∷ [])
      ≡ 0 ∷ 1 ∷ []
  -- all twenty in use, and but the last; one place more or less than twenty
  pub twenty-rates : map (λ (k : ℕ). terms_outside (terms 5 7 9 k 11 7200 twenty_rates 0)) (20 ∷ 19 ∷ 0 ∷ [])
      ≡ 0 ∷ 1 ∷ 1 ∷ []
  pub rates-places : map (λ (qs : List ℕ). terms_outside (terms 5 7 9 1 11 7200 qs 0))
      (no_rates ∷ (0 ∷ no_rates) ∷ take 19 no_rates ∷ []) ≡ 0 ∷ 1 ∷ 1 ∷ []
  -- (time) or not, and nothing else
  pub layer-time : map (λ (n : ℕ). terms_outside (terms 5 7 9 1 11 7200 one_rate n)) (0 ∷ 1 ∷ 2 ∷ []) ≡ 0 ∷ 0 ∷ 1 ∷ []
  -- the kinds 1 and 2 alone are treaties; each holds 0 in the terms of the other
  pub kinds : map (λ (k : ℕ). treaty_outside (treaty k 3 0 0 0 0 9)) (0 ∷ 1 ∷ 2 ∷ 3 ∷ []) ≡ 1 ∷ 0 ∷ 0 ∷ 1 ∷ []
  pub not_of_a_quota : map treaty_outside (treaty 1 3 4000 7 1 0 9 ∷ treaty 1 3 4000 7 0 1 9 ∷ []) ≡ 1 ∷ 1 ∷ []
  pub not_of_a_surplus : map treaty_outside (treaty 2 3 1 0 7 3 9 ∷ treaty 2 3 0 1 7 3 9 ∷ []) ≡ 1 ∷ 1 ∷ []
  -- an unused place holds nothing but 0, in each of its numbers
  pub treaty-unused : treaty_not_zero (treaty 0 0 0 0 0 0 0) ≡ 0
  pub treaty_not_unused : map treaty_not_zero
      (treaty 1 0 0 0 0 0 0 ∷ treaty 0 1 0 0 0 0 0 ∷ treaty 0 0 1 0 0 0 0 ∷ treaty 0 0 0 1 0 0 0
      ∷ treaty 0 0 0 0 1 0 0 ∷ treaty 0 0 0 0 0 1 0 ∷ treaty 0 0 0 0 0 0 1 ∷ []) ≡ replicate 7 1
  pub terms-unused : terms_not_zero zero_terms ≡ 0
  pub terms_not_unused : map terms_not_zero
      (terms 1 0 0 0 0 0 no_rates 0 ∷ terms 0 1 0 0 0 0 no_rates 0 ∷ terms 0 0 1 0 0 0 no_rates 0
      ∷ terms 0 0 0 1 0 0 no_rates 0 ∷ terms 0 0 0 0 1 0 no_rates 0 ∷ terms 0 0 0 0 0 1 no_rates 0
      ∷ terms 0 0 0 0 0 0 one_rate 0 ∷ terms 0 0 0 0 0 0 (take 19 no_rates ++ (1 ∷ [])) 0
      ∷ terms 0 0 0 0 0 0 (take 19 no_rates) 0 ∷ terms 0 0 0 0 0 0 no_rates 1 ∷ []) ≡ replicate 10 1
  -- contracts by their kind, the same terms in either tier; where each would go, and one more in its place
  pub kinds_of : contracts_in_order (with_contract (with_contract (with_contract no_contracts
      (Cat (terms_of 7 1 2 1 3 (4 ∷ []) 5 0))) (Risk (terms_of 7 1 2 1 3 (4 ∷ []) 5 0)))
      (Proportional (quota_of 1 4000 0 0)))
      ≡ Proportional (quota_of 1 4000 0 0) ∷ Risk (terms_of 7 1 2 1 3 (4 ∷ []) 5 0) ∷ Cat (terms_of 7 1 2 1 3 (4 ∷ []) 5 0)
      ∷ []
  pub places_of : map (place_of all_held)
      (Proportional (quota_of 1 4000 0 0) ∷ Risk (terms_of 7 1 2 1 3 (4 ∷ []) 5 0) ∷ Cat (terms_of 7 1 2 1 3 (4 ∷ []) 5 0)
      ∷ []) ≡ 2 ∷ 1 ∷ 1 ∷ []
  pub one_more : contracts_in (programme_with (programme_with (programme_with all_held
      (Proportional (quota_of 7 1 0 0))) (Risk (terms_of 200 1 0 0 0 [] 1 0))) (Cat (terms_of 300 1 0 0 0 [] 2 0)))
      ≡ with_contract (with_contract (with_contract all_contracts (Proportional (quota_of 7 1 0 0)))
      (Risk (terms_of 200 1 0 0 0 [] 1 0))) (Cat (terms_of 300 1 0 0 0 [] 2 0))
  -- 4: a treaty of either kind after a risk layer, and after a cat layer
  pub treaties-after-risk : map (fault_of (before [] one_band []))
      (Proportional (quota_of 1 4000 0 0) ∷ Proportional (surplus_of 1 10000 3 0) ∷ []) ≡ 4 ∷ 4 ∷ []
  pub treaties-after-cat : map (fault_of (before [] [] one_band))
      (Proportional (quota_of 1 4000 0 0) ∷ Proportional (surplus_of 1 10000 3 0) ∷ []) ≡ 4 ∷ 4 ∷ []
  -- a risk layer after a cat layer; a layer of either tier after a treaty and a cat layer after a risk layer are fine
  pub risk-after-cat : fault_of (before [] [] one_band) (Risk (terms_of 100 1 0 0 0 [] 0 0)) ≡ 4
  pub layers-after-treaty : map (fault_of (before (quota_of 8 4000 0 0 ∷ []) [] []))
      (Risk (terms_of 0 1 0 0 0 [] 0 0) ∷ Cat (terms_of 0 1 0 0 0 [] 0 0) ∷ []) ≡ 0 ∷ 0 ∷ []
  pub cat-after-risk : fault_of (before [] one_band []) (Cat (terms_of 99 1 0 0 0 [] 0 0)) ≡ 0
  -- T below, at and above the one before, over both kinds
  pub rising-after-quota : map (fault_of (before (quota_of 3 4000 0 0 ∷ []) [] []))
      (Proportional (surplus_of 2 7 3 9) ∷ Proportional (surplus_of 3 7 3 9) ∷ Proportional (surplus_of 4 7 3 9) ∷ [])
      ≡ 4 ∷ 4 ∷ 0 ∷ []
  pub rising-after-surplus : map (fault_of (before (surplus_of 5 7 3 9 ∷ []) [] []))
      (Proportional (quota_of 4 4000 0 0) ∷ Proportional (quota_of 5 4000 0 0) ∷ Proportional (quota_of 6 4000 0 0) ∷ [])
      ≡ 4 ∷ 4 ∷ 0 ∷ []
  -- 5: an attachment at the end of the band before, and a cent below it
  pub risk-bands : map (λ (n : ℕ). fault_of (before [] one_band []) (Risk (terms_of n 1 0 0 0 [] 0 0))) (100 ∷ 99 ∷ [])
      ≡ 0 ∷ 5 ∷ []
  pub cat-bands : map (λ (n : ℕ). fault_of (before [] [] one_band) (Cat (terms_of n 1 0 0 0 [] 0 0))) (100 ∷ 99 ∷ [])
      ≡ 0 ∷ 5 ∷ []
  -- an eighth layer is fine, a ninth is 4, also below the end of the band before, and 3 with a limit of 0
  pub eighth_risk : fault_of (before [] (take 7 eight_terms) []) (Risk (terms_of 50 1 0 0 0 [] 0 0)) ≡ 0
  pub eighth_cat : fault_of (before [] [] (take 7 eight_terms)) (Cat (terms_of 50 1 0 0 0 [] 0 0)) ≡ 0
  pub ninth_risk : map (fault_of (before [] eight_terms []))
      (Risk (terms_of 100 1 0 0 0 [] 0 0) ∷ Risk (terms_of 99 1 0 0 0 [] 0 0) ∷ Risk (terms_of 99 0 0 0 0 [] 0 0) ∷ [])
      ≡ 4 ∷ 4 ∷ 3 ∷ []
  pub ninth_cat : map (fault_of (before [] [] eight_terms))
      (Cat (terms_of 100 1 0 0 0 [] 0 0) ∷ Cat (terms_of 99 1 0 0 0 [] 0 0) ∷ Cat (terms_of 99 0 0 0 0 [] 0 0) ∷ [])
      ≡ 4 ∷ 4 ∷ 3 ∷ []
  -- a first cat layer after eight risk layers is none of theirs
  pub first-cat : fault_of (before [] eight_terms []) (Cat (terms_of 0 1 0 0 0 [] 0 0)) ≡ 0
  -- validity: a programme of every form, and the same with a used place taken for an unused one
  pub all_valid : valid all_held ≡ true
  pub treaty_past_the_count : valid (record {
    treaties = record { places = all_held.treaties.places; count = 1 };
    risk = all_held.risk;
    cat = all_held.cat;
  })
      ≡ false
  pub cat_past_the_count : valid (record {
    treaties = all_held.treaties;
    risk = all_held.risk;
    cat = record { places = all_held.cat.places; count = 0 };
  })
      ≡ false
  -- one risk layer without (time), with it, and with another number there; a 1 there in the place after it
  pub time-held : map (λ (n : ℕ). valid (with_risk 1 (terms 50 51 7 1 9 3333 one_rate n ∷ replicate 7 zero_terms)))
      (0 ∷ 1 ∷ 2 ∷ []) ≡ true ∷ true ∷ false ∷ []
  pub time_past_the_count :
      valid (with_risk 1 (terms 50 51 7 1 9 3333 one_rate 1 ∷ terms 0 0 0 0 0 0 no_rates 1 ∷ replicate 6 zero_terms))
      ≡ false
  -- bands of the cat layers that touch, and that overlap by a cent; two treaties with one T
  pub cat-touching :
      valid (programme_of (before [] [] (terms_of 50 50 0 0 0 [] 7200 0 ∷ terms_of 100 1 0 0 0 [] 7200 0 ∷ []))) ≡ true
  pub cat-overlapping :
      valid (programme_of (before [] [] (terms_of 50 50 0 0 0 [] 7200 0 ∷ terms_of 99 1 0 0 0 [] 7200 0 ∷ []))) ≡ false
  pub one_number : valid (programme_of (before (quota_of 3 4000 0 0 ∷ surplus_of 3 10000 3 0 ∷ []) [] [])) ≡ false
  -- eight layers of a tier, and a count of nine
  pub eight-used : valid (with_risk 8 eight_terms) ≡ true
  pub nine-used : valid (with_risk 9 eight_terms) ≡ false
  pub nine-cats : valid (record {
    treaties = all_held.treaties;
    risk = all_held.risk;
    cat = record { places = eight_terms; count = 9 };
  })
      ≡ false

pub corners : Corners
unfolding outside treaty_outside rates_outside terms_outside treaty_not_zero terms_not_zero treaty_fault layer_fault
    valid_treaties valid_layers valid
corners = record {
  places-none = refl;
  places = refl;
  contracts-none = refl;
  contracts = refl;
  in_order = refl;
  one_by_one = refl;
  quota-number = refl;
  quota-cede = refl;
  quota-capacity = refl;
  quota-limit = refl;
  surplus-number = refl;
  surplus-retention = refl;
  surplus-lines = refl;
  surplus-limit = refl;
  layer-attachment = refl;
  layer-limit = refl;
  layer-deductible = refl;
  layer-reinstatements = refl;
  layer-premium = refl;
  layer-placed = refl;
  layer-rates = refl;
  layer_rate_between = refl;
  layer_rate_last = refl;
  layer_rate_past = refl;
  twenty-rates = refl;
  rates-places = refl;
  layer-time = refl;
  kinds = refl;
  not_of_a_quota = refl;
  not_of_a_surplus = refl;
  treaty-unused = refl;
  treaty_not_unused = refl;
  terms-unused = refl;
  terms_not_unused = refl;
  kinds_of = refl;
  places_of = refl;
  one_more = refl;
  treaties-after-risk = refl;
  treaties-after-cat = refl;
  risk-after-cat = refl;
  layers-after-treaty = refl;
  cat-after-risk = refl;
  rising-after-quota = refl;
  rising-after-surplus = refl;
  risk-bands = refl;
  cat-bands = refl;
  eighth_risk = refl;
  eighth_cat = refl;
  ninth_risk = refl;
  ninth_cat = refl;
  first-cat = refl;
  all_valid = refl;
  treaty_past_the_count = refl;
  cat_past_the_count = refl;
  time-held = refl;
  time_past_the_count = refl;
  cat-touching = refl;
  cat-overlapping = refl;
  one_number = refl;
  eight-used = refl;
  nine-used = refl;
  nine-cats = refl;
}
