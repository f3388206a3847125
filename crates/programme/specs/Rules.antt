-- Document 01, When a call is turned down: faults 3, 4 and 5 of a table's line that is one of the four forms.
-- Assumes nothing.
use Rattle.std.specs.Prelude.{cond, ◌||◌, List, ℕ, ◌+◌, leb, ltb, length}
use Rattle.lists.specs.Chains.{last_by}
use Rattle.treaty.specs.declared.Treaty.{Treaty}
use Rattle.layer.specs.declared.terms.Terms.{Terms}
use Rattle.programme.specs.declared.rule.Last.{Last}
use Rattle.programme.specs.declared.rule.Before.{Before}
use Rattle.programme.specs.declared.contract.Contract.{Contract}
use Rattle.programme.specs.declared.contract.Contract.TheVariants.{Proportional, Risk, Cat}
use Rattle.programme.specs.Contract.{Contracts}
use Rattle.programme.specs.Ranges.{treaty_outside, terms_outside}

-- a treaty's number T
abbrev pub treaty_number : Treaty → ℕ
treaty_number t = t.number

-- the end of a layer's band: attachment plus limit
abbrev pub band_end : Terms → ℕ
band_end l = l.attachment + l.limit

-- what rules 4 and 5 look at: how many of a kind stand before, and the last one's T or end of band, 0 without one
abbrev pub last_of : {A : Type 0} → (A → ℕ) → List A → Last
last_of figure xs = record { count = length xs; figure = last_by figure 0 xs }

-- of each kind
abbrev pub before_of : Contracts → Before
before_of c = record {
  treaties = last_of treaty_number c.treaties;
  risk = last_of band_end c.risk;
  cat = last_of band_end c.cat;
}

-- A treaty after the T `before`, where `later` contracts of later kinds stand before it: 3, a number outside its
-- range; 4, a kind out of order, or T not above the one before. 0 is no fault.
unfoldable pub treaty_fault : (later before : ℕ) → Treaty → ℕ
treaty_fault later before t =
    cond (ltb 0 (treaty_outside t)) 3 (cond (ltb 0 later || leb t.number before) 4 0)

-- A layer after `before` of its tier, `later` as above: 3, a number outside its range; 4, a kind out of order, or a
-- ninth layer of a tier; 5, an attachment below the end of the band before.
unfoldable pub layer_fault : (later : ℕ) (before : Last) → Terms → ℕ
layer_fault later before l =
    cond (ltb 0 (terms_outside l)) 3
    (cond (ltb 0 later || leb 8 before.count) 4 (cond (ltb l.attachment before.figure) 5 0))

-- the fault of a contract's line, from what stands before it
abbrev pub fault_after : Before → Contract → ℕ
fault_after p (Proportional t) = treaty_fault (p.risk.count + p.cat.count) p.treaties.figure t
fault_after p (Risk l) = layer_fault p.cat.count p.risk l
fault_after p (Cat l) = layer_fault 0 p.cat l

-- the same after the contracts c
abbrev pub fault_of : Contracts → Contract → ℕ
fault_of c x = fault_after (before_of c) x
