-- What a contract that is without the faults 3, 4 and 5 keeps to.
-- Assumes nothing.
use mathlib.Core.Path.{◌≡◌}
use Prim.Native.Nat.{ℕ, ◌+◌, ◌≤◌, ◌<◌}
use native.Mathlib.Omega.{arith}
use mir.Syntax.{w64}
use mir.Val.{Fits}
use Rattle.std.proofs.lemmas.Bool.Decides.{nat_tests}
use Rattle.treaty.specs.declared.Treaty.{Treaty}
use Rattle.layer.specs.declared.terms.Terms.{Terms}
use Rattle.programme.specs.declared.rule.Last.{Last}
use Rattle.programme.specs.declared.rule.Before.{Before}
use Rattle.programme.specs.declared.contract.Contract.{Contract}
use Rattle.programme.specs.declared.contract.Contract.TheVariants.{Risk, Cat}
use Rattle.programme.specs.Ranges.{treaty_outside, terms_outside}
use Rattle.programme.specs.Rules.{treaty_fault, layer_fault, fault_after}
use Rattle.programme.proofs.Bounds.{band_end_lem}

-- what a treaty without fault keeps to
pub record TreatyFaultless (later before : ℕ) (t : Treaty) : Type 0 where
  pub inside : treaty_outside t ≡ 0
  pub order : later ≡ 0
  pub number : before < t.number

pub treaty-faultless : (later before : ℕ) (t : Treaty) → treaty_fault later before t ≡ 0
    → TreatyFaultless later before t
unfolding treaty_fault
treaty-faultless later before t z = record {
  inside = grind (arith, nat_tests);
  order = grind (arith, nat_tests);
  number = grind (arith, nat_tests);
}

pub treaty-fine : (later before : ℕ) (t : Treaty) → TreatyFaultless later before t → treaty_fault later before t ≡ 0
unfolding treaty_fault
treaty-fine later before t f = grind (arith, nat_tests)

-- what a layer without fault keeps to
pub record LayerFaultless (later : ℕ) (before : Last) (l : Terms) : Type 0 where
  pub inside : terms_outside l ≡ 0
  pub order : later ≡ 0
  pub few : before.count < 8
  pub attachment : before.figure ≤ l.attachment

pub layer-faultless : (later : ℕ) (before : Last) (l : Terms) → layer_fault later before l ≡ 0
    → LayerFaultless later before l
unfolding layer_fault
layer-faultless later before l z = record {
  inside = grind (arith, nat_tests);
  order = grind (arith, nat_tests);
  few = grind (arith, nat_tests);
  attachment = grind (arith, nat_tests);
}

pub layer-fine : (later : ℕ) (before : Last) (l : Terms) → LayerFaultless later before l
    → layer_fault later before l ≡ 0
unfolding layer_fault
layer-fine later before l f = grind (arith, nat_tests)

-- the end of the band of a layer without fault fits a word
module _ (p : Before) (x : Contract) (z : fault_after p x ≡ 0) where
  band_fits : (later : ℕ) (before : Last) (l : Terms) → layer_fault later before l ≡ 0
      → Fits w64 (l.attachment + l.limit)
  band_fits later before l f = omega (arith, band_end_lem l (layer-faultless later before l f).inside)

  pub risk-end : (l : Terms) → x ≡ Risk l → Fits w64 (l.attachment + l.limit)
  risk-end l e = band_fits p.cat.count p.risk l (rw e at z)

  pub cat-end : (l : Terms) → x ≡ Cat l → Fits w64 (l.attachment + l.limit)
  cat-end l e = band_fits 0 p.cat l (rw e at z)
