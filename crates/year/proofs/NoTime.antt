-- A table and the same table without (time): where a text reads to the first, a text reads to the second.
-- Assumes nothing.
use mathlib.Core.Path.{◌≡◌, refl, ap}
use mathlib.Core.Bool.{true}
use mathlib.Core.List.{List, [], ◌∷◌, map}
use Prim.Native.Nat.{ℕ}
use native.Mathlib.Omega.{arith}
use borrow.Author.Tests.{le-leb}
use lib.ListN.{length-map}
use Rattle.lists.specs.Chains.{chained}
use Rattle.lists.proofs.Chains.{both}
use Rattle.layer.specs.declared.terms.Terms.{Terms}
use Rattle.programme.specs.declared.contract.Programme.{Programme}
use Rattle.programme.specs.Contract.{Contracts, contracts_in, programme_of}
use Rattle.programme.specs.Ranges.{outside, terms_outside}
use Rattle.programme.specs.Rules.{band_end}
use Rattle.programme.specs.Valid.{layer_passes, valid}
use Rattle.programme.proofs.Lawful.{Lawful, layer-passed, contracts-placed, lawful-valid, valid-lawful}
use Rattle.year.proofs.WholeLayers.{untimed}

-- q is p without (time): a table text reads to each, and their contracts differ in nothing else
pub record WithoutTime (p q : Programme) : Type 0 where
  pub timed-valid : valid p ≡ true
  pub plain-valid : valid q ≡ true
  pub treaties : (contracts_in q).treaties ≡ (contracts_in p).treaties
  pub risk : (contracts_in q).risk ≡ map untimed (contracts_in p).risk
  pub cat : (contracts_in q).cat ≡ map untimed (contracts_in p).cat

-- the contracts without (time), and the programme of them
abbrev untimed_contracts : Contracts → Contracts
untimed_contracts c = record {
  treaties = c.treaties;
  risk = map untimed c.risk;
  cat = map untimed c.cat;
}

unfoldable pub without_time : Programme → Programme
without_time p = programme_of (untimed_contracts (contracts_in p))

-- layers that pass one after the other pass without (time)
nought-inside : outside 0 1 0 ≡ 0
unfolding outside
nought-inside = refl

outside-untimed : (t : Terms) → terms_outside t ≡ 0 → terms_outside (untimed t) ≡ 0
unfolding terms_outside
outside-untimed t e = omega (arith, e, nought-inside)

layer-untimed : (n : ℕ) (t : Terms) → layer_passes n t ≡ true → layer_passes n (untimed t) ≡ true
layer-untimed n t e =
    let f = layer-passed n t e in
    rw (outside-untimed t f.0, le-leb _ _ f.1)

layers-untimed : (n : ℕ) (ts : List Terms) → chained layer_passes band_end n ts ≡ true
    → chained layer_passes band_end n (map untimed ts) ≡ true
layers-untimed n [] e = refl
layers-untimed n (t ∷ ts) e =
    let f = both (layer_passes n t) (chained layer_passes band_end (band_end t) ts) e in
    rw (layer-untimed n t f.0) (layers-untimed (band_end t) ts f.1)

lawful-untimed : (c : Contracts) → Lawful c → Lawful (untimed_contracts c)
lawful-untimed c g = record {
  treaties = g.treaties;
  risk = layers-untimed 0 c.risk g.risk;
  cat = layers-untimed 0 c.cat g.cat;
  few-risk = rw length-map g.few-risk;
  few-cat = rw length-map g.few-cat;
}

-- every programme that a table text reads to has one without (time)
pub without_time_lem : (p : Programme) → valid p ≡ true → WithoutTime p (without_time p)
unfolding without_time
without_time_lem p v =
    let c = untimed_contracts (contracts_in p) in
    let same = contracts-placed c in
    record {
      timed-valid = v;
      plain-valid = lawful-valid c (lawful-untimed (contracts_in p) (valid-lawful p v));
      treaties = ap (λ (d : Contracts). d.treaties) same;
      risk = ap (λ (d : Contracts). d.risk) same;
      cat = ap (λ (d : Contracts). d.cat) same;
    }
