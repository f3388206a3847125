-- Contracts that keep to the rules of a table. The programmes that hold such contracts are the valid ones.
-- Assumes nothing.
use mathlib.Core.Path.{◌≡◌, refl, sym}
use mathlib.Core.Bool.{Bool, true, ◌&&◌}
use mathlib.Core.List.{List, [], ◌∷◌}
use Prim.Native.Nat.{ℕ, ◌+◌, ◌-◌, ◌≤◌, ◌<◌, zero-le}
use native.Mathlib.Omega.{arith}
use borrow.Author.Tests.{eqb-true, leb-true, ltb-true, le-leb}
use lib.Dec.{eqb, leb, ltb}
use lib.ListN.{length, take, drop, replicate, length-drop, take-append-drop}
use lib.Seq.{length-take-le, take-append_seam}
use Rattle.lists.specs.Places.{in_places}
use Rattle.lists.specs.Chains.{chained, every}
use Rattle.lists.proofs.Chains.{both}
use Rattle.lists.proofs.Places.{rest-unused}
use Rattle.treaty.specs.declared.Treaty.{Treaty}
use Rattle.layer.specs.declared.terms.Terms.{Terms}
use Rattle.programme.specs.declared.contract.Treaties.{Treaties}
use Rattle.programme.specs.declared.contract.Layers.{Layers}
use Rattle.programme.specs.declared.contract.Programme.{Programme}
use Rattle.programme.specs.Contract.{Contracts, no_treaty, no_terms, treaty_places, layer_places}
use Rattle.programme.specs.Contract.{programme_of, treaties_in, layers_in, contracts_in}
use Rattle.programme.specs.Ranges.{outside, treaty_outside, rates_outside, terms_outside}
use Rattle.programme.specs.Ranges.{treaty_not_zero, terms_not_zero}
use Rattle.programme.specs.Rules.{treaty_number, band_end}
use Rattle.programme.specs.Valid.{treaty_passes, layer_passes, treaty_unused, terms_unused, eight_places}
use Rattle.programme.specs.Valid.{valid_treaties, valid_layers, valid}
use Rattle.programme.proofs.Rates.{rates-refilled}
use Rattle.programme.proofs.Bounds.{within, treaty_in_range}
use Rattle.programme.proofs.Places.{places-length}
use Rattle.programme.proofs.Validity.{places_tell, treaties_tell, layers_tell, valid_tells}

-- Each kind keeps to its order, and no tier has more than eight layers. There are no more than eight treaties either,
-- since their numbers T go from 1 to 8 and rise.
pub record Lawful (c : Contracts) : Type 0 where
  pub treaties : chained treaty_passes treaty_number 0 c.treaties ≡ true
  pub risk : chained layer_passes band_end 0 c.risk ≡ true
  pub cat : chained layer_passes band_end 0 c.cat ≡ true
  pub few-risk : length c.risk ≤ 8
  pub few-cat : length c.cat ≤ 8

-- what a contract that passes keeps to
pub treaty-passed : (before : ℕ) (t : Treaty) → treaty_passes before t ≡ true
    → (treaty_outside t ≡ 0) × (before < t.number)
treaty-passed before t e =
    let f = both (eqb (treaty_outside t) 0) (ltb before t.number) e in
    (eqb-true _ _ f.0, ltb-true _ _ f.1)

pub layer-passed : (before : ℕ) (l : Terms) → layer_passes before l ≡ true
    → (terms_outside l ≡ 0) × (before ≤ l.attachment)
layer-passed before l e =
    let f = both (eqb (terms_outside l) 0) (leb before l.attachment) e in
    (eqb-true _ _ f.0, leb-true _ _ f.1)

-- treaties after the number n: it and how many they are add to at most 8
rising : (n : ℕ) (ts : List Treaty) → n ≤ 8 → chained treaty_passes treaty_number n ts ≡ true → n + length ts ≤ 8
rising n [] h e = omega arith
rising n (t ∷ ts) h e =
    let f = both (treaty_passes n t) (chained treaty_passes treaty_number t.number ts) e in
    let p = treaty-passed n t f.0 in
    let high = (treaty_in_range t p.0).number-high in
    omega (arith, p.1, rising t.number ts high f.1)

pub at-most-eight : (c : Contracts) → Lawful c → length c.treaties ≤ 8
at-most-eight c g = omega (arith, rising 0 c.treaties zero-le g.treaties)

-- elements in the first of eight places are found there again
pub contracts-placed : (c : Contracts) → contracts_in (programme_of c) ≡ c
contracts-placed c i = record {
  treaties = take-append_seam c.treaties (replicate (8 - length c.treaties) no_treaty) i;
  risk = take-append_seam c.risk (replicate (8 - length c.risk) no_terms) i;
  cat = take-append_seam c.cat (replicate (8 - length c.cat) no_terms) i;
}

module _ {A : Type 0} (unused : A → Bool) (blank : A) where
  -- eight places, n of them used, are those n put into eight places
  module _ (z : (x : A) → unused x ≡ true → x ≡ blank) where
    all-blank : (xs : List A) → every unused xs ≡ true → replicate (length xs) blank ≡ xs
    all-blank [] e = refl
    all-blank (x ∷ xs) e =
        let f = both (unused x) (every unused xs) e in
        rw (all-blank xs f.1, z x f.0)

    module _ (n : ℕ) (xs : List A) (e : eight_places unused n xs ≡ true) where
      used-length : length (take n xs) ≡ n
      used-length =
          let f = places_tell unused n xs e in
          length-take-le n xs (omega (arith, f.0, f.1))

      refilled : in_places blank (take n xs) ≡ xs
      refilled =
          let f = places_tell unused n xs e in
          let k = length-drop n xs in
          let rest : 8 - length (take n xs) ≡ length (drop n xs) = omega (arith, used-length, k, f.0) in
          rw (rest, all-blank (drop n xs) f.2) (take-append-drop n xs)

-- what an unused place holds is unused, and nothing else is
no-treaty-unused : treaty_unused no_treaty ≡ true
unfolding treaty_not_zero outside
no-treaty-unused = refl

no-terms-unused : terms_unused no_terms ≡ true
unfolding terms_not_zero outside rates_outside
no-terms-unused = refl

nought : (n : ℕ) → outside 0 0 n ≡ 0 → n ≡ 0
nought n e = omega (arith, (within 0 0 n e).1)

unused-treaty : (t : Treaty) → treaty_unused t ≡ true → t ≡ no_treaty
unfolding treaty_not_zero
unused-treaty t e =
    let z = eqb-true (treaty_not_zero t) 0 e in
    λ i. record {
      kind = nought t.kind (omega arith) i;
      number = nought t.number (omega arith) i;
      cede = nought t.cede (omega arith) i;
      capacity = nought t.capacity (omega arith) i;
      retention = nought t.retention (omega arith) i;
      lines = nought t.lines (omega arith) i;
      limit = nought t.limit (omega arith) i;
    }

unused-terms : (l : Terms) → terms_unused l ≡ true → l ≡ no_terms
unfolding terms_not_zero
unused-terms l e =
    let z = eqb-true (terms_not_zero l) 0 e in
    λ i. record {
      attachment = nought l.attachment (omega arith) i;
      limit = nought l.limit (omega arith) i;
      deductible = nought l.deductible (omega arith) i;
      reinstatements = nought l.reinstatements (omega arith) i;
      premium = nought l.premium (omega arith) i;
      placed = nought l.placed (omega arith) i;
      rates = sym (rates-refilled 0 l.rates (omega arith)) i;
      time = nought l.time (omega arith) i;
    }

-- the programme of lawful contracts is valid
module _ {A : Type 0} (passes : ℕ → A → Bool) (figure : A → ℕ) (unused : A → Bool) (blank : A) where
  hold : unused blank ≡ true → (xs : List A) → chained passes figure 0 xs ≡ true → length xs ≤ 8
      → (eight_places unused (length xs) (in_places blank xs)
      && chained passes figure 0 (take (length xs) (in_places blank xs))) ≡ true
  hold z xs e h =
      let places = in_places blank xs in
      let rest = rest-unused unused blank z xs in
      rw (places-length blank xs h, le-leb (length xs) 8 h, ← rest, take-append_seam, e)

layers-valid : (ls : List Terms) → chained layer_passes band_end 0 ls ≡ true → length ls ≤ 8
    → valid_layers (layer_places ls) ≡ true
unfolding valid_layers
layers-valid = hold layer_passes band_end terms_unused no_terms no-terms-unused

treaties-valid : (ts : List Treaty) → chained treaty_passes treaty_number 0 ts ≡ true → length ts ≤ 8
    → valid_treaties (treaty_places ts) ≡ true
unfolding valid_treaties
treaties-valid = hold treaty_passes treaty_number treaty_unused no_treaty no-treaty-unused

pub lawful-valid : (c : Contracts) → Lawful c → valid (programme_of c) ≡ true
unfolding valid
lawful-valid c g =
    rw (
      treaties-valid c.treaties g.treaties (at-most-eight c g),
      layers-valid c.risk g.risk g.few-risk,
      layers-valid c.cat g.cat g.few-cat,
    )

-- a valid programme is the programme of the contracts in it, and they are lawful
module _ (l : Layers) (e : valid_layers l ≡ true) where
  pub layers-count : length (layers_in l) ≡ l.count
  layers-count = used-length terms_unused no_terms unused-terms l.count l.places (layers_tell l e).0

  layers-placed : layer_places (layers_in l) ≡ l
  layers-placed i = record {
    places = refilled terms_unused no_terms unused-terms l.count l.places (layers_tell l e).0 i;
    count = layers-count i;
  }

  layers-length : length (layers_in l) ≤ 8
  layers-length =
      let f = places_tell terms_unused l.count l.places (layers_tell l e).0 in
      omega (arith, layers-count, f.1)

treaties-placed : (t : Treaties) → valid_treaties t ≡ true → treaty_places (treaties_in t) ≡ t
treaties-placed t e i = record {
  places = refilled treaty_unused no_treaty unused-treaty t.count t.places (treaties_tell t e).0 i;
  count = used-length treaty_unused no_treaty unused-treaty t.count t.places (treaties_tell t e).0 i;
}

pub valid-placed : (p : Programme) → valid p ≡ true → programme_of (contracts_in p) ≡ p
valid-placed p e i =
    let v = valid_tells p e in
    record {
      treaties = treaties-placed p.treaties v.0 i;
      risk = layers-placed p.risk v.1 i;
      cat = layers-placed p.cat v.2 i;
    }

pub valid-lawful : (p : Programme) → valid p ≡ true → Lawful (contracts_in p)
valid-lawful p e =
    let v = valid_tells p e in
    record {
      treaties = (treaties_tell p.treaties v.0).1;
      risk = (layers_tell p.risk v.1).1;
      cat = (layers_tell p.cat v.2).1;
      few-risk = layers-length p.risk v.1;
      few-cat = layers-length p.cat v.2;
    }
