-- What a programme that passes the test of validity keeps to, part by part.
-- Assumes nothing.
use mathlib.Core.Path.{◌≡◌}
use mathlib.Core.Bool.{Bool, true, ◌&&◌}
use mathlib.Core.List.{List}
use Prim.Native.Nat.{ℕ, ◌≤◌}
use borrow.Author.Tests.{leb-true, eqb-true}
use lib.Dec.{eqb, leb}
use lib.ListN.{length, drop}
use Rattle.lists.specs.Chains.{chained, every}
use Rattle.lists.proofs.Chains.{both}
use Rattle.programme.specs.declared.contract.Treaties.{Treaties}
use Rattle.programme.specs.declared.contract.Layers.{Layers}
use Rattle.programme.specs.declared.contract.Programme.{Programme}
use Rattle.programme.specs.Contract.{treaties_in, layers_in}
use Rattle.programme.specs.Rules.{treaty_number, band_end}
use Rattle.programme.specs.Valid.{treaty_passes, layer_passes, treaty_unused, terms_unused}
use Rattle.programme.specs.Valid.{eight_places, valid_treaties, valid_layers, valid}

-- the places of one kind
pub places_tell : {A : Type 0} (unused : A → Bool) (n : ℕ) (xs : List A) → eight_places unused n xs ≡ true
    → (length xs ≡ 8) × (n ≤ 8) × (every unused (drop n xs) ≡ true)
places_tell unused n xs e =
    let f = both (eqb (length xs) 8) (leb n 8 && every unused (drop n xs)) e in
    let g = both (leb n 8) (every unused (drop n xs)) f.1 in
    (eqb-true _ _ f.0, leb-true _ _ g.0, g.1)

pub treaties_tell : (t : Treaties) → valid_treaties t ≡ true
    → (eight_places treaty_unused t.count t.places ≡ true)
    × (chained treaty_passes treaty_number 0 (treaties_in t) ≡ true)
unfolding valid_treaties
treaties_tell t e =
    both (eight_places treaty_unused t.count t.places) (chained treaty_passes treaty_number 0 (treaties_in t)) e

pub layers_tell : (l : Layers) → valid_layers l ≡ true
    → (eight_places terms_unused l.count l.places ≡ true) × (chained layer_passes band_end 0 (layers_in l) ≡ true)
unfolding valid_layers
layers_tell l e = both (eight_places terms_unused l.count l.places) (chained layer_passes band_end 0 (layers_in l)) e

pub valid_tells : (p : Programme) → valid p ≡ true
    → (valid_treaties p.treaties ≡ true) × (valid_layers p.risk ≡ true) × (valid_layers p.cat ≡ true)
unfolding valid
valid_tells p e =
    let t = both (valid_treaties p.treaties) (valid_layers p.risk && valid_layers p.cat) e in
    let l = both (valid_layers p.risk) (valid_layers p.cat) t.1 in
    (t.0, l.0, l.1)

-- a valid programme has at most eight of each kind
pub layers-few : (l : Layers) → valid_layers l ≡ true → l.count ≤ 8
layers-few l e = (places_tell terms_unused l.count l.places (layers_tell l e).0).1

module _ (p : Programme) (e : valid p ≡ true) where
  pub few-treaties : p.treaties.count ≤ 8
  few-treaties =
      let t = treaties_tell p.treaties (valid_tells p e).0 in
      (places_tell treaty_unused p.treaties.count p.treaties.places t.0).1

  pub few-risk : p.risk.count ≤ 8
  few-risk = layers-few p.risk (valid_tells p e).1

  pub few-cat : p.cat.count ≤ 8
  few-cat = layers-few p.cat (valid_tells p e).2
