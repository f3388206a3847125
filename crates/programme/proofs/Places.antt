-- Contracts in the first of eight places, and one more.
-- Assumes nothing.
use mathlib.Core.Path.{◌≡◌, refl, ap, sym, ◌∙◌}
use mathlib.Core.List.{List, [], ◌∷◌, ◌++◌, append_assoc}
use Prim.Native.Nat.{ℕ, suc, ◌+◌, ◌-◌, ◌≤◌, ◌<◌}
use native.Mathlib.Omega.{arith}
use lib.ListN.{length, set, replicate, length-append, length-replicate}
use Rattle.lists.specs.Places.{in_places}
use Rattle.lists.proofs.Chains.{last_snoc}
use Rattle.layer.specs.declared.terms.Terms.{Terms}
use Rattle.programme.specs.declared.contract.Contract.{Contract}
use Rattle.programme.specs.declared.contract.Contract.TheVariants.{Proportional, Risk, Cat}
use Rattle.programme.specs.Contract.{Contracts, with_contract, no_treaty, no_terms, treaty_places, layer_places}
use Rattle.programme.specs.Contract.{programme_of, layers_with, programme_with, place_of}
use Rattle.programme.specs.Rules.{treaty_number, band_end, last_of, before_of}
use Rattle.programme.specs.LineByLine.{next_of, before_next}

module _ {A : Type 0} where
  -- a store at the first place of a tail
  set-tail : (xs : List A) (y : A) (ys : List A) (x : A) → set (xs ++ (y ∷ ys)) (length xs) x ≡ xs ++ (x ∷ ys)
  set-tail [] y ys x = refl
  set-tail (z ∷ xs) y ys x = ap (λ (l : List A). z ∷ l) (set-tail xs y ys x)

  module _ (unused : A) where
    fewer : (n : ℕ) → n < 8 → replicate (8 - n) unused ≡ unused ∷ replicate (8 - (n + 1)) unused
    fewer n h = let e : 8 - n ≡ suc (8 - (n + 1)) = omega arith in rw e

    -- one more goes to the first unused place
    pub place-next : (xs : List A) (x : A) → length xs < 8
        → set (in_places unused xs) (length xs) x ≡ in_places unused (xs ++ (x ∷ []))
    place-next xs x h =
        rw (fewer (length xs) h, length-append xs (x ∷ []))
        (set-tail xs unused (replicate (8 - (length xs + 1)) unused) x ∙ sym (append_assoc xs (x ∷ []) _))

    pub places-length : (xs : List A) → length xs ≤ 8 → length (in_places unused xs) ≡ 8
    places-length xs h =
        let rest = replicate (8 - length xs) unused in
        omega (arith, length-append xs rest, length-replicate (8 - length xs) unused)

-- one more contract stands in its place, and is counted for the lines after it
one_longer : {A : Type 0} (xs : List A) (x : A) → length xs + 1 ≡ length (xs ++ (x ∷ []))
one_longer xs x = omega (arith, length-append xs (x ∷ []))

layers-placed : (ls : List Terms) (l : Terms) → length ls < 8
    → layers_with (layer_places ls) l ≡ layer_places (ls ++ (l ∷ []))
layers-placed ls l h i = record { places = place-next no_terms ls l h i; count = one_longer ls l i }

pub contract-placed : (c : Contracts) (x : Contract) → place_of (programme_of c) x < 8
    → programme_with (programme_of c) x ≡ programme_of (with_contract c x)
contract-placed c (Proportional t) h i = record {
  treaties = record { places = place-next no_treaty c.treaties t h i; count = one_longer c.treaties t i };
  risk = layer_places c.risk;
  cat = layer_places c.cat;
}
contract-placed c (Risk l) h i = record {
  treaties = treaty_places c.treaties;
  risk = layers-placed c.risk l h i;
  cat = layer_places c.cat;
}
contract-placed c (Cat l) h i = record {
  treaties = treaty_places c.treaties;
  risk = layer_places c.risk;
  cat = layers-placed c.cat l h i;
}

last-more : {A : Type 0} (figure : A → ℕ) (xs : List A) (x : A)
    → next_of (last_of figure xs) (figure x) ≡ last_of figure (xs ++ (x ∷ []))
last-more figure xs x i = record { count = one_longer xs x i; figure = sym (last_snoc figure 0 xs x) i }

pub contract-counted : (c : Contracts) (x : Contract) → before_next (before_of c) x ≡ before_of (with_contract c x)
contract-counted c (Proportional t) i = record {
  treaties = last-more treaty_number c.treaties t i;
  risk = last_of band_end c.risk;
  cat = last_of band_end c.cat;
}
contract-counted c (Risk l) i = record {
  treaties = last_of treaty_number c.treaties;
  risk = last-more band_end c.risk l i;
  cat = last_of band_end c.cat;
}
contract-counted c (Cat l) i = record {
  treaties = last_of treaty_number c.treaties;
  risk = last_of band_end c.risk;
  cat = last-more band_end c.cat l i;
}
