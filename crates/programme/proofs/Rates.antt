-- A layer's rates, place by place: those in use are in range, the others 0.
-- Assumes nothing.
use mathlib.Core.Path.{◌≡◌, refl, sym, ap, ◌∙◌}
use mathlib.Core.Bool.{Bool, true, false, cond, ◌&&◌}
use mathlib.Core.List.{List, [], ◌∷◌, ◌++◌}
use Prim.Native.Nat.{ℕ, zero, suc, ◌+◌, ◌-◌, ◌≤◌, ◌<◌}
use native.Mathlib.Numerals.{add-one}
use native.Mathlib.Omega.{arith}
use borrow.Author.Tests.{eq-eqb, ne_eqb, le-leb, lt-leb, leb-true, eqb-true}
use lib.Dec.{leb, eqb}
use lib.ListN.{length, take, drop, get_or, replicate, drop_of_length-le}
use lib.Seq.{drop-cons}
use Rattle.lists.specs.Each.{Each}
use Rattle.lists.specs.Chains.{every}
use Rattle.lists.proofs.Chains.{both, and_assoc}
use Rattle.layer.specs.Layer.{rate_places}
use Rattle.programme.specs.Ranges.{rates_outside}

-- k of the rates qs are in use
unfoldable pub fits : ℕ → List ℕ → Bool
fits k [] = true
fits zero (q ∷ qs) = eqb q 0 && fits zero qs
fits (suc k) (q ∷ qs) = leb q 20000 && fits k qs

fits_all : (k : ℕ) (qs : List ℕ)
    → (every (λ (q : ℕ). leb q 20000) (take k qs) && every (λ (q : ℕ). eqb q 0) (drop k qs)) ≡ fits k qs
unfolding fits
fits_all zero [] = refl
fits_all (suc k) [] = refl
fits_all zero (q ∷ qs) = ap (λ (b : Bool). eqb q 0 && b) (fits_all zero qs)
fits_all (suc k) (q ∷ qs) =
    and_assoc (leb q 20000) (every (λ (p : ℕ). leb p 20000) (take k qs)) (every (λ (p : ℕ). eqb p 0) (drop k qs))
    ∙ ap (λ (b : Bool). leb q 20000 && b) (fits_all k qs)

outside-is : (k : ℕ) (qs : List ℕ) (b : Bool) → length qs ≡ 20 → fits k qs ≡ b → rates_outside k qs ≡ cond b 0 1
unfolding rates_outside
outside-is k qs b l e = rw (eq-eqb (length qs) 20 l, fits_all k qs, e)

-- one place more: a rate of 0, one in range, and one that may not stand there
zero-fits : (k q : ℕ) (qs : List ℕ) → q ≡ 0 → fits k (q ∷ qs) ≡ fits (k - 1) qs
unfolding fits
zero-fits zero q qs e = rw e
zero-fits (suc k) q qs e = rw e (ap (λ (n : ℕ). fits n qs) (omega arith))

used-fits : (k q : ℕ) (qs : List ℕ) → 0 < k → q ≤ 20000 → fits k (q ∷ qs) ≡ fits (k - 1) qs
unfolding fits
used-fits zero q qs h e = absurd (omega arith)
used-fits (suc k) q qs h e = rw (le-leb _ _ e) (ap (λ (n : ℕ). fits n qs) (omega arith))

unused_fails : (k q : ℕ) (qs : List ℕ) → k ≤ 0 → (q ≡ 0 → ⊥) → fits k (q ∷ qs) ≡ false
unfolding fits
unused_fails zero q qs h e = rw (ne_eqb _ _ e)
unused_fails (suc k) q qs h e = absurd (omega arith)

large_fails : (k q : ℕ) (qs : List ℕ) → 0 < k → 20000 < q → fits k (q ∷ qs) ≡ false
unfolding fits
large_fails zero q qs h e = absurd (omega arith)
large_fails (suc k) q qs h e = rw (lt-leb _ _ e)

none-fits : (k : ℕ) → fits k [] ≡ true
unfolding fits
none-fits k = refl

-- The rates before place i are looked at: those ahead give the whole answer.
pub record Looking (k : ℕ) (qs : List ℕ) (i : ℕ) : Type 0 where
  pub places : length qs ≡ 20
  pub within : i ≤ 20
  pub rest : fits k qs ≡ fits (k - i) (drop i qs)

pub none_looked : (k : ℕ) (qs : List ℕ) → length qs ≡ 20 → Looking k qs 0
none_looked k qs l = record { places = l; within = omega arith; rest = ap (λ (n : ℕ). fits n qs) (omega arith) }

module _ {k : ℕ} {qs : List ℕ} {i : ℕ} (g : Looking k qs i) where
  module _ (h : i < 20) where
    ahead : fits k qs ≡ fits (k - i) (get_or qs i 0 ∷ drop (i + 1) qs)
    ahead = g.rest ∙ ap (fits (k - i)) (rw (add-one i) (drop-cons qs i 0 (omega (arith, g.places))))

    next : fits (k - i) (get_or qs i 0 ∷ drop (i + 1) qs) ≡ fits (k - i - 1) (drop (i + 1) qs) → Looking k qs (i + 1)
    next e = record {
      places = g.places;
      within = omega arith;
      rest = ahead ∙ e ∙ ap (λ (n : ℕ). fits n (drop (i + 1) qs)) (omega arith);
    }

    pub zero_looked : (q : ℕ) → q ≡ get_or qs i 0 → q ≡ 0 → Looking k qs (i + 1)
    zero_looked q a e = next (zero-fits (k - i) (get_or qs i 0) (drop (i + 1) qs) (sym a ∙ e))

    module _ (q : ℕ) (a : q ≡ get_or qs i 0) where
      pub used_looked : i < k → q ≤ 20000 → Looking k qs (i + 1)
      used_looked u e =
          next (used-fits (k - i) (get_or qs i 0) (drop (i + 1) qs) (omega arith) (omega (arith, a)))

      pub unused-refused : k ≤ i → (q ≡ 0 → ⊥) → (1 ≡ rates_outside k qs) × (1 ≤ 1)
      unused-refused u e =
          let no = unused_fails (k - i) (get_or qs i 0) (drop (i + 1) qs) (omega arith) (λ z. e (a ∙ z)) in
          (sym (outside-is k qs false g.places (ahead ∙ no)), omega arith)

      pub large-refused : i < k → 20000 < q → (1 ≡ rates_outside k qs) × (1 ≤ 1)
      large-refused u e =
          let no = large_fails (k - i) (get_or qs i 0) (drop (i + 1) qs) (omega arith) (omega (arith, a)) in
          (sym (outside-is k qs false g.places (ahead ∙ no)), omega arith)

  pub all_looked : 20 ≤ i → (0 ≡ rates_outside k qs) × (0 ≤ 1)
  all_looked h =
      let none = ap (fits (k - i)) (drop_of_length-le qs {i = i} (omega (arith, g.places))) in
      (sym (outside-is k qs true g.places (g.rest ∙ none ∙ none-fits (k - i))), omega arith)

-- what rates that are not outside keep to: twenty places, each at most 20,000, and 0 in the places past the first k
module _ (k : ℕ) (qs : List ℕ) (z : rates_outside k qs ≡ 0) where
  tests : (length qs ≡ 20) × (fits k qs ≡ true)
  unfolding rates_outside
  tests = by_tests (eqb (length qs) 20) (fits k qs) refl refl (rw (fits_all k qs) at z)
    where
      by_tests : (a b : Bool) → eqb (length qs) 20 ≡ a → fits k qs ≡ b
          → ◌≡◌ {A = ℕ} (cond (eqb (length qs) 20 && fits k qs) 0 1) 0 → (length qs ≡ 20) × (fits k qs ≡ true)
      by_tests true true e f w = (eqb-true (length qs) 20 e, f)
      by_tests true false e f w = let no : ◌≡◌ {A = ℕ} 1 0 = rw (e, f) at w in absurd (omega arith)
      by_tests false b e f w = let no : ◌≡◌ {A = ℕ} 1 0 = rw e at w in absurd (omega arith)

  pub rates-places : length qs ≡ 20
  rates-places = tests.0

  fits-small : (k : ℕ) (qs : List ℕ) → fits k qs ≡ true → Each (λ (q : ℕ). q ≤ 20000) qs
  unfolding fits
  fits-small k [] e = tt
  fits-small zero (q ∷ qs) e =
      let f = both (eqb q 0) (fits zero qs) e in (omega (arith, eqb-true q 0 f.0), fits-small zero qs f.1)
  fits-small (suc k) (q ∷ qs) e =
      let f = both (leb q 20000) (fits k qs) e in (leb-true _ _ f.0, fits-small k qs f.1)

  pub rates-small : Each (λ (q : ℕ). q ≤ 20000) qs
  rates-small = fits-small k qs tests.1

  -- those in use, with zeros after them
  fits-back : (n m k : ℕ) (qs : List ℕ) → length qs ≡ n → n ≤ m → fits k qs ≡ true
      → take n (take k qs ++ replicate m 0) ≡ qs
  unfolding fits
  fits-back zero m k [] l h e = refl
  fits-back zero m k (q ∷ qs) l h e = absurd (omega arith)
  fits-back (suc n) m k [] l h e = absurd (omega arith)
  fits-back (suc n) zero k (q ∷ qs) l h e = absurd (omega arith)
  fits-back (suc n) (suc m) zero (q ∷ qs) l h e =
      let f = both (eqb q 0) (fits zero qs) e in
      let first : 0 ≡ q = sym (eqb-true _ _ f.0) in
      let rest = fits-back n m zero qs (omega arith) (omega arith) f.1 in
      λ i. first i ∷ rest i
  fits-back (suc n) (suc m) (suc k) (q ∷ qs) l h e =
      let f = both (leb q 20000) (fits k qs) e in
      ap (λ (xs : List ℕ). q ∷ xs) (fits-back n (suc m) k qs (omega arith) (omega arith) f.1)

  pub rates-refilled : rate_places (take k qs) ≡ qs
  rates-refilled = fits-back 20 20 k qs rates-places (omega arith) tests.1
