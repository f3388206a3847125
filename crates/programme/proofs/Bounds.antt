-- Numbers within their ranges.
-- Assumes nothing.
use mathlib.Core.Path.{◌≡◌, refl}
use mathlib.Core.Bool.{Bool, true, false}
use mathlib.Core.Logic.{◌⊎◌, inl, inr}
use Prim.Native.Nat.{ℕ, ◌+◌, ◌*◌, ◌^◌, ◌≤◌}
use native.Mathlib.Omega.{arith}
use Rattle.std.proofs.lemmas.Bool.Decides.{nat_tests}
use borrow.Author.Tests.{eqb-true}
use lib.Dec.{eqb}
use lib.ListN.{take}
use Rattle.treaty.specs.declared.Treaty.{Treaty}
use Rattle.treaty.specs.Ranges.{TermsInRange}
use Rattle.layer.specs.declared.terms.Terms.{Terms}
use Rattle.layer.specs.Layer.{rate_places}
use Rattle.layer.specs.Ranges.{InRange}
use Rattle.programme.specs.Ranges.{outside, quota_outside, surplus_outside, treaty_outside, terms_outside}
use Rattle.programme.proofs.Rates.{rates-small, rates-places, rates-refilled}

-- no number is outside: each is within its range
pub within : (low high n : ℕ) → outside low high n ≡ 0 → (low ≤ n) × (n ≤ high)
unfolding outside
within low high n z = (grind (arith, nat_tests), grind (arith, nat_tests))

-- a layer in range
pub terms_in_range : (l : Terms) → terms_outside l ≡ 0 → InRange l
unfolding terms_outside
terms_in_range l e = record {
  attachment = (within 0 (10 ^ 13) l.attachment (omega arith)).1;
  limit-low = (within 1 (10 ^ 13) l.limit (omega arith)).0;
  limit-high = (within 1 (10 ^ 13) l.limit (omega arith)).1;
  deductible = (within 0 (10 ^ 15) l.deductible (omega arith)).1;
  reinstatements = (within 0 20 l.reinstatements (omega arith)).1;
  premium = (within 0 (10 ^ 12) l.premium (omega arith)).1;
  placed = (within 0 10000 l.placed (omega arith)).1;
  rates = rates-small l.reinstatements l.rates (omega arith);
  places = rates-places l.reinstatements l.rates (omega arith);
  time = (within 0 1 l.time (omega arith)).1;
}

-- its rates are those in use, with zeros after them
pub rates-back : (l : Terms) → terms_outside l ≡ 0 → rate_places (take l.reinstatements l.rates) ≡ l.rates
unfolding terms_outside
rates-back l e = rates-refilled l.reinstatements l.rates (omega arith)

-- the end of a band is far below a word's limit
pub band_end_lem : (l : Terms) → terms_outside l ≡ 0 → l.attachment + l.limit ≤ 2 * 10 ^ 13
band_end_lem l e = let r = terms_in_range l e in omega (arith, r.attachment, r.limit-high)

-- a treaty in range: its kind is one of the two, its number is 1 to 8, and the terms of the other kind are 0
pub record QuotaInRange (t : Treaty) : Type 0 where
  pub kind : t.kind ≡ 1
  pub retention : t.retention ≡ 0
  pub lines : t.lines ≡ 0

pub record SurplusInRange (t : Treaty) : Type 0 where
  pub kind : t.kind ≡ 2
  pub cede : t.cede ≡ 0
  pub capacity : t.capacity ≡ 0

pub record TreatyInRange (t : Treaty) : Type 0 where
  pub number-low : 1 ≤ t.number
  pub number-high : t.number ≤ 8
  pub terms : TermsInRange t
  pub kind : QuotaInRange t ⊎ SurplusInRange t

pub treaty_in_range : (t : Treaty) → treaty_outside t ≡ 0 → TreatyInRange t
unfolding treaty_outside
treaty_in_range t = go (eqb t.kind 1) (eqb t.kind 2) refl refl
  where
    quota : t.kind ≡ 1 → quota_outside t ≡ 0 → TreatyInRange t
    quota k e =
        let r = (within 0 0 t.retention (omega arith)).1 in
        let n = (within 0 0 t.lines (omega arith)).1 in
        record {
          number-low = (within 1 8 t.number (omega arith)).0;
          number-high = (within 1 8 t.number (omega arith)).1;
          terms = record {
            cede = (within 0 10000 t.cede (omega arith)).1;
            capacity = (within 0 (10 ^ 13) t.capacity (omega arith)).1;
            retention = omega (arith, r);
            lines = omega (arith, n);
            limit = (within 0 (10 ^ 13) t.limit (omega arith)).1;
          };
          kind = inl (record { kind = k; retention = omega (arith, r); lines = omega (arith, n) });
        }

    surplus : t.kind ≡ 2 → surplus_outside t ≡ 0 → TreatyInRange t
    surplus k e =
        let c = (within 0 0 t.cede (omega arith)).1 in
        let a = (within 0 0 t.capacity (omega arith)).1 in
        record {
          number-low = (within 1 8 t.number (omega arith)).0;
          number-high = (within 1 8 t.number (omega arith)).1;
          terms = record {
            cede = omega (arith, c);
            capacity = omega (arith, a);
            retention = (within 0 (10 ^ 13) t.retention (omega arith)).1;
            lines = (within 0 100 t.lines (omega arith)).1;
            limit = (within 0 (10 ^ 13) t.limit (omega arith)).1;
          };
          kind = inr (record { kind = k; cede = omega (arith, c); capacity = omega (arith, a) });
        }

    go : (a b : Bool) → eqb t.kind 1 ≡ a → eqb t.kind 2 ≡ b → treaty_outside t ≡ 0 → TreatyInRange t
    go true b e f z = quota (eqb-true _ _ e) (rw e at z)
    go false true e f z = surplus (eqb-true _ _ f) (rw (e, f) at z)
    go false false e f z = let no : ◌≡◌ {A = ℕ} 1 0 = rw (e, f) at z in absurd (omega arith)
