-- What treaties by number keep to, and which numbers they lack.
-- Assumes nothing.
use mathlib.Core.Path.{◌≡◌, sym, ap, ◌∙◌}
use mathlib.Core.Bool.{Bool, true, false, cond, not}
use mathlib.Core.List.{List}
use Prim.Native.Nat.{ℕ, ◌≤◌, ◌<◌}
use native.Mathlib.Omega.{arith}
use borrow.Author.Tests.{eqb-true, eqb-false}
use lib.Dec.{eqb}
use lib.ListN.{get_or}
use Rattle.lists.specs.Each.{Each}
use Rattle.lists.specs.Chains.{chained}
use Rattle.lists.proofs.Each.{each_so, each-chained}
use Rattle.treaty.specs.declared.Treaty.{Treaty}
use Rattle.treaty.specs.Ranges.{TermsInRange}
use Rattle.treaty.proofs.Losses.{Numbered}
use Rattle.programme.specs.Contract.{no_treaty}
use Rattle.programme.specs.Rules.{treaty_number}
use Rattle.programme.specs.Valid.{treaty_passes}
use Rattle.programme.proofs.Bounds.{treaty_in_range}
use Rattle.programme.proofs.Lawful.{treaty-passed}
use Rattle.events.specs.Rules.{in_table}
use Rattle.year.proofs.Treaties.{passed-cedes, passed-numbers, passed-rising}
use Rattle.losses.specs.Treaties.{with_number, treaties_from, Registered}
use Rattle.losses.proofs.Numbers.{
  at-number,
  each-numbered,
  number-lacking,
  number_lacks,
  number-stands,
  numbered-terms,
}

-- the terms of treaties that pass are in range
passed-terms : (ts : List Treaty) → chained treaty_passes treaty_number 0 ts ≡ true → Each TermsInRange ts
passed-terms ts e =
    each-chained TermsInRange treaty_passes treaty_number
    (λ n t e. (treaty_in_range t (treaty-passed n t e).0).terms) 0 ts e

module _ {register : List Treaty} (r : Registered register) where
  abbrev table : List Treaty
  table = treaties_from register

  pub cedes : Each (λ (t : Treaty). t.cede ≤ 10000) table
  cedes = passed-cedes 0 table r.passes

  pub numbers-le : Each (λ (t : Treaty). t.number ≤ 8) table
  numbers-le = passed-numbers 0 table r.passes

  pub rising : Numbered 0 table
  rising = passed-rising 0 table r.passes

  pub places-terms : Each TermsInRange register
  places-terms = rw r.places (numbered-terms table (passed-terms table r.passes))

  pub numbers-below : Each (λ (t : Treaty). t.number < 9) register
  numbers-below =
      rw r.places
      (each-numbered (λ (t : Treaty). t.number < 9) (omega arith) table
      (each_so (λ (t : Treaty). t.number ≤ 8) _ (λ t h. omega arith) table numbers-le))

  module _ (n : ℕ) where
    -- l says whether the table lacks n
    abbrev Says : Bool → Type 0
    Says l = l ≡ cond (in_table table n) false true

    module _ (h : n < 9) where
      number_is : (get_or register n no_treaty).number ≡ (with_number table n).number
      number_is =
          ap (λ (ts : List Treaty). (get_or ts n no_treaty).number) r.places
          ∙ ap (λ (t : Treaty). t.number) (at-number (with_number table) no_treaty n (omega arith))

      -- it has a number that stands in its own place, and lacks any other
      pub lacks_within : (b : Bool) → eqb (get_or register n no_treaty).number n ≡ b → Says (not b)
      lacks_within true e = rw (number-stands table n (sym number_is ∙ eqb-true _ _ e))
      lacks_within false e = rw (number_lacks table n (λ q. eqb-false _ _ e (number_is ∙ q)))

    -- and those above 8
    pub lacks_above : 9 ≤ n → Says true
    lacks_above h = rw (number-lacking table numbers-le n (omega arith))
