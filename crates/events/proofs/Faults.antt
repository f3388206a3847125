-- The faults of an event form, from its numbers.
-- Assumes nothing.
use mathlib.Core.Path.{◌≡◌, sym, ◌∙◌}
use mathlib.Core.Bool.{Bool, true, cond}
use Prim.Native.Nat.{ℕ, ◌+◌, ◌^◌, ◌≤◌, ◌<◌}
use borrow.Author.Tests.{lt-ltb, le-ltb}
use Rattle.programme.specs.Ranges.{outside}
use Rattle.treaty.specs.declared.Loss.{Loss}
use Rattle.events.specs.Rules.{loss_outside, lowest_fault}

-- the numbers of a loss form, added up
pub loss-outside : (x : Loss) (a b c : ℕ) → a ≡ outside 0 8 x.treaty → b ≡ outside 1 (10 ^ 13) x.maximum
    → c ≡ outside 0 (10 ^ 13) x.amount → a + b + c ≡ loss_outside x
unfolding loss_outside
loss-outside x a b c p q r = rw (p, q, r)

-- the lowest fault, one test after the other
module _ (out count day before lacks : ℕ) where
  pub fault_11 : 0 < out → 11 ≡ lowest_fault out count day before lacks
  fault_11 h = sym (rw (lt-ltb 0 out h))

  module _ (a : out ≤ 0) where
    pub fault_12 : 64 < count → 12 ≡ lowest_fault out count day before lacks
    fault_12 h = sym (rw (le-ltb 0 out a, lt-ltb 64 count h))

    module _ (b : count ≤ 64) where
      pub fault_13 : day < before → 13 ≡ lowest_fault out count day before lacks
      fault_13 h = sym (rw (le-ltb 0 out a, le-ltb 64 count b, lt-ltb day before h))

      module _ (c : before ≤ day) where
        pub fault_14 : 0 < lacks → 14 ≡ lowest_fault out count day before lacks
        fault_14 h = sym (rw (le-ltb 0 out a, le-ltb 64 count b, le-ltb day before c, lt-ltb 0 lacks h))

        pub faultless : lacks ≤ 0 → 0 ≡ lowest_fault out count day before lacks
        faultless h = sym (rw (le-ltb 0 out a, le-ltb 64 count b, le-ltb day before c, le-ltb 0 lacks h))

-- a line that is closed has the fault of its event form
pub closed_fault : (closed : Bool) (f n : ℕ) → closed ≡ true → n ≡ f → n ≡ cond closed f 10
closed_fault closed f n c e = e ∙ rw c
