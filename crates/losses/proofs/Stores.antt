-- Amounts, one of which is added to.
-- Assumes nothing.
use mathlib.Core.Path.{◌≡◌, refl, sym, ◌∙◌}
use mathlib.Core.Bool.{Bool, true, false, cond}
use mathlib.Core.List.{List, [], ◌∷◌}
use Prim.Native.Nat.{ℕ, zero, suc, ◌+◌, ◌≤◌, ◌<◌, zero-le}
use native.Mathlib.Nat.{add-zero}
use native.Mathlib.Omega.{arith}
use borrow.Author.Tests.{eqb-true, eqb-false}
use lib.Dec.{eqb}
use lib.ListN.{length, get_or, set}
use lib.Seq.{get_or-set_same, get_or-set_other}
use Rattle.lists.specs.Each.{Each}
use Rattle.lists.proofs.Each.{each_set, each_so}

-- amounts of at most b: the one in any place, 0 past the end
pub at_most : (b : ℕ) (cs : List ℕ) → Each (λ (n : ℕ). n ≤ b) cs → (i : ℕ) → get_or cs i 0 ≤ b
at_most b [] e i = zero-le
at_most b (c ∷ cs) e zero = e.0
at_most b (c ∷ cs) e (suc i) = at_most b cs e.1 i

-- they, after c is added in a place
pub each-sum : (b b' : ℕ) (cs : List ℕ) → Each (λ (n : ℕ). n ≤ b) cs → (i c : ℕ) → b + c ≤ b'
    → Each (λ (n : ℕ). n ≤ b') (set cs i (get_or cs i 0 + c))
each-sum b b' cs e i c h =
    each_set (λ (n : ℕ). n ≤ b') cs (each_so (λ (n : ℕ). n ≤ b) _ (λ n k. omega arith) cs e) i _
    (omega (arith, at_most b cs e i))

-- the amount in each place, after c is added in the place i
pub sum-at : (cs : List ℕ) (i c k : ℕ) → k < length cs
    → get_or (set cs i (get_or cs i 0 + c)) k 0 ≡ get_or cs k 0 + cond (eqb i k) c 0
sum-at cs i c k h = by_test (eqb i k) refl
  where
    by_test : (b : Bool) → eqb i k ≡ b → get_or (set cs i (get_or cs i 0 + c)) k 0 ≡ get_or cs k 0 + cond b c 0
    by_test true q = rw (eqb-true i k q) (get_or-set_same cs k _ 0 h)
    by_test false q =
        get_or-set_other cs i k _ 0 (λ e. eqb-false i k q (sym e)) ∙ sym (add-zero (get_or cs k 0))
