-- What a treaty cedes of a loss is at most what it cedes without an event limit, and that at most the amount: what is
-- left never goes below 0.
-- Assumes nothing.
use mathlib.Core.Path.{◌≡◌, refl}
use mathlib.Core.Bool.{Bool, true, false, cond, ◌||◌}
use Prim.Native.Nat.{ℕ, ◌+◌, ◌-◌, ◌*◌, ◌≤◌, ◌<◌, zero-le}
use native.Mathlib.Nat.{le_refl, le_of_lt, le_trans, add-sub_of_le, mul-le-mul, mul-le-mul_left, sub-le}
use native.Mathlib.Omega.{arith}
use borrow.Author.Tests.{leb-false, ltb-true}
use lib.Dec.{eqb, leb, ltb}
use Rattle.arith.specs.Round.{rounded}
use Rattle.arith.proofs.Shares.{rounded-le, share-le}
use Rattle.treaty.specs.declared.Treaty.{Treaty}
use Rattle.treaty.specs.declared.Loss.{Loss}
use Rattle.treaty.specs.Treaty.{ceded_by_quota, ceded_by_surplus, ceded_of, cut_to_limit, ceded_of_loss}

-- a bound on a choice, each side under its test
pub cond_le : (b : Bool) {x y z : ℕ} → (b ≡ true → x ≤ z) → (b ≡ false → y ≤ z) → cond b x y ≤ z
cond_le true f g = f refl
cond_le false f g = g refl

neither : (a b : Bool) → (a || b) ≡ false → b ≡ false
neither true b e = cc
neither false b e = e

pub quota-le : (cede capacity e g : ℕ) → cede ≤ 10000 → ceded_by_quota cede capacity e g ≤ g
unfolding ceded_by_quota
quota-le cede capacity e g h = cond_le (eqb capacity 0 || leb e capacity) (λ _. share-le cede (omega arith) h g) above
  where
    above : (eqb capacity 0 || leb e capacity) ≡ false → rounded (g * cede * capacity) (10000 * e) ≤ g
    above f =
        let over : capacity < e = leb-false e capacity (neither (eqb capacity 0) (leb e capacity) f) in
        rounded-le (g * cede * capacity) g (omega arith)
        (omega (arith, mul-le-mul_left g (mul-le-mul h (le_of_lt over))))

pub surplus-le : (r n e g : ℕ) → ceded_by_surplus r n e g ≤ g
unfolding ceded_by_surplus
surplus-le r n e g = cond_le (leb e r) (λ _. zero-le) (λ f. above (leb-false e r f))
  where
    upper : r < e → ltb (r * (1 + n)) e ≡ true → rounded (g * n * r) e ≤ g
    upper over t =
        let most : n * r ≤ e = omega (arith, ltb-true (r * (1 + n)) e t) in
        rounded-le (g * n * r) g (omega arith) (omega (arith, mul-le-mul_left g most))

    above : r < e → cond (ltb (r * (1 + n)) e) (rounded (g * n * r) e) (rounded (g * (e - r)) e) ≤ g
    above over = cond_le (ltb (r * (1 + n)) e) (upper over) (λ _. share-le (e - r) (omega arith) (sub-le e r) g)

pub ceded-le : (t : Treaty) (e g : ℕ) → t.cede ≤ 10000 → ceded_of t e g ≤ g
unfolding ceded_of
ceded-le t e g h =
    cond_le (eqb t.kind 1) (λ _. quota-le t.cede t.capacity e g h)
    (λ _. cond_le (eqb t.kind 2) (λ _. surplus-le t.retention t.lines e g) (λ _. zero-le))

pub cut-le : (limit taken c : ℕ) → cut_to_limit limit taken c ≤ c
unfolding cut_to_limit
cut-le limit taken c = cond_le (eqb limit 0) (λ _. le_refl c) (λ _. omega arith)

pub ceded-le-amount : (t : Treaty) (taken : ℕ) (x : Loss) → t.cede ≤ 10000 → ceded_of_loss t taken x ≤ x.amount
unfolding ceded_of_loss
ceded-le-amount t taken x h =
    let c = ceded_of t x.maximum x.amount in
    le_trans (cut-le t.limit taken c) (ceded-le t x.maximum x.amount h)

-- so what is ceded and what is left are the amount
pub ceded_and_left : (t : Treaty) (taken : ℕ) (x : Loss) → t.cede ≤ 10000
    → ceded_of_loss t taken x + (x.amount - ceded_of_loss t taken x) ≡ x.amount
ceded_and_left t taken x h = add-sub_of_le (ceded-le-amount t taken x h)
