-- The cases of the treaties' definitions, each under the tests that lead to it.
-- Assumes nothing.
use mathlib.Core.Path.{◌≡◌, ap, sym, ◌∙◌}
use mathlib.Core.Bool.{true, false}
use Prim.Native.Nat.{ℕ, ◌+◌, ◌-◌, ◌*◌, ◌≤◌, ◌<◌, min}
use native.Mathlib.Nat.{mul_assoc}
use native.Mathlib.Omega.{arith}
use borrow.Author.Tests.{eq-eqb, ne_eqb, le-leb, lt-leb, lt-ltb, le-ltb}
use lib.Dec.{leb}
use Rattle.arith.specs.Round.{rounded}
use Rattle.treaty.specs.declared.Treaty.{Treaty}
use Rattle.treaty.specs.Treaty.{ceded_by_quota, ceded_by_surplus, ceded_of, cut_to_limit}

module _ (cede capacity e g x : ℕ) where
  pub quota_without_capacity : capacity ≡ 0 → x ≡ rounded (g * cede) 10000 → x ≡ ceded_by_quota cede capacity e g
  unfolding ceded_by_quota
  quota_without_capacity h r = simp (eq-eqb _ _ h) r

  pub quota-within : (capacity ≡ 0 → ⊥) → leb e capacity ≡ true → x ≡ rounded (g * cede) 10000
      → x ≡ ceded_by_quota cede capacity e g
  unfolding ceded_by_quota
  quota-within h k r = simp (ne_eqb _ _ h, k) r

  pub quota-above : (capacity ≡ 0 → ⊥) → leb e capacity ≡ false → x ≡ rounded (g * (cede * capacity)) (10000 * e)
      → x ≡ ceded_by_quota cede capacity e g
  unfolding ceded_by_quota
  quota-above h k r =
      simp (ne_eqb _ _ h, k) (r ∙ ap (λ (n : ℕ). rounded n (10000 * e)) (sym (mul_assoc g cede capacity)))

module _ (r n e g x : ℕ) where
  pub surplus-retained : e ≤ r → 0 ≡ ceded_by_surplus r n e g
  unfolding ceded_by_surplus
  surplus-retained h = simp (le-leb _ _ h)

  pub surplus-above : r < e → r * (1 + n) < e → x ≡ rounded (g * (n * r)) e → x ≡ ceded_by_surplus r n e g
  unfolding ceded_by_surplus
  surplus-above h k e' =
      simp (lt-leb _ _ h, lt-ltb _ _ k) (e' ∙ ap (λ (m : ℕ). rounded m e) (sym (mul_assoc g n r)))

  pub surplus-between : r < e → e ≤ r * (1 + n) → x ≡ rounded (g * (e - r)) e → x ≡ ceded_by_surplus r n e g
  unfolding ceded_by_surplus
  surplus-between h k e' = simp (lt-leb _ _ h, le-ltb _ _ k) e'

module _ (t : Treaty) (e g x : ℕ) where
  pub kind-quota : t.kind ≡ 1 → x ≡ ceded_by_quota t.cede t.capacity e g → x ≡ ceded_of t e g
  unfolding ceded_of
  kind-quota h r = simp (eq-eqb _ _ h) r

  pub kind-surplus : t.kind ≡ 2 → x ≡ ceded_by_surplus t.retention t.lines e g → x ≡ ceded_of t e g
  unfolding ceded_of
  kind-surplus h r = simp (ne_eqb t.kind 1 (λ k. omega arith), eq-eqb _ _ h) r

  pub kind-neither : (t.kind ≡ 1 → ⊥) → (t.kind ≡ 2 → ⊥) → 0 ≡ ceded_of t e g
  unfolding ceded_of
  kind-neither h k = simp (ne_eqb _ _ h, ne_eqb _ _ k)

module _ (limit taken c : ℕ) where
  pub unlimited : limit ≡ 0 → c ≡ cut_to_limit limit taken c
  unfolding cut_to_limit
  unlimited h = simp (eq-eqb _ _ h)

  pub limited : (x : ℕ) → (limit ≡ 0 → ⊥) → x ≡ min c (limit - taken) → x ≡ cut_to_limit limit taken c
  unfolding cut_to_limit
  limited x h e = simp (ne_eqb _ _ h) e

  pub used-up : (limit ≡ 0 → ⊥) → limit ≤ taken → 0 ≡ cut_to_limit limit taken c
  used-up h k = limited 0 h (omega arith)
