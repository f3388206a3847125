-- The kind of a line by its first two bytes, and what a line of each kind is.
-- Assumes nothing.
use mathlib.Core.Path.{◌≡◌, refl, sym, ap, ◌∙◌}
use mathlib.Core.List.{List, [], ◌∷◌}
use Rattle.std.specs.Prelude.{None}
use Prim.Native.Nat.{ℕ, ◌<◌}
use native.Mathlib.Omega.{arith}
use borrow.Author.Tests.{eq-eqb, ne_eqb}
use lib.ListN.{length, get_or}
use Rattle.lists.proofs.Cases.{by-eq}
use Rattle.table_text.specs.Forms.{kind_of, form_of_kind, form_of}

-- a line of less than two bytes has no kind
pub too_short : (s : List ℕ) → length s < 2 → 0 ≡ kind_of s
unfolding kind_of
too_short [] h = refl
too_short (b ∷ []) h = by-eq b 40 (λ e. simp (kind_of, eq-eqb _ _ e)) (λ e. simp (kind_of, ne_eqb _ _ e))
too_short (b ∷ a ∷ s) h = absurd (omega arith)

-- a longer line has one by its first two bytes
module _ (s : List ℕ) where
  pub no_bracket : (get_or s 0 0 ≡ 40 → ⊥) → 0 ≡ kind_of s
  unfolding kind_of
  no_bracket h = simp (kind_of, ne_eqb _ _ h)

  -- after a bracket, by the letter
  module _ (h : get_or s 0 0 ≡ 40) where
    pub letter_q : get_or s 1 0 ≡ 113 → 1 ≡ kind_of s
    unfolding kind_of
    letter_q e = simp (kind_of, eq-eqb _ _ h, eq-eqb _ _ e)

    pub letter_s : get_or s 1 0 ≡ 115 → 2 ≡ kind_of s
    unfolding kind_of
    letter_s e = simp (kind_of, eq-eqb _ _ h, ne_eqb (get_or s 1 0) 113 (λ z. omega arith), eq-eqb _ _ e)

    pub letter_r : get_or s 1 0 ≡ 114 → 3 ≡ kind_of s
    unfolding kind_of
    letter_r e =
        simp (
          kind_of,
          eq-eqb _ _ h,
          ne_eqb (get_or s 1 0) 113 (λ z. omega arith),
          ne_eqb (get_or s 1 0) 115 (λ z. omega arith),
          eq-eqb _ _ e,
        )

    pub letter_c : get_or s 1 0 ≡ 99 → 4 ≡ kind_of s
    unfolding kind_of
    letter_c e =
        simp (
          kind_of,
          eq-eqb _ _ h,
          ne_eqb (get_or s 1 0) 113 (λ z. omega arith),
          ne_eqb (get_or s 1 0) 115 (λ z. omega arith),
          ne_eqb (get_or s 1 0) 114 (λ z. omega arith),
          eq-eqb _ _ e,
        )

    pub letter_other : (get_or s 1 0 ≡ 113 → ⊥) → (get_or s 1 0 ≡ 115 → ⊥) → (get_or s 1 0 ≡ 114 → ⊥)
        → (get_or s 1 0 ≡ 99 → ⊥) → 0 ≡ kind_of s
    unfolding kind_of
    letter_other q t r c =
        simp (kind_of, eq-eqb _ _ h, ne_eqb _ _ q, ne_eqb _ _ t, ne_eqb _ _ r, ne_eqb _ _ c)

-- a line of another kind than the four is no form
pub kind-other : (s : List ℕ) (k : ℕ) → (k ≡ 1 → ⊥) → (k ≡ 2 → ⊥) → (k ≡ 3 → ⊥) → (k ≡ 4 → ⊥)
    → None ≡ form_of_kind k s
unfolding form_of_kind
kind-other s k q t r c = simp (form_of_kind, ne_eqb _ _ q, ne_eqb _ _ t, ne_eqb _ _ r, ne_eqb _ _ c)

-- a line is what the kind that it has makes of it
pub line-of : (s : List ℕ) (k : ℕ) → k ≡ kind_of s → (n : ℕ) → k ≡ n → form_of_kind n s ≡ form_of s
unfolding form_of
line-of s k q n e = ap (λ (m : ℕ). form_of_kind m s) (sym e ∙ q)
