-- Laws of lists with a place for each number T.
-- Assumes nothing.
use mathlib.Core.Path.{◌≡◌, refl, sym, ◌∙◌}
use mathlib.Core.Bool.{Bool, true, false, cond, ◌||◌}
use mathlib.Core.List.{List, [], ◌∷◌, map}
use Prim.Native.Nat.{ℕ, zero, suc, ◌≤◌, ◌<◌}
use native.Mathlib.Omega.{arith}
use borrow.Author.Tests.{eq-eqb, ne_eqb, eqb-true}
use lib.Dec.{eqb}
use lib.ListN.{length, get_or}
use lib.Seq.{ext_get_or}
use Rattle.lists.specs.Each.{Each}
use Rattle.lists.proofs.Each.{each_of, each_map}
use Rattle.treaty.specs.declared.Treaty.{Treaty}
use Rattle.treaty.specs.Ranges.{TermsInRange}
use Rattle.programme.specs.Contract.{no_treaty}
use Rattle.events.specs.Rules.{in_table}
use Rattle.losses.specs.Treaties.{each_number, with_number, numbered}

module _ {A : Type 0} (f : ℕ → A) (d : A) where
  -- what stands in the place of a number
  pub at-number : (n : ℕ) → n ≤ 8 → get_or (map f each_number) n d ≡ f n
  at-number zero h = refl
  at-number (suc zero) h = refl
  at-number (suc (suc zero)) h = refl
  at-number (suc (suc (suc zero))) h = refl
  at-number (suc (suc (suc (suc zero)))) h = refl
  at-number (suc (suc (suc (suc (suc zero))))) h = refl
  at-number (suc (suc (suc (suc (suc (suc zero)))))) h = refl
  at-number (suc (suc (suc (suc (suc (suc (suc zero))))))) h = refl
  at-number (suc (suc (suc (suc (suc (suc (suc (suc zero)))))))) h = refl
  at-number (suc (suc (suc (suc (suc (suc (suc (suc (suc n))))))))) h = absurd (omega arith)

  -- nine places are told by what stands in each
  pub nine-places : (l : List A) → length l ≡ 9 → ((n : ℕ) → n ≤ 8 → get_or l n d ≡ f n) → l ≡ map f each_number
  nine-places l e g =
      ext_get_or d l (map f each_number) e (λ n h. g n (omega arith) ∙ sym (at-number n (omega arith)))

-- a table of numbers up to 8 lacks every number above
pub number-lacking : (ts : List Treaty) → Each (λ (t : Treaty). t.number ≤ 8) ts → (n : ℕ) → 8 < n
    → in_table ts n ≡ false
number-lacking [] z n h = ne_eqb n 0 (λ e. omega arith)
number-lacking (t ∷ ts) z n h =
    rw (ne_eqb n t.number (λ e. omega (arith, z.0))) (number-lacking ts z.1 n h)

-- a number is in the table where it stands in its place, 0 where no treaty does
pub number-stands : (ts : List Treaty) (n : ℕ) → (with_number ts n).number ≡ n → in_table ts n ≡ true
number-stands [] n e = eq-eqb n 0 (sym e)
number-stands (t ∷ ts) n e = first (eqb n t.number) (with_number ts n) e (number-stands ts n)
  where
    first : (b : Bool) (s : Treaty) {c : Bool} → (cond b t s).number ≡ n → (s.number ≡ n → c ≡ true) → (b || c) ≡ true
    first true s e f = refl
    first false s e f = f e

-- and only there
pub number_lacks : (ts : List Treaty) (n : ℕ) → ((with_number ts n).number ≡ n → ⊥) → in_table ts n ≡ false
number_lacks [] n e = ne_eqb n 0 (λ q. e (sym q))
number_lacks (t ∷ ts) n e = first (eqb n t.number) refl (with_number ts n) e (number_lacks ts n)
  where
    first : (b : Bool) → eqb n t.number ≡ b → (s : Treaty) {c : Bool} → ((cond b t s).number ≡ n → ⊥)
        → ((s.number ≡ n → ⊥) → c ≡ false) → (b || c) ≡ false
    first true q s e f = absurd (e (sym (eqb-true n t.number q)))
    first false q s e f = f e

-- what holds of each treaty of a table, and where there is none, holds of each in its place
module _ (P : Treaty → Type 0) (none : P no_treaty) where
  each_with : (ts : List Treaty) → Each P ts → (n : ℕ) → P (with_number ts n)
  each_with [] e n = none
  each_with (t ∷ ts) e n = one (eqb n t.number) e.0 (each_with ts e.1 n)
    where
      one : (b : Bool) {s u : Treaty} → P s → P u → P (cond b s u)
      one true p q = p
      one false p q = q

  pub each-numbered : (ts : List Treaty) → Each P ts → Each P (numbered ts)
  each-numbered ts e =
      each_map P (with_number ts) each_number (each_of (λ (n : ℕ). P (with_number ts n)) (each_with ts e) each_number)

-- terms in range
pub numbered-terms : (ts : List Treaty) → Each TermsInRange ts → Each TermsInRange (numbered ts)
numbered-terms =
    each-numbered TermsInRange record {
      cede = omega arith;
      capacity = omega arith;
      retention = omega arith;
      lines = omega arith;
      limit = omega arith;
    }
