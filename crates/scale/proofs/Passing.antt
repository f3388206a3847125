-- Document 02, Q-12: what the test of a scale tells of its shares, and how the code makes the test.
-- Assumes nothing.
use mathlib.Core.Bool.{true, false}
use mathlib.Core.Path.{◌≡◌, refl, sym, ◌∙◌}
use mathlib.Core.List.{List, [], ◌∷◌}
use Prim.Native.Nat.{ℕ, zero, suc, ◌+◌, ◌-◌, ◌≤◌, ◌<◌}
use native.Mathlib.Omega.{arith}
use borrow.Author.Tests.{eqb-true, leb-true, lt-leb, le-leb, ne_eqb}
use lib.Dec.{eqb, leb}
use lib.ListN.{length, take, get_or}
use lib.Seq.{take_all}
use Rattle.lists.proofs.Each.{each-every}
use Rattle.lists.proofs.Chains.{both, Chaining, chain-begins, chain_next, chain-stops, chain-ends}
use Rattle.scale.specs.Scale.{share_on, not_above, never_rising, scale_passes, Fair, none_over}

-- no share is above what stands before the first
never-up : (n : ℕ) (ss : List ℕ) → never_rising n ss ≡ true → (i : ℕ) → get_or ss i 0 ≤ n
never-up n [] e i = omega arith
never-up n (s ∷ ss) e zero = leb-true s n (both (leb s n) (never_rising s ss) e).0
never-up n (s ∷ ss) e (suc i) =
    let b = both (leb s n) (never_rising s ss) e in
    omega (arith, leb-true s n b.0, never-up s ss b.1 i)

-- nor above an earlier one
falling : (n : ℕ) (ss : List ℕ) → never_rising n ss ≡ true → (i j : ℕ) → i ≤ j → get_or ss j 0 ≤ get_or ss i 0
falling n [] e i j h = omega arith
falling n (s ∷ ss) e zero zero h = omega arith
falling n (s ∷ ss) e zero (suc j) h = never-up s ss (both (leb s n) (never_rising s ss) e).1 j
falling n (s ∷ ss) e (suc i) zero h = absurd (omega arith)
falling n (s ∷ ss) e (suc i) (suc j) h = falling s ss (both (leb s n) (never_rising s ss) e).1 i j (omega arith)

each-fair : (n : ℕ) (ss : List ℕ) → n ≤ 10000 → never_rising n ss ≡ true → Fair ss
each-fair n [] h e = tt
each-fair n (s ∷ ss) h e =
    let b = both (leb s n) (never_rising s ss) e in
    let first = leb-true s n b.0 in
    (omega arith, each-fair s ss (omega arith) b.1)

-- shares of which the test finds none above the whole, and the other way round
pub over-none : (ss : List ℕ) → none_over ss ≡ true → Fair ss
over-none ss e = each-every _ (λ (s : ℕ). leb s 10000) (λ s. leb-true s 10000) ss e

pub fair-over : (ss : List ℕ) → Fair ss → none_over ss ≡ true
fair-over [] f = refl
fair-over (s ∷ ss) f = rw (le-leb s 10000 f.0, fair-over ss f.1)

-- of a scale: 366 shares, of which none is over 10,000 and none above that of an earlier day
module _ (ss : List ℕ) (e : scale_passes ss ≡ true) where
  tests : (eqb (length ss) 366 ≡ true) × (never_rising 10000 ss ≡ true)
  unfolding scale_passes
  tests = both (eqb (length ss) 366) (never_rising 10000 ss) e

  pub passes-never-rising : never_rising 10000 ss ≡ true
  passes-never-rising = tests.1

  pub passes-length : length ss ≡ 366
  passes-length = eqb-true (length ss) 366 tests.0

  pub passes-falls : (c d : ℕ) → c ≤ d → share_on ss d ≤ share_on ss c
  passes-falls c d h = falling 10000 ss passes-never-rising (c - 1) (d - 1) (omega arith)

  pub passes-over : none_over ss ≡ true
  passes-over = fair-over ss (each-fair 10000 ss (omega arith) passes-never-rising)

  pub passes-fair : Fair ss
  passes-fair = each-fair 10000 ss (omega arith) passes-never-rising

-- where no share of a list is over 10,000, that of no day is; a day that the list lacks has the share 0
pub fair-on : (shares : List ℕ) → Fair shares → (d : ℕ) → share_on shares d ≤ 10000
fair-on shares fair d = at shares fair (d - 1)
  where
    at : (ss : List ℕ) → Fair ss → (i : ℕ) → get_or ss i 0 ≤ 10000
    at [] f i = omega arith
    at (s ∷ ss) f zero = f.0
    at (s ∷ ss) f (suc i) = at ss f.1 i

-- a list of another length is no scale
pub wrong_length : (ss : List ℕ) → (length ss ≡ 366 → ⊥) → false ≡ scale_passes ss
unfolding scale_passes
wrong_length ss h = sym (simp (scale_passes, ne_eqb (length ss) 366 h))

-- the shares of a list of the right length, place by place: at place i after the share n
pub record Falling (ss : List ℕ) (n i : ℕ) : Type 0 where
  pub days : length ss ≡ 366
  pub chain : Chaining not_above (λ (s : ℕ). s) 10000 (length ss) ss n i

pub falling-begins : (ss : List ℕ) → length ss ≡ 366 → Falling ss 10000 0
falling-begins ss h = record {
  days = h;
  chain = chain-begins not_above (λ (s : ℕ). s) 10000 (length ss) ss (omega arith);
}

module _ (ss : List ℕ) (n i : ℕ) (g : Falling ss n i) where
  whole : never_rising 10000 (take (length ss) ss) ≡ scale_passes ss
  unfolding scale_passes
  whole = rw (take_all (length ss) ss (omega arith)) (sym (simp (scale_passes, g.days)))

  module _ (h : i < length ss) where
    pub falling-on : get_or ss i 0 ≤ n → Falling ss (get_or ss i 0) (i + 1)
    falling-on l = record { days = g.days; chain = chain_next g.chain 0 h (le-leb _ _ l) }

    pub falling-stops : n < get_or ss i 0 → false ≡ scale_passes ss
    falling-stops l = chain-stops g.chain 0 h (lt-leb _ _ l) ∙ whole

  pub falling-ends : length ss ≤ i → true ≡ scale_passes ss
  falling-ends h = chain-ends g.chain h ∙ whole
