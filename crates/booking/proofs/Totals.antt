-- Amounts added: those of an event to the totals of those before it.
-- Assumes nothing.
use mathlib.Core.Path.{◌≡◌, ◌∙◌}
use mathlib.Core.List.{List, [], ◌∷◌, ◌++◌}
use Prim.Native.Nat.{ℕ, ◌+◌, ◌≤◌}
use native.Mathlib.Omega.{arith}
use Rattle.lists.specs.Each.{Each}
use Rattle.year.specs.declared.Amounts.{Amounts}
use Rattle.year.specs.Statement.{EventLine, added, totals, amounts_numbers}
use Rattle.year.proofs.Parts.{totals-append}

-- the totals with those of one event more
pub totals-next : (ls : List EventLine) (l : EventLine) → totals (ls ++ (l ∷ [])) ≡ added (totals ls ∷ l.amounts ∷ [])
totals-next ls l = totals-append ls (l ∷ []) ∙ alone (totals ls) l.amounts
  where
    nothing-more : (m n : ℕ) → m + (n + 0 + 0) ≡ m + (n + 0)
    nothing-more m n = omega arith

    alone : (a b : Amounts) → added (a ∷ added (b ∷ []) ∷ []) ≡ added (a ∷ b ∷ [])
    alone a b i = record {
      gross = nothing-more a.gross b.gross i;
      ceded = nothing-more a.ceded b.ceded i;
      risk = nothing-more a.risk b.risk i;
      cat = nothing-more a.cat b.cat i;
      net = nothing-more a.net b.net i;
      premium = nothing-more a.premium b.premium i;
    }

-- amounts of at most b, added to amounts of at most c
pub amounts-added-le : (b c m : ℕ) (u v : Amounts) → b + c ≤ m → Each (λ (n : ℕ). n ≤ b) (amounts_numbers u)
    → Each (λ (n : ℕ). n ≤ c) (amounts_numbers v) → Each (λ (n : ℕ). n ≤ m) (amounts_numbers (added (u ∷ v ∷ [])))
amounts-added-le b c m u v h (a₁, (a₂, (a₃, (a₄, (a₅, (a₆, _)))))) (b₁, (b₂, (b₃, (b₄, (b₅, (b₆, _)))))) =
    (omega arith, (omega arith, (omega arith, (omega arith, (omega arith, (omega arith, tt))))))
