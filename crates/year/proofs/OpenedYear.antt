-- Histories begin with the standing that opening gives.
-- Assumes nothing.
use mathlib.Core.Path.{◌≡◌}
use Rattle.lists.proofs.Cases.{by_test}
use Rattle.programme.specs.declared.contract.Programme.{Programme}
use Rattle.programme.specs.Valid.{valid}
use Rattle.year.specs.Standing.{fresh, open_of}

-- for every programme, also one that opening refuses
pub opened-fresh : (p : Programme) → (open_of p).standing ≡ fresh
unfolding open_of
opened-fresh p = by_test (valid p) (λ v. simp (open_of, ← v)) (λ v. simp (open_of, ← v))
