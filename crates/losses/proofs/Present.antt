-- The treaties of a table are those that stand in the places of its numbers.
-- Assumes nothing.
use mathlib.Core.Path.{◌≡◌, refl, ap, ◌∙◌}
use mathlib.Core.Bool.{cond}
use mathlib.Core.List.{List, [], ◌∷◌, map}
use Prim.Native.Nat.{ℕ, zero, suc, ◌+◌, ◌≤◌, ◌<◌}
use native.Mathlib.Omega.{arith}
use borrow.Author.Tests.{eq-eqb, ne_eqb}
use lib.Dec.{eqb}
use Rattle.lists.specs.Each.{Each}
use Rattle.lists.proofs.Cases.{by-lt}
use Rattle.treaty.specs.declared.Treaty.{Treaty}
use Rattle.treaty.proofs.Losses.{Numbered}
use Rattle.programme.specs.Contract.{no_treaty}
use Rattle.losses.specs.Treaties.{with_number, numbered, present}

-- n numbers from k on
abbrev up_from : ℕ → ℕ → List ℕ
up_from k zero = []
up_from k (suc n) = k ∷ up_from (suc k) n

-- no treaty of a table has a number below all of its own
none_with : (m : ℕ) (ts : List Treaty) → Numbered m ts → (n : ℕ) → n ≤ m → with_number ts n ≡ no_treaty
none_with m [] e n h = refl
none_with m (t ∷ ts) e n h =
    rw (ne_eqb n t.number (λ q. omega (arith, e.0))) (none_with t.number ts e.1 n (omega (arith, e.0)))

-- a treaty, if it has a number, in front of those present after it
abbrev and_then : Treaty → List Treaty → List Treaty
and_then t ts = cond (eqb t.number 0) ts (t ∷ ts)

none-there : {s : Treaty} {ss ts : List Treaty} → s ≡ no_treaty → ss ≡ ts → and_then s ss ≡ ts
none-there e q = rw e q

one-there : {s t : Treaty} {ss ts : List Treaty} → s ≡ t → 0 < t.number → ss ≡ ts → and_then s ss ≡ t ∷ ts
one-there {t = t} e h q =
    rw (e, ne_eqb t.number 0 (λ o. omega arith)) (ap (λ (us : List Treaty). t ∷ us) q)

-- Places from the number after m up to b hold the treaties of a table, whose numbers are all among these: those
-- present are the table's.
present-from : (f : ℕ → Treaty) (b n m : ℕ) → b ≡ m + n → (ts : List Treaty) → Numbered m ts
    → Each (λ (t : Treaty). t.number ≤ b) ts → ((k : ℕ) → m < k → f k ≡ with_number ts k)
    → present (map f (up_from (suc m) n)) ≡ ts
present-from f b zero m q [] e z g = refl
present-from f b zero m q (t ∷ ts) e z g = absurd (omega (arith, e.0, z.0))
present-from f b (suc n) m q [] e z g =
    none-there (g (suc m) (omega arith))
    (present-from f b n (suc m) (omega arith) [] tt tt (λ k l. g k (omega arith)))
present-from f b (suc n) m q (t ∷ ts) e z g =
    by-lt (suc m) t.number
    (λ h.
    none-there
    (g (suc m) (omega arith) ∙ none_with (suc m) (t ∷ ts) (h, e.1) (suc m) (omega arith))
    (present-from f b n (suc m) (omega arith) (t ∷ ts) (h, e.1) z (λ k l. g k (omega arith))))
    (λ h.
    let is : suc m ≡ t.number = omega (arith, e.0) in
    one-there (g (suc m) (omega arith) ∙ rw (eq-eqb (suc m) t.number is)) (omega arith)
    (present-from f b n (suc m) (omega arith) ts (rw is e.1) z.1
    (λ k l. g k (omega arith) ∙ rw (ne_eqb k t.number (λ o. omega arith)))))

-- so those of the nine places
pub present-numbered : (ts : List Treaty) → Numbered 0 ts → Each (λ (t : Treaty). t.number ≤ 8) ts
    → present (numbered ts) ≡ ts
present-numbered ts e z =
    none-there (none_with 0 ts e 0 (omega arith))
    (present-from (with_number ts) 8 8 0 (omega arith) ts e z (λ k h. refl))
