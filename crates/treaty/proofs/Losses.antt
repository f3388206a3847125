-- What the treaties of a table cede and leave of an event's losses in turn.
-- Assumes nothing.
use Prim.{Unit}
use mathlib.Core.Path.{◌≡◌, refl, sym, ap, ◌∙◌}
use mathlib.Core.Bool.{Bool, true, false, cond}
use mathlib.Core.List.{List, [], ◌∷◌, ◌++◌}
use Prim.Native.Nat.{ℕ, ◌+◌, ◌≤◌, ◌<◌, zero-le}
use native.Mathlib.Nat.{zero-add, add-zero, add_assoc}
use native.Mathlib.Omega.{arith}
use borrow.Author.Tests.{ne_eqb, eqb-true, eq-eqb}
use lib.Dec.{eqb}
use Rattle.lists.specs.Sums.{sum_of, total}
use Rattle.lists.specs.Each.{Each}
use Rattle.lists.proofs.Sums.{sum_same, sum-add, sum-zero}
use Rattle.treaty.specs.declared.Treaty.{Treaty}
use Rattle.treaty.specs.declared.Loss.{Loss}
use Rattle.treaty.specs.Treaty.{ceded_of_loss, cessions_from, own_losses, taken_by}
use Rattle.treaty.specs.Losses.{gross_of, ceded_in, ceded_of_each, left_of_each}
use Rattle.treaty.proofs.Cessions.{cond_le, ceded-le-amount}
use Rattle.treaty.proofs.Own.{own-append}

-- numbers T that rise strictly, the first above n
abbrev pub Numbered : ℕ → List Treaty → Type 0
Numbered n [] = Unit {0}
Numbered n (t ∷ ts) = (n < t.number) × Numbered t.number ts

-- no more than its amount is ceded of a loss
pub ceded-le-loss : (ts : List Treaty) → Each (λ (t : Treaty). t.cede ≤ 10000) ts → (earlier : List Loss) (x : Loss)
    → ceded_in ts earlier x ≤ x.amount
unfolding ceded_in
ceded-le-loss [] c earlier x = zero-le
ceded-le-loss (t ∷ ts) c earlier x =
    cond_le (eqb x.treaty t.number) (λ _. ceded-le-amount t (taken_by t earlier) x c.0)
    (λ _. ceded-le-loss ts c.1 earlier x)

-- what is ceded and what is left of losses are their amounts
pub all_ceded_and_left : (ts : List Treaty) → Each (λ (t : Treaty). t.cede ≤ 10000) ts → (earlier xs : List Loss)
    → gross_of xs ≡ total (ceded_of_each ts earlier xs) + total (left_of_each ts earlier xs)
all_ceded_and_left ts c earlier [] = refl
all_ceded_and_left ts c earlier (x ∷ xs) =
    omega (arith, ceded-le-loss ts c earlier x, all_ceded_and_left ts c (earlier ++ (x ∷ [])) xs)

-- what a treaty cedes of a loss after earlier ones: 0 where it is not its own
abbrev pub ceded_of_one : (earlier : List Loss) → Loss → Treaty → ℕ
ceded_of_one earlier x t =
    cond (eqb x.treaty t.number) (ceded_of_loss t (taken_by t earlier) x) 0

-- what it cedes of losses after earlier ones
abbrev ceded_after : (earlier : List Loss) → List Loss → Treaty → ℕ
ceded_after earlier xs t = total (cessions_from (taken_by t earlier) t (own_losses t xs))

-- treaties with numbers above that of a loss cede nothing of it
none-ceded : (n : ℕ) (ts : List Treaty) → Numbered n ts → (earlier : List Loss) (x : Loss) → x.treaty ≤ n
    → sum_of (ceded_of_one earlier x) ts ≡ 0
none-ceded n [] e earlier x h = refl
none-ceded n (t ∷ ts) e earlier x h =
    rw (ne_eqb x.treaty t.number (λ z. omega (arith, e.0)), zero-add)
    (none-ceded t.number ts e.1 earlier x (omega (arith, e.0)))

-- so what is ceded of a loss is what each of them cedes of it, added
ceded-by-each : (n : ℕ) (ts : List Treaty) → Numbered n ts → (earlier : List Loss) (x : Loss)
    → ceded_in ts earlier x ≡ sum_of (ceded_of_one earlier x) ts
unfolding ceded_in
ceded-by-each n [] e earlier x = refl
ceded-by-each n (t ∷ ts) e earlier x =
    own_or_not (eqb x.treaty t.number) (ceded_of_loss t (taken_by t earlier) x)
    (λ q. none-ceded t.number ts e.1 earlier x (omega (arith, eqb-true x.treaty t.number q)))
    (ceded-by-each t.number ts e.1 earlier x)
  where
    own_or_not : (b : Bool) (c : ℕ) {d s : ℕ} → (b ≡ true → s ≡ 0) → d ≡ s → cond b c d ≡ cond b c 0 + s
    own_or_not true c f q = omega (arith, f refl)
    own_or_not false c f q = omega arith

-- one loss more, its own or not, after an amount taken
next-loss : (b : Bool) (taken : ℕ) (t : Treaty) (x : Loss) (l : List Loss)
    → total (cessions_from taken t (cond b (x ∷ l) l))
    ≡ cond b (ceded_of_loss t taken x) 0 + total (cessions_from (taken + cond b (ceded_of_loss t taken x) 0) t l)
next-loss true taken t x l = refl
next-loss false taken t x l = rw (add-zero, zero-add) refl

-- what is taken of losses in two parts
taken-parts : (taken : ℕ) (t : Treaty) (xs ys : List Loss)
    → total (cessions_from taken t (xs ++ ys))
    ≡ total (cessions_from taken t xs) + total (cessions_from (taken + total (cessions_from taken t xs)) t ys)
taken-parts taken t [] ys = rw (add-zero, zero-add) refl
taken-parts taken t (x ∷ xs) ys =
    let c = ceded_of_loss t taken x in
    rw (taken-parts (taken + c) t xs ys, add_assoc taken c, add_assoc c) refl

-- what a treaty took of losses, and of one more
pub taken_next : (t : Treaty) (earlier : List Loss) (x : Loss)
    → taken_by t (earlier ++ (x ∷ [])) ≡ taken_by t earlier + ceded_of_one earlier x t
taken_next t earlier x =
    rw (own-append t earlier (x ∷ []), taken-parts 0 t (own_losses t earlier), zero-add)
    (ap (λ (n : ℕ). taken_by t earlier + n)
    (next-loss (eqb x.treaty t.number) (taken_by t earlier) t x [] ∙ add-zero _))

-- what a treaty cedes of losses is what it cedes of the first, and of the others after it
ceded-next : (earlier : List Loss) (x : Loss) (xs : List Loss) (t : Treaty)
    → ceded_after earlier (x ∷ xs) t ≡ ceded_of_one earlier x t + ceded_after (earlier ++ (x ∷ [])) xs t
ceded-next earlier x xs t =
    rw (taken_next t earlier x)
    (next-loss (eqb x.treaty t.number) (taken_by t earlier) t x (own_losses t xs))

module _ (n : ℕ) (ts : List Treaty) (e : Numbered n ts) where
  -- the same is ceded after earlier losses, loss by loss or treaty by treaty
  ceded-after : (earlier xs : List Loss) → total (ceded_of_each ts earlier xs) ≡ sum_of (ceded_after earlier xs) ts
  ceded-after earlier [] = sym (sum-zero ts)
  ceded-after earlier (x ∷ xs) =
      omega (
        arith,
        ceded-by-each n ts e earlier x,
        ceded-after (earlier ++ (x ∷ [])) xs,
        sum_same (ceded-next earlier x xs) ts,
        sum-add (ceded_of_one earlier x) (ceded_after (earlier ++ (x ∷ [])) xs) ts,
      )

  -- loss by loss or treaty by treaty, the same is ceded of an event
  pub event-ceded : (xs : List Loss) → total (ceded_of_each ts [] xs) ≡ sum_of (λ (t : Treaty). taken_by t xs) ts
  event-ceded xs = ceded-after [] xs

-- a treaty's number is above that of each treaty before it in the table
number-above : (n : ℕ) (before : List Treaty) (t : Treaty) (after : List Treaty)
    → Numbered n (before ++ (t ∷ after)) → n < t.number
number-above n [] t after e = e.0
number-above n (b ∷ before) t after e = omega (arith, e.0, number-above b.number before t after e.1)

-- of a loss with the number of a treaty in the table, that treaty cedes what is ceded
pub ceded-by-own : (n : ℕ) (before : List Treaty) (t : Treaty) (after : List Treaty)
    → Numbered n (before ++ (t ∷ after)) → (earlier : List Loss) (x : Loss)
    → x.treaty ≡ t.number
    → ceded_in (before ++ (t ∷ after)) earlier x ≡ ceded_of_loss t (taken_by t earlier) x
unfolding ceded_in
ceded-by-own n [] t after e earlier x q = rw (eq-eqb x.treaty t.number q)
ceded-by-own n (b ∷ before) t after e earlier x q =
    let above = number-above b.number before t after e.1 in
    rw (ne_eqb x.treaty b.number (λ z. omega (arith, above)))
    (ceded-by-own b.number before t after e.1 earlier x q)

-- what is ceded of the losses with a treaty's number
abbrev pub ceded_of_own : List Treaty → Treaty → (earlier losses : List Loss) → ℕ
ceded_of_own ts t earlier [] = 0
ceded_of_own ts t earlier (x ∷ xs) =
    cond (eqb x.treaty t.number) (ceded_in ts earlier x) 0 + ceded_of_own ts t (earlier ++ (x ∷ [])) xs

-- a treaty's line shows what was ceded of the losses with its number
pub treaty-ceded : (n : ℕ) (before : List Treaty) (t : Treaty) (after : List Treaty)
    → Numbered n (before ++ (t ∷ after)) → (xs : List Loss)
    → ceded_of_own (before ++ (t ∷ after)) t [] xs ≡ taken_by t xs
treaty-ceded n before t after e xs = from [] xs
  where
    own : (earlier : List Loss) (x : Loss) (b : Bool) → eqb x.treaty t.number ≡ b
        → cond b (ceded_in (before ++ (t ∷ after)) earlier x) 0
        ≡ cond b (ceded_of_loss t (taken_by t earlier) x) 0
    own earlier x true q = ceded-by-own n before t after e earlier x (eqb-true x.treaty t.number q)
    own earlier x false q = refl

    from : (earlier xs : List Loss) → ceded_of_own (before ++ (t ∷ after)) t earlier xs ≡ ceded_after earlier xs t
    from earlier [] = refl
    from earlier (x ∷ xs) =
        omega (
          arith,
          own earlier x (eqb x.treaty t.number) refl,
          from (earlier ++ (x ∷ [])) xs,
          ceded-next earlier x xs t,
        )
