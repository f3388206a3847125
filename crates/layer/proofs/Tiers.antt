-- Laws of a tier.
-- Assumes nothing.
use mathlib.Core.Path.{◌≡◌, refl, ap}
use mathlib.Core.List.{List, [], ◌∷◌, ◌++◌, map}
use Prim.Native.Nat.{ℕ, zero, suc, ◌+◌, ◌-◌, ◌*◌, ◌≤◌, zero-le}
use native.Mathlib.Omega.{arith}
use lib.ListN.{length, take, drop}
use Rattle.lists.specs.Sums.{total}
use Rattle.lists.specs.Each.{Each}
use Rattle.lists.proofs.Bounds.{sum-le-sum, sum-le}
use Rattle.layer.specs.declared.record.Layer.{Layer}
use Rattle.layer.specs.declared.tier.Tier.{Tier}
use Rattle.layer.specs.Layer.{brought_by, recovery_by}
use Rattle.layer.specs.Tier.{layers_after, layers_on, losses_by, recoveries_by, layers_of, tier_after}
use Rattle.layer.specs.Tier.{layers_through, recoveries_through, dues_through, left_through}
use Rattle.layer.specs.Ranges.{Sound, Rising}
use Rattle.layer.proofs.Recoveries.{recovery_le}
use Rattle.layer.proofs.Records.{sound-after, sound-on}
use Rattle.layer.proofs.Through.{on_each, recovered_each, recovered-each-le, due_each, due-total-le}
use Rattle.layer.proofs.Through.{layers-each, recoveries-each, dues-each}

-- for bands that rise from e on, the losses that a subject brings add to at most what lies above e
pub losses-le : (x e : ℕ) (ys : List Layer) → Rising e ys → losses_by x ys ≤ x - e
losses-le x e [] r = zero-le
losses-le x e (y ∷ ys) r = omega (arith, losses-le x (y.terms.attachment + y.terms.limit) ys r.1, r.0)

pub recoveries-le-losses : (x : ℕ) (ys : List Layer) → Each Sound ys → recoveries_by x ys ≤ losses_by x ys
recoveries-le-losses x ys s =
    sum-le-sum Sound (recovery_by x) (λ (y : Layer). brought_by y.terms x)
    (λ y h. recovery_le (brought_by y.terms x) y h.terms.placed) ys s

-- so the recoveries never exceed the subject
pub recoveries-le-subject : (x : ℕ) (ys : List Layer) → Each Sound ys → Rising 0 ys → recoveries_by x ys ≤ x
recoveries-le-subject x ys s r = omega (arith, recoveries-le-losses x ys s, losses-le x 0 ys r)

-- however many amounts there are, recoveries and premiums stay within those of a year
pub recoveries-through-le : (xs : List ℕ) (ls : List Layer) → Each Sound ls
    → recoveries_through xs ls ≤ length ls * 210000000000000
recoveries-through-le xs ls s =
    rw (recoveries-each xs ls)
    (sum-le Sound (recovered_each xs) 210000000000000 (λ y h. omega (arith, recovered-each-le xs y h, h.terms)) ls s)

pub dues-through-le : (share : ℕ) → share ≤ 10000 → (xs : List ℕ) (ls : List Layer) → Each Sound ls
    → dues_through share xs ls ≤ length ls * 40000000000000
dues-through-le share f xs ls s =
    rw (dues-each share xs ls)
    (sum-le Sound (due_each share xs) 40000000000000 (λ y h. omega (arith, due-total-le xs y h share f, h.terms)) ls s)

-- without layers all of the amounts is left
pub none-recovered : (xs : List ℕ) → left_through xs [] ≡ total xs
none-recovered [] = refl
none-recovered (x ∷ xs) = omega (arith, none-recovered xs)

-- sound layers stay sound, and their bands rise as before
pub each_after : (x : ℕ) (ys : List Layer) → Each Sound ys → Each Sound (layers_after x ys)
each_after x [] s = tt
each_after x (y ∷ ys) s = (sound-after (brought_by y.terms x) y s.0, each_after x ys s.1)

pub each_on : (share : ℕ) → share ≤ 10000 → (x : ℕ) (ys : List Layer) → Each Sound ys → Each Sound (layers_on share x ys)
each_on share f x [] s = tt
each_on share f x (y ∷ ys) s = (sound-on share f (brought_by y.terms x) y s.0, each_on share f x ys s.1)

pub rising-after : (x e : ℕ) (ys : List Layer) → Rising e ys → Rising e (layers_after x ys)
rising-after x e [] r = tt
rising-after x e (y ∷ ys) r = (r.0, rising-after x (y.terms.attachment + y.terms.limit) ys r.1)

-- what a tier leaves of its subjects never goes below 0
pub recovered_and_left_through : (xs : List ℕ) (ls : List Layer) → Each Sound ls → Rising 0 ls
    → recoveries_through xs ls + left_through xs ls ≡ total xs
recovered_and_left_through [] ls s r = refl
recovered_and_left_through (x ∷ xs) ls s r =
    omega (
      arith,
      recoveries-le-subject x ls s r,
      recovered_and_left_through xs (layers_after x ls) (each_after x ls s) (rising-after x 0 ls r),
    )

-- the first n places of which each was replaced
first_mapped : (f : Layer → Layer) (n : ℕ) (l : List Layer) → take n (map f (take n l) ++ drop n l) ≡ map f (take n l)
first_mapped f zero l = refl
first_mapped f (suc n) [] = refl
first_mapped f (suc n) (y ∷ ys) = ap (λ zs. f y ∷ zs) (first_mapped f n ys)

-- the layers of the tier after amounts are its layers, each brought up to date
pub layers-through : (share : ℕ) (xs : List ℕ) (t : Tier)
    → layers_of (tier_after share xs t) ≡ layers_through share xs (layers_of t)
layers-through share xs t =
    rw (layers-each share xs (layers_of t)) (first_mapped (on_each share xs) t.count t.layers)
