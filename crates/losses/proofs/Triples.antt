-- Numbers as losses, three a loss: how many they are, and the one in a place.
-- Assumes nothing.
use mathlib.Core.Path.{◌≡◌, refl}
use mathlib.Core.List.{List, [], ◌∷◌}
use Prim.Native.Nat.{ℕ, zero, suc, ◌+◌, ◌*◌, ◌/◌, ◌<◌}
use native.Mathlib.Omega.{arith}
use lib.ListN.{length, get_or}
use Rattle.treaty.specs.Treaty.{loss_of}
use Rattle.losses.specs.Cede.{losses_from}

pub losses-count : (ns : List ℕ) → length (losses_from ns) ≡ length ns / 3
losses-count [] = refl
losses-count (t ∷ []) = refl
losses-count (t ∷ e ∷ []) = refl
losses-count (t ∷ e ∷ g ∷ ns) = omega (arith, losses-count ns)

-- the numbers of a loss are among those given
pub loss-inside : (ns : List ℕ) (i : ℕ) → i < length (losses_from ns) → 3 * i + 2 < length ns
loss-inside ns i h = omega (arith, losses-count ns)

pub loss-read : (ns : List ℕ) (i : ℕ) → i < length (losses_from ns)
    → loss_of (get_or ns (3 * i) 0) (get_or ns (3 * i + 1) 0) (get_or ns (3 * i + 2) 0)
    ≡ get_or (losses_from ns) i (loss_of 0 0 0)
loss-read [] i h = absurd (omega arith)
loss-read (t ∷ []) i h = absurd (omega arith)
loss-read (t ∷ e ∷ []) i h = absurd (omega arith)
loss-read (t ∷ e ∷ g ∷ ns) zero h = refl
loss-read (t ∷ e ∷ g ∷ ns) (suc i) h =
    let first : 3 * suc i ≡ suc (suc (suc (3 * i))) = omega arith in
    let second : suc (suc (suc (3 * i))) + 1 ≡ suc (suc (suc (3 * i + 1))) = omega arith in
    let third : suc (suc (suc (3 * i))) + 2 ≡ suc (suc (suc (3 * i + 2))) = omega arith in
    rw (first, second, third) (loss-read ns i (omega arith))
