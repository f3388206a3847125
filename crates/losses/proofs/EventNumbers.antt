-- Losses and events as numbers: read back, counted, put together, and told apart.
-- Assumes nothing.
use mathlib.Core.Path.{◌≡◌, refl, sym, ap, ◌∙◌}
use mathlib.Core.List.{List, [], ◌∷◌, ◌++◌, append_assoc}
use Prim.Native.Nat.{ℕ, ◌*◌}
use native.Mathlib.Omega.{arith}
use lib.ListN.{length, take, drop, get_or}
use lib.Seq.{take_at, drop_at}
use Rattle.treaty.specs.declared.Loss.{Loss}
use Rattle.events.specs.Event.{Event}
use Rattle.losses.specs.Cede.{losses_from}
use Rattle.losses.specs.Event.{loss_numbers, events_numbers}

-- the numbers of losses are those of these losses again
pub losses-back : (xs : List Loss) → losses_from (loss_numbers xs) ≡ xs
losses-back [] = refl
losses-back (x ∷ xs) = ap (λ (ys : List Loss). x ∷ ys) (losses-back xs)

pub numbers-length : (xs : List Loss) → length (loss_numbers xs) ≡ 3 * length xs
numbers-length [] = refl
numbers-length (x ∷ xs) = omega (arith, numbers-length xs)

pub numbers-append : (xs ys : List Loss) → loss_numbers (xs ++ ys) ≡ loss_numbers xs ++ loss_numbers ys
numbers-append [] ys = refl
numbers-append (x ∷ xs) ys =
    ap (λ (ns : List ℕ). x.treaty ∷ x.maximum ∷ x.amount ∷ ns) (numbers-append xs ys)

pub events-append : (es fs : List Event) → events_numbers (es ++ fs) ≡ events_numbers es ++ events_numbers fs
events-append [] fs = refl
events-append (e ∷ es) fs =
    ap (λ (ns : List ℕ). e.day ∷ length e.losses ∷ ns)
    (ap (λ (ns : List ℕ). loss_numbers e.losses ++ ns) (events-append es fs)
    ∙ sym (append_assoc (loss_numbers e.losses) (events_numbers es) (events_numbers fs)))

-- as many losses with the same numbers in front of others are the same, and so are the others
module _ (xs ys : List Loss) (ns ms : List ℕ) (count : length xs ≡ length ys)
    (e : loss_numbers xs ++ ns ≡ loss_numbers ys ++ ms) where
  same-losses : xs ≡ ys
  same-losses =
      sym (losses-back xs)
      ∙ ap losses_from
      (sym (take_at (loss_numbers xs) ns (3 * length xs) (numbers-length xs))
      ∙ ap (take (3 * length xs)) e
      ∙ take_at (loss_numbers ys) ms (3 * length xs) (omega (arith, numbers-length ys)))
      ∙ losses-back ys

  same_rest : ns ≡ ms
  same_rest =
      sym (drop_at (loss_numbers xs) ns (3 * length xs) (numbers-length xs))
      ∙ ap (drop (3 * length xs)) e
      ∙ drop_at (loss_numbers ys) ms (3 * length xs) (omega (arith, numbers-length ys))

-- events with the same numbers are the same
pub events-same : (es fs : List Event) → events_numbers es ≡ events_numbers fs → es ≡ fs
events-same [] [] q = refl
events-same [] (f ∷ fs) q = absurd (omega (arith, ap length q))
events-same (e ∷ es) [] q = absurd (omega (arith, ap length q))
events-same (e ∷ es) (f ∷ fs) q =
    let day : e.day ≡ f.day = ap (λ (ns : List ℕ). get_or ns 0 0) q in
    let count : length e.losses ≡ length f.losses = ap (λ (ns : List ℕ). get_or ns 1 0) q in
    let others = ap (drop 2) q in
    let losses = same-losses e.losses f.losses (events_numbers es) (events_numbers fs) count others in
    let rest = same_rest e.losses f.losses (events_numbers es) (events_numbers fs) count others in
    let later = events-same es fs rest in
    λ i. record { day = day i; losses = losses i } ∷ later i
