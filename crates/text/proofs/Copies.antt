-- A pass over elements that are put as they are, one after another.
-- Assumes nothing.
use Rattle.std.proofs.Common.{◌≡◌, ℕ, suc, ◌+◌, ◌^◌, ◌<◌, ◌≤◌, List, [], ◌∷◌, length, get_or, drop, set, sym, refl, ap, ◌∙◌, add-zero, add-one, arith, drop_of_length-le, drop-cons}
use Rattle.text.specs.Buffer.{Put}
use Rattle.text.proofs.Puts.{Putting, none-put, one-put, all-put, putting-length}

-- ns is put into d from the place `at` on: the first i of it are, d is d' now, and the place after them is `next`
pub record Copying {A : Type 0} (ns d : List A) (at : ℕ) (d' : List A) (next i : ℕ) : Type 0 where
  pub within : i ≤ length ns
  pub place : next ≡ at + i
  pub putting : Putting d at ns d' next (drop i ns)

module _ {A : Type 0} (ns d : List A) (at : ℕ) where
  pub none_copied : Copying ns d at d at 0
  none_copied = record { within = omega arith; place = omega arith; putting = none-put d at ns }

  module _ (d' : List A) (next i : ℕ) (g : Copying ns d at d' next i) where
    pub copied_length : length d' ≡ length d
    copied_length = putting-length g.putting

    pub next_small : i < length ns → at + length ns < 2 ^ 63 → next < 2 ^ 63
    next_small h k = omega (arith, g.place)

    -- x, the element in the place i
    pub one_copied : i < length ns → (x : A) → x ≡ get_or ns i x → {d'' : List A} {end : ℕ}
        → Put d' next (x ∷ []) d'' end → Copying ns d at d'' end (i + 1)
    one_copied h x e {d''} {end} p = record {
      within = omega arith;
      place = omega (arith, g.place, p.place);
      putting = one-put g.putting (x ∷ []) (drop (i + 1) ns) next_element p;
    }
      where
        next_element : drop i ns ≡ x ∷ drop (i + 1) ns
        next_element =
            rw (add-one i) (drop-cons ns i x h ∙ ap (λ (y : A). y ∷ drop (suc i) ns) (sym e))

    pub all_copied : length ns ≤ i → Put d at ns d' next
    all_copied h = all-put g.putting (drop_of_length-le ns h)
