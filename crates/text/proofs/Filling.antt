-- Laws of a template that is put into a buffer, byte by byte.
-- Assumes nothing.
use Rattle.std.proofs.Common.{◌≡◌, ℕ, ◌+◌, ◌*◌, ◌^◌, ◌<◌, ◌≤◌, Bool, true, false, List, [], ◌∷◌, ◌++◌, length, get_or, drop, sym, ◌∙◌, add-zero, add-one, arith, drop_of_length-le, get_or-drop, drop-cons, drop-drop}
use Rattle.text.specs.Buffer.{Put}
use Rattle.text.specs.Number.{digits}
use Rattle.text.specs.Template.{capital, holes, filled}
use Rattle.text.proofs.Printing.{printed-append}
use Rattle.text.proofs.Puts.{Putting, none-put, one-put, all-put, putting-length}

-- what is printed from the place i of the template t on, with the numbers from the place k on
abbrev rest : List ℕ → List ℕ → ℕ → ℕ → List ℕ
rest t ns k i = filled (drop i t) (drop k ns) []

module _ (t ns : List ℕ) (k i : ℕ) where
  rest-none : length t ≤ i → rest t ns k i ≡ []
  unfolding filled
  rest-none h = rw (drop_of_length-le t h)

  module _ (h : i < length t) where
    module _ (e : true ≡ capital (get_or t i 0)) where
      rest-number : rest t ns k i ≡ digits (get_or ns k 0) ++ rest t ns (k + 1) (i + 1)
      unfolding filled
      rest-number =
          rw (drop-cons t i 0 h, add-one i)
          (simp (filled, ← e, get_or-drop, add-zero, drop-drop) (printed-append (get_or ns k 0) [] _))

      holes-number : holes (drop i t) ≡ holes (drop (i + 1) t) + 1
      unfolding holes
      holes-number = rw (drop-cons t i 0 h, add-one i) (simp (holes, ← e) (omega arith))

    module _ (e : false ≡ capital (get_or t i 0)) where
      rest-byte : rest t ns k i ≡ (get_or t i 0 ∷ []) ++ rest t ns k (i + 1)
      unfolding filled
      rest-byte = rw (drop-cons t i 0 h, add-one i) (simp (filled, ← e))

      holes-byte : holes (drop i t) ≡ holes (drop (i + 1) t)
      unfolding holes
      holes-byte = rw (drop-cons t i 0 h, add-one i) (simp (holes, ← e))

-- The template t is put with the numbers ns into the buffer d from the place `at` on: the buffer is d' now, and what
-- is printed from the place i of the template and the place k of the numbers on is still to be put, from the place j.
pub record Filling (t ns d : List ℕ) (at : ℕ) (d' : List ℕ) (k j i : ℕ) : Type 0 where
  pub in_template : i ≤ length t
  pub numbers : k + holes (drop i t) ≤ length ns
  pub short : j ≤ at + 20 * i
  pub putting : Putting d at (filled t ns []) d' j (rest t ns k i)

pub none_filled : (t ns d : List ℕ) (at : ℕ) → holes t ≤ length ns → Filling t ns d at d 0 at 0
none_filled t ns d at h = record {
  in_template = omega arith;
  numbers = omega arith;
  short = omega arith;
  putting = none-put d at (filled t ns []);
}

module _ (t ns d : List ℕ) (at : ℕ) (d' : List ℕ) (k j i : ℕ) (g : Filling t ns d at d' k j i) where
  pub filling_length : length d' ≡ length d
  filling_length = putting-length g.putting

  pub filling_small : at < 2 ^ 61 → length t < 2 ^ 32 → j < 2 ^ 62
  filling_small a l = omega (arith, g.in_template, g.short)

  pub all-filled : length t ≤ i → Put d at (filled t ns []) d' j
  all-filled h = all-put g.putting (rest-none t ns k i h)

  pub all_short : length t ≤ i → j ≤ at + 20 * length t
  all_short h = omega (arith, g.in_template, g.short)

  module _ (f : Bool) (e : f ≡ capital (get_or t i 0)) (h : i < length t) where
    -- a number's place
    module _ (y : f ≡ true) where
      pub number-there : k < length ns
      number-there = omega (arith, g.numbers, holes-number t ns k i h (sym y ∙ e))

      pub number-filled : (d'' : List ℕ) (r : ℕ) → Put d' j (digits (get_or ns k 0)) d'' r → r ≤ j + 20
          → Filling t ns d at d'' (k + 1) r (i + 1)
      number-filled d'' r p b = record {
        in_template = omega arith;
        numbers = omega (arith, g.numbers, holes-number t ns k i h (sym y ∙ e));
        short = omega (arith, g.short);
        putting = one-put g.putting _ _ (rest-number t ns k i h (sym y ∙ e)) p;
      }

    -- a byte for itself
    module _ (y : f ≡ false) where
      pub byte-filled : (d'' : List ℕ) (r : ℕ) → Put d' j (get_or t i 0 ∷ []) d'' r
          → Filling t ns d at d'' k r (i + 1)
      byte-filled d'' r p = record {
        in_template = omega arith;
        numbers = omega (arith, g.numbers, holes-byte t ns k i h (sym y ∙ e));
        short = omega (arith, g.short, p.place);
        putting = one-put g.putting _ _ (rest-byte t ns k i h (sym y ∙ e)) p;
      }
