-- Document 01, The table text: "Capitals below are numbers." A template is a line form as document 01 prints it: each
-- capital letter stands for a number, in order, and every other byte for itself.
-- Assumes nothing.
use Rattle.std.specs.Prelude.{ℕ, suc, ◌-◌, Bool, true, false, ◌&&◌, List, [], ◌∷◌, ◌++◌, length, drop, ◌==◌, nat_le, slice_index}
use Rattle.std.specs.Prelude.{Option, None, Some}
use Rattle.lists.specs.Places.{in_places}
use Rattle.text.specs.Number.{printed, number}
use Rattle.text.specs.declared.template.Matched.{Matched}

-- whether a byte of a template is a number's place
unfoldable pub capital : ℕ → Bool
capital b = nat_le 65 b && nat_le b 90

-- how many numbers a template has
unfoldable pub holes : List ℕ → ℕ
holes [] = 0
holes (b ∷ t) = elim (capital b) [ true ↦ suc (holes t) | false ↦ holes t ]

-- the template t with the numbers ns in place of its capitals, before the bytes s
unfoldable pub filled : List ℕ → List ℕ → List ℕ → List ℕ
filled [] ns s = s
filled (b ∷ t) ns s =
    elim (capital b) [ true ↦ printed (slice_index ns 0) (filled t (drop 1 ns) s) | false ↦ b ∷ filled t ns s ]

-- the template t read off the front of a text: its numbers after the numbers ns, and what is left of the text
unfoldable pub matched : List ℕ → List ℕ → List ℕ → Option (List ℕ × List ℕ)
matched ns [] s = Some (ns, s)
matched ns (b ∷ t) [] = None
matched ns (b ∷ t) (a ∷ s) =
    elim (capital b) [
      | true ↦ elim (number (a ∷ s)) [ None ↦ None | Some p ↦ matched (ns ++ (p.0 ∷ [])) t p.1 ]
      | false ↦ elim (b == a) [ true ↦ matched ns t s | false ↦ None ]
    ]

-- numbers with zeros after them, eight in all
abbrev pub eight : List ℕ → List ℕ
eight ns = in_places 0 ns

-- what was read of a text of n bytes, with the place where what is left begins
abbrev pub matched_of : ℕ → Option (List ℕ × List ℕ) → Option Matched
matched_of n None = None
matched_of n (Some p) = Some (record { end = n - length p.1; values = eight p.0 })

-- the template at a place of a text
unfoldable pub matched_at : List ℕ → List ℕ → ℕ → Option Matched
matched_at t s at = matched_of (length s) (matched [] t (drop at s))

-- a line that has bytes after the template is not the template's
unfoldable pub whole_of : Option (List ℕ × List ℕ) → Option (List ℕ)
whole_of None = None
whole_of (Some (ns, [])) = Some ns
whole_of (Some (ns, b ∷ s)) = None

-- the numbers of a line that is the template t with numbers in it
unfoldable pub line_numbers : List ℕ → List ℕ → Option (List ℕ)
line_numbers t s = whole_of (matched [] t s)

-- the answer: its numbers, eight in all
abbrev pub numbers_from : Option (List ℕ) → Option (List ℕ)
numbers_from None = None
numbers_from (Some ns) = Some (eight ns)

-- what a whole line is by a template
abbrev pub numbers_by : List ℕ → List ℕ → Option (List ℕ)
numbers_by t s = numbers_from (line_numbers t s)
