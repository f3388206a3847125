-- Document 02, Q-12: "It is read as 366 lines `(day D S)`, D from 1 to 366 in order, S 0 to 10,000 and never rising."
-- Assumes nothing.
use Rattle.std.specs.Prelude.{true, false, cond, List, [], ◌∷◌, ◌++◌, ℕ, zero, suc, ◌+◌, eqb, leb, replicate, get_or}
use Rattle.std.specs.Prelude.{Option, None, Some, Result, Ok, Err}
use Rattle.refusal.specs.declared.Refused.{Refused}
use Rattle.refusal.specs.Refusal.{number_of}
use Rattle.text.specs.Bytes.{bytes}
use Rattle.text.specs.Template.{line_numbers}
use Rattle.text.specs.Lines.{lines_of}
use Rattle.scale_text.specs.declared.ScaleReading.{ScaleReading}

-- the form of a line
abbrev pub day_text : List ℕ
day_text = bytes "(day D S)"

-- "A refused scale comes back with every share 0."
abbrev pub refused_at : (refusal line : ℕ) → ScaleReading
refused_at n w = record { refusal = n; line = w; scale = record { shares = replicate 366 0 } }

-- a success
abbrev pub read_as : List ℕ → ScaleReading
read_as shares = record { refusal = 0; line = 0; scale = record { shares = shares } }

-- what is answered where the shares of a text were read, or refused
abbrev pub reading_of : Result (List ℕ) Refused → ScaleReading
reading_of (Ok shares) = read_as shares
reading_of (Err f) = refused_at (number_of f.refusal) f.number

-- what the rules find at fault with D and S on the line of day d, after the share of the day before: 28, "a day out of
-- order"; 29, "a share out of range"; 30, "a rising share"; on one line the lowest
unfoldable pub day_fault : (d before D S : ℕ) → ℕ
day_fault d before D S = cond (eqb D d) (cond (leb S 10000) (cond (leb S before) 0 30) 29) 28

-- the fault of a line in the place of day d; a line that is no such form, and any line after the 366th, is 28
unfoldable pub line_fault : (d before : ℕ) → Option (List ℕ) → ℕ
line_fault d before None = 28
line_fault d before (Some v) = cond (leb d 366) (day_fault d before (get_or v 0 0) (get_or v 1 0)) 28

-- a line's numbers; bytes after the last line feed are no form
abbrev pub day_numbers : Option (List ℕ) → Option (List ℕ)
day_numbers None = None
day_numbers (Some l) = line_numbers day_text l

-- the share of a line that is the form
abbrev pub share_in : Option (List ℕ) → ℕ
share_in None = 0
share_in (Some v) = get_or v 1 0

-- fault n of line w, or what the lines after it give where n is 0
abbrev pub unless_fault : (n w : ℕ) → ScaleReading → ScaleReading
unless_fault zero w r = r
unless_fault (suc n) w r = refused_at (suc n) w

-- The lines from that of day d on, after the share of the day before and all shares before: the first line at fault
-- from the top decides. Too few lines are 28, and no line is at fault.
unfoldable pub read_from : (d before : ℕ) (shares : List ℕ) → List (Option (List ℕ)) → ScaleReading
read_from d before shares [] = elim (eqb d 367) [ true ↦ read_as shares | false ↦ refused_at 28 0 ]
read_from d before shares (l ∷ ls) =
    unless_fault (line_fault d before (day_numbers l)) d
    (read_from (d + 1) (share_in (day_numbers l)) (shares ++ (share_in (day_numbers l) ∷ [])) ls)

-- reading a scale text, of any length
unfoldable pub read_of : List ℕ → ScaleReading
read_of s = read_from 1 10000 [] (lines_of s)
