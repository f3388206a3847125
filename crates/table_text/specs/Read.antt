-- Document 01, When a call is turned down: reading a table.
-- Assumes nothing.
use Rattle.std.specs.Prelude.{true, false, Option, None, Some, Result, Ok, Err, List, [], ◌∷◌, ℕ, zero, suc, ◌+◌, ltb, length}
use Rattle.refusal.specs.declared.Refused.{Refused}
use Rattle.refusal.specs.Refusal.{number_of}
use Rattle.programme.specs.declared.contract.Programme.{Programme}
use Rattle.programme.specs.declared.contract.Contract.{Contract}
use Rattle.programme.specs.Contract.{Contracts, no_contracts, with_contract, programme_of}
use Rattle.programme.specs.Rules.{fault_of}
use Rattle.table_text.specs.declared.Reading.{Reading}
use Rattle.table_text.specs.Forms.{forms_of}

-- a refusal: its number, the line, and the programme without contracts
abbrev pub refused_at : (refusal line : ℕ) → Reading
refused_at n w = record { refusal = n; line = w; programme = programme_of no_contracts }

-- a success
abbrev pub read_as : Programme → Reading
read_as p = record { refusal = 0; line = 0; programme = p }

-- the same of the programme read, or of what refused the call
abbrev pub reading_of : Result Programme Refused → Reading
reading_of (Ok p) = read_as p
reading_of (Err f) = refused_at (number_of f.refusal) f.number

-- fault n of line w, or what the lines after it give where n is 0
abbrev pub unless_fault : (n w : ℕ) → Reading → Reading
unless_fault zero w r = r
unless_fault (suc n) w r = refused_at (suc n) w

-- The lines from number w on, after the contracts c: the first line at fault from the top decides. A line that is no
-- form is fault 2.
unfoldable pub read_from : ℕ → Contracts → List (Option Contract) → Reading
read_from w c [] = read_as (programme_of c)
read_from w c (None ∷ fs) = refused_at 2 w
read_from w c (Some x ∷ fs) = unless_fault (fault_of c x) w (read_from (w + 1) (with_contract c x) fs)

-- reading a text: 1, over 8,192 bytes, with line 0; then line by line
unfoldable pub read_of : List ℕ → Reading
read_of s = elim (ltb 8192 (length s)) [ true ↦ refused_at 1 0 | false ↦ read_from 1 no_contracts (forms_of s) ]
