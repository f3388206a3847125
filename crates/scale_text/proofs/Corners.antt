-- Document 02, Q-12: figures of reading a scale text, worked out by hand.
-- Assumes nothing.
use mathlib.Core.Path.{◌≡◌, refl}
use mathlib.Core.List.{List, [], ◌∷◌, ◌++◌, map}
use Prim.Native.Nat.{ℕ}
use Prim.Native.String.{String}
use lib.ListN.{replicate}
use Rattle.std.specs.Prelude.{Ok, Err}
use Rattle.refusal.specs.declared.Refusal.TheVariants.{ShareOutside}
use Rattle.text.specs.Bytes.{bytes}
use Rattle.text.specs.Number.{printed_by, printed, digit_of, read_on, number}
use Rattle.text.specs.Template.{capital, filled, matched, whole_of, line_numbers}
use Rattle.text.specs.Lines.{lines_of}
use Rattle.scale_text.specs.declared.ScaleReading.{ScaleReading}
use Rattle.scale_text.specs.Read.{reading_of, day_fault, line_fault, read_from, read_of}
use Rattle.scale_text.specs.Days.{scale_text_of}

-- the two answers, typed out: a scale, or a refusal and its line with every share 0
abbrev scale : List ℕ → ScaleReading
scale ss = record { refusal = 0; line = 0; scale = record { shares = ss } }

abbrev refused : (refusal line : ℕ) → ScaleReading
refused n w = record { refusal = n; line = w; scale = record { shares = replicate 366 0 } }

-- what a text reads to
abbrev reading : String → ScaleReading
reading s = read_of (bytes s)

-- what a text reads to from day 365 on, after 364 days of the share 50
abbrev last_days : String → ScaleReading
last_days s = read_from 365 50 (replicate 364 50) (lines_of (bytes s))

pub record Corners : Type 0 where
  -- a whole scale, with its last two shares, which may be equal to the one before, below it, and 0
  pub whole : map last_days
      ("(day 365 50)\n(day 366 49)\n" ∷ "(day 365 50)\n(day 366 50)\n" ∷ "(day 365 1)\n(day 366 0)\n" ∷ [])
      ≡ scale (replicate 364 50 ++ (50 ∷ 49 ∷ [])) ∷ scale (replicate 364 50 ++ (50 ∷ 50 ∷ []))
      ∷ scale (replicate 364 50 ++ (1 ∷ 0 ∷ [])) ∷ []
  -- short: 28, of no line
  pub short : map last_days ("(day 365 50)\n" ∷ "" ∷ []) ≡ refused 28 0 ∷ refused 28 0 ∷ []
  pub shorter : map reading ("" ∷ "(day 1 70)\n" ∷ "(day 1 70)\n(day 2 50)\n" ∷ [])
      ≡ refused 28 0 ∷ refused 28 0 ∷ refused 28 0 ∷ []
  -- long: 28 of line 367, whatever it is, also where it does not end, or has a share out of range or rising
  pub long : map last_days
      ("(day 365 50)\n(day 366 49)\n(day 367 49)\n" ∷ "(day 365 50)\n(day 366 49)\n\n"
      ∷ "(day 365 50)\n(day 366 49)\n(day 366 49)\n" ∷ "(day 365 50)\n(day 366 49)\n(day 367 10001)\n"
      ∷ "(day 365 50)\n(day 366 49)\n(day 367 50)\n(day 368 50)\n" ∷ "(day 365 50)\n(day 366 49)\n(" ∷ [])
      ≡ replicate 6 (refused 28 367)
  -- a line before it at fault decides
  pub long-after-fault : map last_days
      ("(day 365 51)\n(day 366 49)\n(day 367 49)\n" ∷ "(day 365 50)\n(day 366 10001)\n(day 367 49)\n" ∷ [])
      ≡ refused 30 365 ∷ refused 29 366 ∷ []
  -- a last line that does not end is 28 of its own number, also with a share out of range
  pub unended : map last_days ("(day 365 50)\n(day 366 49)" ∷ "(day 365 50)" ∷ [])
      ≡ refused 28 366 ∷ refused 28 365 ∷ []
  pub unended-first : map reading ("(day 1 70)" ∷ "(day 1 70)\n(day 2 10001)" ∷ []) ≡ refused 28 1 ∷ refused 28 2 ∷ []
  -- out of form: a leading zero, a number or a bracket more or less, a blank more, another word, seventeen digits
  pub form : map reading
      ("(day 01 5)\n" ∷ "(day 1 05)\n" ∷ "(day 1)\n" ∷ "(day 1 5 5)\n" ∷ "(day 1 5\n" ∷ "(day 1  5)\n" ∷ "(day 1 5) \n"
      ∷ "(days 1 5)\n" ∷ "\n" ∷ "(day 1 10000000000000000)\n" ∷ [])
      ≡ replicate 10 (refused 28 1)
  pub form-later : map reading ("(day 1 70)\n\n(day 2 50)\n" ∷ "(day 1 70)\n(day 2 50)\n(day 3 00)\n" ∷ [])
      ≡ refused 28 2 ∷ refused 28 3 ∷ []
  -- a day out of order: from 1, none twice, none left out
  pub order : map reading
      ("(day 0 5)\n" ∷ "(day 2 5)\n" ∷ "(day 367 5)\n" ∷ "(day 1 70)\n(day 1 60)\n" ∷ "(day 1 70)\n(day 3 60)\n" ∷ [])
      ≡ refused 28 1 ∷ refused 28 1 ∷ refused 28 1 ∷ refused 28 2 ∷ refused 28 2 ∷ []
  pub last-order : map last_days ("(day 365 50)\n(day 367 50)\n" ∷ "(day 364 50)\n(day 365 50)\n" ∷ [])
      ≡ refused 28 366 ∷ refused 28 365 ∷ []
  -- before its share is looked at
  pub order-first : map reading ("(day 1 70)\n(day 3 10001)\n" ∷ "(day 1 70)\n(day 3 71)\n" ∷ "(day 0 10001)\n" ∷ [])
      ≡ refused 28 2 ∷ refused 28 2 ∷ refused 28 1 ∷ []
  -- a share out of range: above 10,000, and then not called rising
  pub range : map reading
      ("(day 1 10000)\n" ∷ "(day 1 10001)\n" ∷ "(day 1 9999999999999999)\n" ∷ "(day 1 70)\n(day 2 10001)\n"
      ∷ "(day 1 70)\n(day 2 50)\n(day 3 10001)\n" ∷ [])
      ≡ refused 28 0 ∷ refused 29 1 ∷ refused 29 1 ∷ refused 29 2 ∷ refused 29 3 ∷ []
  -- a rising share: above that of the day before, though not above an earlier one; an equal one is none
  pub rising : map reading
      ("(day 1 70)\n(day 2 70)\n" ∷ "(day 1 70)\n(day 2 71)\n" ∷ "(day 1 70)\n(day 2 10000)\n"
      ∷ "(day 1 70)\n(day 2 50)\n(day 3 51)\n" ∷ "(day 1 0)\n(day 2 0)\n(day 3 1)\n" ∷ [])
      ≡ refused 28 0 ∷ refused 30 2 ∷ refused 30 2 ∷ refused 30 3 ∷ refused 30 3 ∷ []
  pub last-rising : map last_days ("(day 365 50)\n(day 366 51)\n" ∷ "(day 365 49)\n(day 366 50)\n" ∷ [])
      ≡ refused 30 366 ∷ refused 30 366 ∷ []
  -- the first line at fault decides, whatever its number
  pub first : map reading
      ("(day 1 10001)\n(day 2 0)\n\n" ∷ "(day 1 70)\n(day 2 71)\n(day 3 10001)\n\n" ∷ "\n(day 2 10001)\n" ∷ [])
      ≡ refused 29 1 ∷ refused 30 2 ∷ refused 28 1 ∷ []
  -- a text of any length is read: line feeds alone, one more than an events text may have
  pub lengthy : read_of (replicate 65537 10) ≡ refused 28 1
  -- what is answered of shares, and of a refusal with its line
  pub of-shares : reading_of (Ok (70 ∷ 50 ∷ [])) ≡ scale (70 ∷ 50 ∷ [])
  pub of-refusal : reading_of (Err (record { refusal = ShareOutside; number = 4 })) ≡ refused 29 4
  -- the text of a scale
  pub text : map scale_text_of ((10000 ∷ []) ∷ (70 ∷ 50 ∷ 0 ∷ []) ∷ [])
      ≡ bytes "(day 1 10000)\n" ∷ bytes "(day 1 70)\n(day 2 50)\n(day 3 0)\n" ∷ []

pub corners : Corners
unfolding printed_by printed digit_of read_on number capital filled matched whole_of line_numbers lines_of day_fault line_fault
    read_from read_of
corners = record {
  whole = refl;
  short = refl;
  shorter = refl;
  long = refl;
  long-after-fault = refl;
  unended = refl;
  unended-first = refl;
  form = refl;
  form-later = refl;
  order = refl;
  last-order = refl;
  order-first = refl;
  range = refl;
  rising = refl;
  last-rising = refl;
  first = refl;
  lengthy = refl;
  of-shares = refl;
  of-refusal = refl;
  text = refl;
}
