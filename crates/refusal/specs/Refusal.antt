-- Documents 01 and 02, When a call is turned down: the refusals by their numbers.
-- Assumes nothing.
use Rattle.std.specs.Prelude.{ℕ, Result, Ok, Err}
use Rattle.refusal.specs.declared.Refusal.{Refusal}
use Rattle.refusal.specs.declared.Refusal.TheVariants as the

-- the number of a refusal
abbrev pub number_of : Refusal → ℕ
number_of the.TableTooLong = 1
number_of the.NotATableForm = 2
number_of the.TableNumberOutOfRange = 3
number_of the.TableOutOfOrder = 4
number_of the.BandsOverlap = 5
number_of the.NotAProgramme = 6
number_of the.BufferTooShort = 7
number_of the.NotAStanding = 8
number_of the.EventsTooLong = 9
number_of the.NotAnEventForm = 10
number_of the.EventNumberOutOfRange = 11
number_of the.TooManyLosses = 12
number_of the.DayGoesBack = 13
number_of the.NoSuchTreaty = 14
number_of the.NotAScale = 28
number_of the.ShareOutside = 29
number_of the.ShareRising = 30

-- the number of the refusal that a test answers, 0 where it refuses nothing
abbrev pub refusal_number : {A : Type 0} → Result A Refusal → ℕ
refusal_number (Ok a) = 0
refusal_number (Err r) = number_of r
