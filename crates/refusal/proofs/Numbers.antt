-- Documents 01 and 02, When a call is turned down: no refusal has the number 0, which says that there is none.
-- Assumes nothing.
use Rattle.std.proofs.Common.{◌≡◌, refl, suc, ◌-◌}
use Rattle.refusal.specs.declared.Refusal.{Refusal}
use Rattle.refusal.specs.declared.Refusal.TheVariants as the
use Rattle.refusal.specs.Refusal.{number_of}

pub not_zero : (r : Refusal) → number_of r ≡ suc (number_of r - 1)
not_zero the.TableTooLong = refl
not_zero the.NotATableForm = refl
not_zero the.TableNumberOutOfRange = refl
not_zero the.TableOutOfOrder = refl
not_zero the.BandsOverlap = refl
not_zero the.NotAProgramme = refl
not_zero the.BufferTooShort = refl
not_zero the.NotAStanding = refl
not_zero the.EventsTooLong = refl
not_zero the.NotAnEventForm = refl
not_zero the.EventNumberOutOfRange = refl
not_zero the.TooManyLosses = refl
not_zero the.DayGoesBack = refl
not_zero the.NoSuchTreaty = refl
not_zero the.NotAScale = refl
not_zero the.ShareOutside = refl
not_zero the.ShareRising = refl
