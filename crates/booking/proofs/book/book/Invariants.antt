-- `booking::book::book` meets its contract.
-- Assumes nothing.
use Prim.Native.Nat.{◌-◌}
use lib.ListN.{length}
use Rattle.booking.proofs.EventsBooking as law
use Rattle.booking.proofs.book.book.Given as goal

abbrev pub invariant-loop-at : goal.invariant-loop-at
invariant-loop-at l =
    law.Booking l.basis l.events l.initial.standing l.initial.out l.standing l.cessions l.out l.total l.next l.at

abbrev pub decreases-loop-at : goal.decreases-loop-at
decreases-loop-at l = length l.events - l.at
