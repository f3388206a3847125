-- `booking::book::book` meets its contract.
-- Assumes nothing.
use borrow.Author.Rules.{rules}
use Rattle.booking.proofs.EventsBooking as law
use Rattle.booking.proofs.book.book.Goals as goal
use Rattle.booking.proofs.book.book.Goals.{then-count-eq0, else-count-eq0}

pub loop-at-init : goal.loop-at-init
loop-at-init c = search law.booking_begins

pub count_at-count-requires : goal.count_at-count-requires
count_at-count-requires c = search law.head_inside

pub losses_end-at-requires : goal.losses_end-at-requires
losses_end-at-requires c =
    law.end-small c.loop-at.invariant c.loop-at-test.true _ c.count_at-count.ensures _
    c.losses_from-begin.ensures

pub put_idle-next-requires : goal.put_idle-next-requires
put_idle-next-requires c = search law.next_small

pub slice_bounds-enter-end : goal.slice_bounds-enter-end
slice_bounds-enter-end c =
    let inside = law.end-inside c.loop-at.invariant c.loop-at-test.true _ c.count_at-count.ensures _
    c.losses_from-begin.ensures _ c.day_at-day.ensures _ c.losses_end-at.ensures in
    search rules

pub enter-amounts-requires : goal.enter-amounts-requires
enter-amounts-requires c =
    law.can_enter c.loop-at.invariant c.loop-at-test.true _ c.count_at-count.ensures _
    c.losses_from-begin.ensures _ c.day_at-day.ensures _ c.losses_end-at.ensures

pub total_with-total-requires : goal.total_with-total-requires
total_with-total-requires c =
    law.room_for c.loop-at.invariant c.loop-at-test.true _ c.count_at-count.ensures _
    c.losses_from-begin.ensures _ c.day_at-day.ensures _ c.losses_end-at.ensures
    c.if-count-eq0.false c.enter-amounts.ensures

pub put_event-next-requires : goal.put_event-next-requires
put_event-next-requires c = let small = law.next_small c.loop-at.invariant in search rules

pub loop-at-preserved : goal.loop-at-preserved
loop-at-preserved c =
    let g = c.loop-at.invariant in
    elim c.if-count-eq0.branch [
      | then-count-eq0 w ↦
          rw (w.standing-is, w.cessions-is, w.out-is, w.total-is, w.next-is)
          (law.one-idle g c.loop-at-test.true _ c.count_at-count.ensures _ c.losses_from-begin.ensures _
          c.day_at-day.ensures _ c.losses_end-at.ensures w.if-count-eq0.true w.put_idle-next.ensures.0
          w.put_idle-next.ensures.1 w.put_idle-next.auto.out)
      | else-count-eq0 w ↦
          rw (w.standing-is, w.cessions-is, w.out-is, w.total-is, w.next-is)
          (law.one-entered g c.loop-at-test.true _ c.count_at-count.ensures _ c.losses_from-begin.ensures _
          c.day_at-day.ensures _ c.losses_end-at.ensures w.if-count-eq0.false w.enter-amounts.ensures
          w.total_with-total.ensures w.put_event-next.ensures.0 w.put_event-next.ensures.1 w.put_event-next.auto.out)
    ]

pub returns : goal.returns
returns c = law.all-booked c.loop-at.invariant c.loop-at-test.false
