-- `reading::read` meets its contract.
-- Assumes nothing.
use Prim.Native.Nat.{◌+◌, ◌-◌}
use lib.ListN.{length}
use Rattle.losses.specs.Treaties.{treaties_from}
use Rattle.reading.proofs.LossRead as loss
use Rattle.reading.proofs.LineRead as law
use Rattle.reading.proofs.read.Given as goal

abbrev pub invariant-losses : goal.invariant-losses
invariant-losses l =
    loss.Listed (treaties_from l.register) l.rest l.day l.initial.places l.places (l.end + 2) l.place l.count l.outside l.lacks l.next

abbrev pub decreases-losses : goal.decreases-losses
decreases-losses l =
    length l.rest - l.place

abbrev pub invariant-lines : goal.invariant-lines
invariant-lines l =
    law.Going l.register l.text l.last l.initial.places l.places l.before l.end l.idle l.number l.at

abbrev pub decreases-lines : goal.decreases-lines
decreases-lines l =
    length l.text - l.at
