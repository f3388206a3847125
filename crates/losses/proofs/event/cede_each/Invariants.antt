-- `losses::event::cede_each` meets its contract.
-- Assumes nothing.
use Rattle.losses.specs.Cede.{losses_from}
use Rattle.losses.proofs.CedePass as law
use Rattle.losses.proofs.event.cede_each.Given as goal

abbrev pub invariant-loop-i : goal.invariant-loop-i
invariant-loop-i l =
    law.Ceding l.register (losses_from l.losses) l.count l.initial.left l.initial.cessions l.left l.cessions l.taken l.gross l.ceded l.i
