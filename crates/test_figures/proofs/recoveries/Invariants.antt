-- `test_figures::recoveries` keeps the layer sound from turn to turn.
use Rattle.layer.specs.Ranges.{Sound}
use Rattle.test_figures.proofs.recoveries.Given as goal

abbrev pub invariant-loop-subject : goal.invariant-loop-subject
invariant-loop-subject g l = Sound l.now
