-- `test_figures::premiums` keeps the layer sound from turn to turn.
use Rattle.layer.specs.Ranges.{Sound}
use Rattle.test_figures.proofs.premiums.Given as goal

abbrev pub invariant-loop-day : goal.invariant-loop-day
invariant-loop-day g l = Sound l.now
