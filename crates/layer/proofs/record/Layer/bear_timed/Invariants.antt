-- `layer::record::Layer::bear_timed` meets its contract.
-- Assumes nothing.
use Rattle.layer.proofs.BearPass as law
use Rattle.layer.proofs.record.Layer.bear_timed.Given as goal

abbrev pub invariant-loop-subject : goal.invariant-loop-subject
invariant-loop-subject l = law.Charging l.subjects l.self l.sums.share l.subject-index l.spent l.premium l.due
