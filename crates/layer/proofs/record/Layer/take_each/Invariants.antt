-- `layer::record::Layer::take_each` meets its contract.
-- Assumes nothing.
use Rattle.layer.proofs.LayerPass as law
use Rattle.layer.proofs.record.Layer.take_each.Given as goal

abbrev pub invariant-loop-subject : goal.invariant-loop-subject
invariant-loop-subject l = law.Taking l.subjects l.initial.layer l.subject-index l.layer
