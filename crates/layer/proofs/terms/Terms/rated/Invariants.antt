-- `layer::terms::Terms::rated` meets its contract.
-- Assumes nothing.
use Rattle.layer.proofs.SlicePass as law
use Rattle.layer.proofs.terms.Terms.rated.Given as goal

abbrev pub invariant-loop-rate : goal.invariant-loop-rate
invariant-loop-rate l = law.Added l.self l.used.0 l.sum.0 l.below.0 l.end.0 l.rate-index
