-- `losses::event::cede_each` meets its contract.
-- Assumes nothing.
use Rattle.losses.proofs.CedePass as law
use Rattle.losses.proofs.event.cede_each.Goals as goal

pub cede-cession-requires : goal.cede-cession-requires
cede-cession-requires c = law.next_cedable c.loop-i.invariant c.loop-i-test.true _ c.loss_at-loss.ensures

pub overflow_add-cessions : goal.overflow_add-cessions
overflow_add-cessions c = search law.sum_fits

pub overflow_add-ceded : goal.overflow_add-ceded
overflow_add-ceded c = search law.ceded-fits

pub loop-i-preserved : goal.loop-i-preserved
loop-i-preserved c = search law.one-ceded
